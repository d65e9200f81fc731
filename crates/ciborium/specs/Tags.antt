-- What the types of tags around a value name (RFC 8949, section 3.4).
use Rattle.std.specs.Prelude.{ℕ, Option, Some, None}
use Rattle.ciborium_value.specs.Sinks.{Named, tag_of}

-- a tag over what the content names; without one that alone
abbrev pub captured_of : Option ℕ → Named → Named
captured_of (Some t) n = tag_of t n
captured_of None n = n
