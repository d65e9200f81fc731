-- What `{}` prints of an error.
use Rattle.std.specs.{Fmt.◌++?◌, Prelude.{ℕ, List, ◌++◌, Option, Some, codes, decimal}}
use Rattle.ciborium_ll.specs.declared.{header.Error.{Error, TheVariants.{Io, Syntax, TooLong, Memory}}, kind.Kind.Kind}
use Rattle.ciborium_ll.specs.declared.kind.Kind.TheVariants as kinds

-- where something stands, and what is said of it
abbrev pub at_byte : ℕ → List ℕ → List ℕ
at_byte p text = codes "at byte " ++ decimal p ++ codes ": " ++ text

-- the bytes at an offset are no CBOR (RFC 8949, appendix F)
abbrev pub syntax_message : ℕ → List ℕ
syntax_message p = at_byte p (codes "not well-formed CBOR")

abbrev pub too_long_message : List ℕ
too_long_message = codes "the item would end past usize::MAX bytes"

abbrev pub memory_message : List ℕ
memory_message = codes "an allocation failed"

-- a number is not one of a type's
abbrev pub range_message : List ℕ
range_message = codes "an integer out of the type's range"

-- what was met, or what it is not
abbrev pub kind_message : Kind → List ℕ
kind_message kinds.Float = codes "a floating-point number"
kind_message kinds.Simple = codes "an unassigned simple value"
kind_message kinds.Break = codes "a break where an item has to stand"
kind_message kinds.TooLarge = codes "a bignum that is too large"
kind_message kinds.Integer = codes "not an integer"
kind_message kinds.Bool = codes "not a boolean"
kind_message kinds.Unit = codes "not null"
kind_message kinds.Text = codes "not a text string"
kind_message kinds.Char = codes "not a text string of one character"
kind_message kinds.Bytes = codes "not a byte string"
kind_message kinds.Array = codes "not an array"
kind_message kinds.Map = codes "not a map"
kind_message kinds.Name = codes "not a name"
kind_message kinds.Variant = codes "not a variant of the enum"
kind_message kinds.Range = range_message
kind_message kinds.Tag = codes "not the required tag"
kind_message kinds.Length = codes "an array too short for the tuple"
kind_message kinds.Other = codes "a value that the type refuses"
-- RFC 8949, section 4.2
kind_message kinds.NotShortest = codes "a head longer than it has to be, or undefined in place of null"
kind_message kinds.Open = codes "an indefinite length where only definite ones are accepted"
kind_message kinds.NotFolded = codes "a bignum that fits in 64 bits, or has leading zeros"
kind_message kinds.KeyOrder = codes "a key out of order"
kind_message kinds.DuplicateKey = codes "two equal keys in one map"
kind_message kinds.UnknownField = codes "an unknown field"
kind_message kinds.TrailingData = codes "bytes behind the item"
kind_message kinds.NotDeterministic = codes "another encoding than the deterministic one of the value"

-- the reader failed with an error of this text; not known where that is not
abbrev pub read_failure_message : Option (List ℕ) → Option (List ℕ)
read_failure_message text = Some (codes "reading failed: ") ++? text

-- the message of an error of the lowest layer, where `output` is what `{}` prints of the reader's
-- errors
abbrev pub head_error_message : {E : Type 0} → (E → Option (List ℕ)) → Error E → Option (List ℕ)
head_error_message output (Io e) = read_failure_message (output e)
head_error_message output (Syntax p) = Some (syntax_message p)
head_error_message output TooLong = Some too_long_message
head_error_message output Memory = Some memory_message
