-- Bytes and offsets.
use Rattle.std.specs.Prelude.{ℕ, ◌-◌, ◌^◌, ◌<◌, List, All}

-- each number is a byte
abbrev pub AreBytes : List ℕ → Type 0
AreBytes b = All (λ x. x < 256) b

-- the greatest `usize`: no offset passes it, and no string or container is longer
abbrev pub greatest_offset : ℕ
greatest_offset = 2 ^ 64 - 1
