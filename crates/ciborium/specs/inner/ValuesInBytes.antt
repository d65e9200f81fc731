-- What reading a value takes from known bytes.
use Rattle.std.specs.Prelude.{◌≡◌, ℕ, ◌+◌, ◌*◌, ◌-◌, ◌<◌, Bool, List, ◌++◌, length, Option, Some, None}
use Rattle.ciborium_ll.specs.{declared.header.Header.Header, declared.decoder.Decoder.Decoder, Bytes.greatest_offset}
use Rattle.ciborium_ll.specs.{Head.break_byte, Header.SpellsHeader, Refusal.{IsUsable, IsAtFront}, Decoding.IsAhead}
use Rattle.ciborium_ll.specs.Decoding.{IsMeasured, left_of}
use Rattle.ciborium.specs.{declared.de.error.Error.Error, Errors.HasEndedBy}
use Rattle.ciborium_value.specs.Spelling.{Spelling, any, deterministic}

-- b is ahead, its first byte at offset p; for the deterministic spelling the decoder knows how many
-- bytes its last head has
abbrev pub StandsAt : {S W : Type 0} → Spelling → (S → Option (List ℕ)) → Decoder S W → List ℕ → ℕ → Type 0
StandsAt any remaining d b p = IsAhead remaining d b p
StandsAt (deterministic order) remaining d b p = IsAhead remaining d b p × IsMeasured d

-- no head is pushed, xs is left, and its first byte is at offset p
abbrev pub IsAt : {S W : Type 0} → (S → Option (List ℕ)) → Decoder S W → List ℕ → ℕ → Type 0
IsAt remaining d xs p = (d.counter.count ≡ p) × (left_of remaining d ≡ Some xs)

-- a head was pulled where xs was ahead from offset p on
abbrev pub IsPulled : {S W : Type 0} → (S → Option (List ℕ)) → Decoder S W → Header → List ℕ → ℕ → Type 0
IsPulled remaining d header xs p = (h : List ℕ) × (r : List ℕ) ×
    SpellsHeader h header × IsUsable xs p × (xs ≡ h ++ r) × (d.last ≡ p) × IsAt remaining d r (p + length h)

-- a break stands at the front and may be read
abbrev pub IsBreakAt : List ℕ → ℕ → Type 0
IsBreakAt b p = (p < greatest_offset) × IsAtFront break_byte b

abbrev pub heads_by : ℕ → Option (Header × ℕ) → ℕ
heads_by n None = 2 * n
heads_by n (Some h) = 2 * n + 1

-- a bound on the heads that can still be pulled
abbrev pub heads_left : {S W : Type 0} → Decoder S W → ℕ
heads_left d = heads_by (greatest_offset - d.counter.count) d.pushed

-- where a call could not be given more, the reader is at its end, unless it can fail before
abbrev pub HasEndedAfter : {S W E : Type 0} → Bool → (S → Option (List ℕ)) → Decoder S W → Error E → Type 0
HasEndedAfter can_fail remaining d e = HasEndedBy can_fail (left_of remaining d) e
