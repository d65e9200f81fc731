-- Bytes that are one item, or begin with none, as a spelling is asked for (RFC 8949, sections 3 and
-- 4.2).
use Rattle.std.specs.Prelude.{◌≡◌, ℕ, List, ◌++◌, Some}
use Rattle.ciborium_ll.specs.Refusal.{Refusal}
use Rattle.ciborium_value.specs.{Refuses.Refuses, Spelling.{any, deterministic, IsReadAs}, Tree.Tree}
use Rattle.cbor.specs.{declared.reading.Spelling.Spelling, declared.reading.Spelling.TheVariants.{Any, Deterministic}}
use Rattle.ciborium_value.specs.Spelling as reading

-- the spelling that is asked for
abbrev pub spelling_of : Spelling → reading.Spelling
spelling_of Any = any
spelling_of (Deterministic order) = deterministic order

-- b is one item within so many levels, which is read as v
abbrev pub IsItem : Spelling → List ℕ → ℕ → Tree → Type 0
IsItem spelling b limit v = IsReadAs (spelling_of spelling) b 0 (Some limit) v

-- such an item is at the front of b, and left follows it
abbrev pub HasItemBefore : Spelling → List ℕ → ℕ → Tree → List ℕ → Type 0
HasItemBefore spelling b limit v left = (s : List ℕ) × IsItem spelling s limit v × (b ≡ s ++ left)

-- b begins with no such item, for this reason
abbrev pub RefusesItem : Spelling → List ℕ → ℕ → Refusal → Type 0
RefusesItem spelling b limit e = Refuses (spelling_of spelling) b 0 (Some limit) e
