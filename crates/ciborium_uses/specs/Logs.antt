-- Where a log ends: a sequence of items (RFC 8742, section 2) that may be cut within its last one.
use Rattle.std.specs.Prelude.{◌≡◌, ℕ, ◌+◌, List, ◌++◌, length, Some}
use Rattle.ciborium.specs.{Item.Item, SequenceReads.GivesThen, Spells.Spells, Given.Given}

-- no item begins with the first byte of b, and ends within b
abbrev pub BeginsNoItem : List ℕ → Type 0
BeginsNoItem b = (i : Item) (s left : List ℕ) → Spells s i → ¬ (b ≡ s ++ left)

-- the first `end` bytes of b are items that give values of the type, one after the other, and no
-- item is whole in the rest
abbrev pub IsEndOfLog : {A : Type 0} → Given A → List ℕ → ℕ → Type 0
IsEndOfLog {A} taken b end = (cs : List A) × (rest : List ℕ) ×
    GivesThen (Some 256) taken b cs rest × (length b ≡ end + length rest) × BeginsNoItem rest
