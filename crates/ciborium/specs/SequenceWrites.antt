-- Writing a sequence of values (RFC 8742, section 2): what a call that writes one after the other
-- puts out and answers.
use Rattle.std.specs.Prelude.{ℕ, List, Option, Result, Ok, Err, IsErr}
use Rattle.ciborium_ll.specs.{Item.Item, Writing.Writes, declared.kind.Kind.Kind}
use Rattle.ciborium_value.specs.{Encoding.items_bytes, Places.items_from, WrittenItems.AreWritten}

-- what the values of a list name: the items that they write, or the kind of the first that has none
abbrev pub AllNamed : Type 0
AllNamed = Result (List Item) Kind

-- the bytes of the items that are named, one after the other: all at `Ok`, a proper beginning of
-- them at `Err`, and nothing else. Values
-- of which one names no item are never all written
abbrev pub WritesInTurn : {E : Type 0} → Option (List ℕ) → Option (List ℕ) → Result (Unit {0}) E → AllNamed → Type 0
WritesInTurn old new result (Ok is) = Writes old new result (items_bytes (items_from is))
WritesInTurn old new result (Err kind) = IsErr result

-- the items that are named can be written
abbrev pub AreNamedWritten : AllNamed → Type 0
AreNamedWritten (Ok is) = AreWritten (items_from is)
AreNamedWritten (Err kind) = ⊥
