-- Reading a whole sequence of items (RFC 8742, section 2) as values of one type.
use Rattle.std.specs.Prelude.{◌≡◌, ℕ, List, [], ◌∷◌, ◌++◌, Option, Some, None, Result, IfErr, IfOk}
use Rattle.ciborium_ll.specs.{Item.Item, Spells.Spells}
use Rattle.ciborium_value.specs.{Nesting.Limit, Sources.IsOutsideFault, Given.{Given, gives, outcome}}
use Rattle.ciborium.specs.{declared.de.error.Error.Error, Errors.fault_of, TypedAnswers.IsFaultAhead}

-- b begins with spellings of items that give these values within the limit, one after the other,
-- and u follows them
abbrev pub GivesThen : {A : Type 0} → Limit → Given A → List ℕ → List A → List ℕ → Type 0
GivesThen l taken b [] u = b ≡ u
GivesThen l taken b (c ∷ cs) u = (i : Item) × (s : List ℕ) × (left : List ℕ) × Spells s i ×
    (b ≡ s ++ left) × (outcome l (taken i) ≡ gives c) × GivesThen l taken left cs u

-- b is a sequence of items that give these values, and nothing else
abbrev pub GivesInTurn : {A : Type 0} → Limit → Given A → List ℕ → List A → Type 0
GivesInTurn l taken b cs = GivesThen l taken b cs []

-- behind items that give values, what is left is refused by a call that leaves `after` of the
-- reader: an item at its front as it is, and where nothing is left, for what no item decides: the
-- device may fail at the end, too
abbrev pub IsRefusedThen : {A E : Type 0} → Limit → Given A → List ℕ → Option (List ℕ) → Error E → Type 0
IsRefusedThen {A} l taken b after e = (cs : List A) × (u : List ℕ) × GivesThen l taken b cs u ×
    IsFaultAhead 0 l taken u (fault_of after e) × (u ≡ [] → IsOutsideFault 0 (fault_of None e))

-- ---- what the reader had left before, what it is left with, and the answer

-- at Ok all that was there is a sequence that gives the answer, and nothing is left
abbrev pub TakesSequence : {A E : Type 0} → Limit → Given A → Option (List ℕ) → Option (List ℕ) →
    Result (List A) (Error E) → Type 0
TakesSequence l taken before after r = (b : List ℕ) → before ≡ Some b →
    IfOk r (λ cs. GivesInTurn l taken b cs × (after ≡ Some []))

-- refused only behind items that give values, and as what follows them is
abbrev pub RefusesSequence : {A E : Type 0} → Limit → Given A → Option (List ℕ) →
    Option (List ℕ) → Result (List A) (Error E) → Type 0
RefusesSequence l taken before after r = (b : List ℕ) → before ≡ Some b → IfErr r (λ e. IsRefusedThen l taken b after e)
