-- What callers may use of a call that reads one value: its promise, and what follows from that.
use Rattle.std.specs.Prelude.{◌≡◌, ℕ, ◌+◌, ◌≤◌, List, ◌++◌, length, Option, Some, Result, IfErr, IfOk}
use Rattle.ciborium_ll.specs.Bytes.{greatest_offset}
use Rattle.ciborium_value.specs.{Counts.{node_count, payload_size}, ProperTrees.IsProperTree, Refuses.Refuses}
use Rattle.ciborium_value.specs.{Spelling.{Spelling, IsReadAs}, Tree.Tree}
use Rattle.ciborium.specs.{declared.de.error.Error.Error, ValueAnswers.{IsRefusedBy, TakesBytes, AnswersGoodItem}}

-- of the bytes b just those of one item within l levels were taken, which means v
abbrev pub TakesValue : Spelling → List ℕ → ℕ → Tree → Option (List ℕ) → Type 0
TakesValue spelling b l v after = (s : List ℕ) ×
    (left : List ℕ) × IsReadAs spelling s 0 (Some l) v × (b ≡ s ++ left) × (after ≡ Some left)

-- at Ok just the bytes of one item were taken, which are read as the answer
abbrev pub TakesJustItem : {E : Type 0} → Spelling → Option (List ℕ) → ℕ → Option (List ℕ) →
    Result Tree (Error E) → Type 0
TakesJustItem spelling before l after r = (b : List ℕ) → before ≡ Some b → IfOk r (λ v. TakesValue spelling b l v after)

-- an error is the refusal of what the reader had left
abbrev pub RefusesBytes : {E : Type 0} → Spelling → Option (List ℕ) → ℕ → Option (List ℕ) →
    Result Tree (Error E) → Type 0
RefusesBytes spelling before l after r = (b : List ℕ) → before ≡ Some b →
    IfErr r (λ e. IsRefusedBy after e (Refuses spelling b 0 (Some l)))

-- the values and payload bytes of the answer are no more than the bytes taken
abbrev pub HoldsNoMore : {E : Type 0} → Option (List ℕ) → Option (List ℕ) → Result Tree (Error E) → Type 0
HoldsNoMore before after r = (b left : List ℕ) →
    before ≡ Some b → after ≡ Some left → IfOk r (λ v. node_count v + payload_size v + length left ≤ length b)

-- the answer is a tree that memory can hold
abbrev pub AnswersProper : {E : Type 0} → Result Tree (Error E) → Type 0
AnswersProper r = IfOk r (λ v. IsProperTree v)

-- no more bytes were taken than there are offsets, whatever the answer
abbrev pub TakesWithin : Option (List ℕ) → Option (List ℕ) → Type 0
TakesWithin before after = (b left : List ℕ) → before ≡ Some b → after ≡ Some left →
    length b ≤ length left + greatest_offset

-- all of this: the first two are the promise, and the others follow from it
pub record ReadsWhole {E : Type 0} (spelling : Spelling) (before : Option (List ℕ)) (l : ℕ)
    (after : Option (List ℕ)) (r : Result Tree (Error E)) : Type 0 where
  pub taken : TakesBytes spelling 0 before l after r
  pub exact : AnswersGoodItem spelling before l after r
  pub ok : TakesJustItem spelling before l after r
  pub refused : RefusesBytes spelling before l after r
  pub bounded : HoldsNoMore before after r
  pub proper : AnswersProper r
  pub within : TakesWithin before after
