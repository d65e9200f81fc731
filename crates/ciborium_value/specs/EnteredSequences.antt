-- What is read of a sequence that was entered: the parts that are left, in turn.
use Rattle.std.specs.Prelude.{◌≡◌, ℕ, List}
use Rattle.ciborium_ll.specs.Item.{Item}
use Rattle.ciborium_value.specs.{Ahead.{Ahead, Rest, Span, after, parts, past, inside, end_of}, Nesting.Limit}
use Rattle.ciborium_value.specs.{Places.{ContainerType, an_array}, Sources.{Fault, IsFaultOf, HasItem}}
use Rattle.ciborium_value.specs.Given.{Steps, gives, outcome}

module _ {S Q : Type 0} (StandsBefore : S → Limit → Ahead → Type 0)
    (SeqStands : Q → Limit → Rest → Type 0) where
  -- the items that were left give this, and the source stands past the sequence
  abbrev pub TakesInTurn : {C : Type 0} → S → S → Q → (List Item → Steps C) → C → Type 0
  TakesInTurn old new q taken c = (l : Limit) (span : Span) (is : List Item) (f : Rest) →
      StandsBefore old (inside span l) (after (parts span is f)) → SeqStands q l (parts span is f) →
      (outcome (inside span l) (taken is) ≡ gives c) × StandsBefore new l (past f)

  -- one of them is to blame, or one is missing
  abbrev pub RefusesInTurn : {C : Type 0} → S → Q → (List Item → Steps C) → Fault → Type 0
  RefusesInTurn old q taken fault = (l : Limit) (span : Span) (is : List Item) (f : Rest) →
      StandsBefore old (inside span l) (after (parts span is f)) → SeqStands q l (parts span is f) →
      IsFaultOf (end_of f) fault (outcome (inside span l) (taken is))

-- all that was owed was taken
abbrev pub TakesRest : {S Q : Type 0} → (S → List ℕ → Type 0) →
    (Q → ContainerType → List ℕ → List ℕ → Type 0) → S → S → Q → Type 0
TakesRest IsUnread Owes old new q = (b c : List ℕ) → IsUnread old c → Owes q an_array b c →
    (z : List ℕ) × IsUnread new z × HasItem b z
