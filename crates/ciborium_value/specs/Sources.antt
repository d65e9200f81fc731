-- The words of the contracts of `Source` and `Deserialize`.
use Rattle.std.specs.Prelude.{◌≡◌, ℕ, ◌<◌, ◌≤◌, Bool, List, [], ◌∷◌, ◌++◌, IsTrue, Result, IfErr, IfOk, OnErr, OnOk}
use Rattle.ciborium_ll.specs.{Bytes.greatest_offset, Item.Item, Spells.Spells, declared.kind.Kind.Kind}
use Rattle.ciborium_value.specs.Ahead.{Ahead, Rest, Span, item, after, parts, pairs, entry, level_due, past, inside}
use Rattle.ciborium_value.specs.{Ahead.{takes_level, end_of}, Nesting.Limit, Places.{ContainerType, an_array, a_map}}
use Rattle.ciborium_value.specs.Given.{Outcome, gives, refuses, nests, Given, given_seq, given_pairs, deeper, outcome}

-- ---- why a source refused

-- a kind, no level left, bytes that spell no item, want of memory, the device failed, the reader
-- came to its end, or the greatest offset would be passed
pub data Fault : Type 0 where
  of_kind : Kind → Fault
  of_nesting : Fault
  of_syntax : Fault
  of_memory : Fault
  of_device : Fault
  of_end : Fault
  of_length : Fault

-- where the outermost item ends at this offset, an item in it that gives this outcome is refused
-- for this, or for what it does not decide: as too long only where that passes the greatest offset
abbrev pub IsFaultOf : {A : Type 0} → ℕ → Fault → Outcome A → Type 0
IsFaultOf end (of_kind k) o = o ≡ refuses k
IsFaultOf end of_nesting o = o ≡ nests
IsFaultOf end of_syntax o = ⊥
IsFaultOf end of_memory o = Unit {0}
IsFaultOf end of_device o = Unit {0}
IsFaultOf end of_end o = ⊥
IsFaultOf end of_length o = greatest_offset < end

-- refused for what no item decides
abbrev pub IsOutsideFault : ℕ → Fault → Type 0
IsOutsideFault end (of_kind k) = ⊥
IsOutsideFault end of_nesting = ⊥
IsOutsideFault end of_syntax = ⊥
IsOutsideFault end of_memory = Unit {0}
IsOutsideFault end of_device = Unit {0}
IsOutsideFault end of_end = ⊥
IsOutsideFault end of_length = greatest_offset < end

-- want of memory comes only from those that take memory
abbrev pub IsGrantedFault : Fault → Bool → Type 0
IsGrantedFault (of_kind k) takes_memory = Unit {0}
IsGrantedFault of_nesting takes_memory = Unit {0}
IsGrantedFault of_syntax takes_memory = Unit {0}
IsGrantedFault of_memory takes_memory = IsTrue takes_memory
IsGrantedFault of_device takes_memory = Unit {0}
IsGrantedFault of_end takes_memory = Unit {0}
IsGrantedFault of_length takes_memory = Unit {0}

-- ---- what a call does at an item

module _ {S : Type 0} (StandsBefore : S → Limit → Ahead → Type 0) where
  -- the answer is what the item gives, and the source stands past it
  abbrev pub TakesAhead : {A : Type 0} → S → S → Given A → A → Type 0
  TakesAhead old new taken v = (l : Limit) (i : Item) (f : Rest) → StandsBefore old l (item i f) →
      (outcome l (taken i) ≡ gives v) × StandsBefore new l (past f)

  -- it is refused only where the item is, and for that
  abbrev pub RefusesAhead : {A : Type 0} → S → Given A → Fault → Type 0
  RefusesAhead old taken fault = (l : Limit) (i : Item) (f : Rest) → StandsBefore old l (item i f) →
      IsFaultOf (end_of f) fault (outcome l (taken i))

  -- the answer says this of the item, and the source stands before it still
  abbrev pub Tells : {A : Type 0} → (Item → A) → S → S → A → Type 0
  Tells tell old new answer = (l : Limit) (i : Item) (f : Rest) → StandsBefore old l (item i f) →
      (answer ≡ tell i) × StandsBefore new l (item i f)

  -- no item is to blame
  abbrev pub RefusesToTell : S → Fault → Type 0
  RefusesToTell old fault = (l : Limit) (i : Item) (f : Rest) → StandsBefore old l (item i f) →
      IsOutsideFault (end_of f) fault

-- ---- what is read of a container

module _ {S Q : Type 0} (StandsBefore : S → Limit → Ahead → Type 0)
    (SeqStands : Q → Limit → Rest → Type 0) where
  -- a sequence was entered
  abbrev pub Enters : S → S → Q → Type 0
  Enters old new q = (l : Limit) (i : Item) (f : Rest) → StandsBefore old l (item i f) →
      (span : Span) × (is : List Item) × (outcome l (given_seq i) ≡ gives (takes_level span, is)) ×
      StandsBefore new (inside span l) (after (parts span is f)) × SeqStands q l (parts span is f)

  -- a map was entered
  abbrev pub EntersMap : S → S → Q → Type 0
  EntersMap old new q = (l : Limit) (i : Item) (f : Rest) → StandsBefore old l (item i f) →
      (span : Span) × (ps : List (Item × Item)) × (outcome l (given_pairs i) ≡ gives (takes_level span, ps)) ×
      StandsBefore new (inside span l) (after (pairs span ps f)) × SeqStands q l (pairs span ps f)

  -- a further item, or a further key, is ahead
  abbrev pub GoesOn : S → S → Q → Q → Type 0
  GoesOn old new q q' = ((l : Limit) (span : Span) (is : List Item) (f : Rest) →
      StandsBefore old (inside span l) (after (parts span is f)) → SeqStands q l (parts span is f) →
      (i : Item) × (js : List Item) × (is ≡ i ∷ js) × StandsBefore new (inside span l) (item i (parts span js f)) ×
      SeqStands q' l (parts span js f)) × ((l : Limit) (span : Span) (ps : List (Item × Item)) (f : Rest) →
      StandsBefore old (inside span l) (after (pairs span ps f)) →
      SeqStands q l (pairs span ps f) → (k : Item) × (v : Item) × (qs : List (Item × Item)) × (ps ≡ (k, v) ∷ qs) ×
      StandsBefore new (inside span l) (item k (entry v span qs f)) × SeqStands q' l (pairs span qs f))

  -- nothing is left of the container, and the source stands past it
  abbrev pub Leaves : S → S → Q → Type 0
  Leaves old new q = ((l : Limit) (span : Span) (is : List Item) (f : Rest) →
      StandsBefore old (inside span l) (after (parts span is f)) → SeqStands q l (parts span is f) →
      (is ≡ []) × StandsBefore new l (past f)) × ((l : Limit) (span : Span) (ps : List (Item × Item)) (f : Rest) →
      StandsBefore old (inside span l) (after (pairs span ps f)) →
      SeqStands q l (pairs span ps f) → (ps ≡ []) × StandsBefore new l (past f))

  -- no part and no end is to blame
  abbrev pub RefusesNext : S → Q → Fault → Type 0
  RefusesNext old q fault = ((l : Limit) (span : Span) (is : List Item) (f : Rest) →
      StandsBefore old (inside span l) (after (parts span is f)) → SeqStands q l (parts span is f) →
      IsOutsideFault (end_of f) fault) × ((l : Limit) (span : Span) (ps : List (Item × Item)) (f : Rest) →
      StandsBefore old (inside span l) (after (pairs span ps f)) →
      SeqStands q l (pairs span ps f) → IsOutsideFault (end_of f) fault)

-- ---- levels that are due

module _ {S V : Type 0} (StandsBefore : S → Limit → Ahead → Type 0)
    (LevelStands : V → Limit → Rest → Type 0) where
  -- the answer and the item that is ahead now are what was taken, with a level that this one gives
  -- back
  abbrev pub Holds : {A : Type 0} → S → S → Given (A × Item) → A → V → Type 0
  Holds old new taken v level = (l : Limit) (i : Item) (f : Rest) → StandsBefore old l (item i f) → (j : Item) ×
      (outcome l (taken i) ≡ gives (v, j)) × StandsBefore new (deeper l) (item j (level_due f)) × LevelStands level l f

  -- the level was given back behind that item
  abbrev pub GivesBack : S → S → V → Type 0
  GivesBack old new level = (l : Limit) (f : Rest) →
      StandsBefore old (deeper l) (after (level_due f)) → LevelStands level l f → StandsBefore new l (past f)

-- ---- what was taken where the unread bytes are known, whatever they are

-- an item is spelled at the front of b, and z follows it
abbrev pub HasItem : List ℕ → List ℕ → Type 0
HasItem b z = (i : Item) × (s : List ℕ) × Spells s i × (b ≡ s ++ z)

-- the next part of a container is at the front of b, and z follows it: an item, or in a map a key
-- and its value
abbrev pub HasPart : ContainerType → List ℕ → List ℕ → Type 0
HasPart an_array b z = HasItem b z
HasPart a_map b z = (c : List ℕ) × HasItem b c × HasItem c z

-- of the bytes that were unread these are left, and P says how
abbrev pub TakesTo : {S : Type 0} → (S → List ℕ → Type 0) → S → S → (List ℕ → List ℕ → Type 0) → Type 0
TakesTo IsUnread old new P = (b : List ℕ) → IsUnread old b → (u : List ℕ) × IsUnread new u × P b u

-- an item stood there and was taken
abbrev pub TakesItem : {S : Type 0} → (S → List ℕ → Type 0) → S → S → Type 0
TakesItem IsUnread old new = TakesTo IsUnread old new HasItem

-- nothing was taken
abbrev pub TakesNothing : {S : Type 0} → (S → List ℕ → Type 0) → S → S → Type 0
TakesNothing IsUnread old new = TakesTo IsUnread old new (λ b u. u ≡ b)

-- on top of what was taken since any first state, just a beginning of what was unread is taken
abbrev pub TakesOnly : {S : Type 0} → (S → S → Type 0) → S → S → Type 0
TakesOnly {S = S} HasTaken old new = (first : S) → HasTaken first old → HasTaken first new

-- what is said of a call for one item: the answer is what the item gives, and just the item was
-- taken; or it is refused only where the item is, and for that; and no more is left than before
pub record TakesOneItem {S A V E : Type 0} (StandsBefore : S → Limit → Ahead → Type 0)
    (IsUnread : S → List ℕ → Type 0) (HasTaken : S → S → Type 0) (left : S → ℕ)
    (cause : S → E → Fault) (old new : S) (taken : Given A) (content : V → A)
    (result : Result V E) : Type 0 where
  pub ok : IfOk result (λ v. TakesAhead StandsBefore old new taken (content v))
  pub refused : IfErr result (λ e. RefusesAhead StandsBefore old taken (cause new e))
  pub took : OnOk result (TakesItem IsUnread old new)
  pub only : TakesOnly HasTaken old new
  pub less : OnOk result (left new < left old)
  pub no_more : OnErr result (left new ≤ left old)

-- an item at the front of u completes one at the front of b, with the same end
abbrev pub Completes : List ℕ → List ℕ → Type 0
Completes b u = (z : List ℕ) → HasItem u z → HasItem b z

module _ {Q : Type 0} (Owes : Q → ContainerType → List ℕ → List ℕ → Type 0) where
  -- a further part is ahead, and less is owed behind it
  abbrev pub OwesLess : Q → Q → List ℕ → List ℕ → Type 0
  OwesLess q q' c u = (s : ContainerType) (b z : List ℕ) → Owes q s b c → HasPart s u z → Owes q' s b z

  -- nothing more is owed: the container stood there, and was taken
  abbrev pub OwesNothing : Q → List ℕ → List ℕ → Type 0
  OwesNothing q c z = (s : ContainerType) (b : List ℕ) → Owes q s b c → HasItem b z
