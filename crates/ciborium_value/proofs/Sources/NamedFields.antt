-- What is read of a map by the labels of fields, pair by pair, from any source.
use Rattle.std.proofs.Common.{◌≡◌, ℕ, Bool, true, false, if◌then◌else◌, List, refl, sym, ◌∙◌, ap, subst}
use Rattle.ciborium_ll.specs.Item.{Item}
use Rattle.ciborium_value.specs.{Ahead.{Ahead, Rest, Span, item, pairs, entry, inside, end_of}, Nesting.Limit}
use Rattle.ciborium_value.specs.Sources.{Fault, IsFaultOf, TakesAhead, RefusesAhead, GoesOn, Leaves, RefusesNext}
use Rattle.ciborium_value.specs.{StructReadings.{FieldsGiven, take_fields, take_named}, Labels.{Label, label_type}}
use Rattle.ciborium_value.specs.{Labels.{label_place, placed, given_label}, Given.{Outcome, gives, nests, outcome}}
use Rattle.ciborium_value.specs.Given.{outcome_map, refuses, given_integer, given_name, given_skip, then_read}
use Rattle.ciborium_value.specs.{Given.then_take, declared.labels.LabelType.LabelType}
use Rattle.ciborium_value.specs.declared.wanted.FieldPlace.TheVariants.{First, Behind}
use Rattle.ciborium_value.proofs.Sources.Sequences.{fault_then, Follows, so, IsBlamed, IsPast, IsInside, leaves}
use Rattle.ciborium_value.proofs.Sources.Sequences.{blames_next}
use Rattle.ciborium_value.specs.declared.labels.LabelType.TheVariants as types

-- ---- a label by its place

map-twice : {A B C : Type 0} (f : A → B) (g : B → C) (o : Outcome A) →
    outcome_map (λ a. g (f a)) o ≡ outcome_map g (outcome_map f o)
map-twice f g (gives a) = refl
map-twice f g (refuses k) = refl
map-twice f g nests = refl

-- the place of a key is that of its label
label-placed : {P : Type 0} (place : Label → P) (l : Limit) (i : Item) →
    outcome l (label_place place i) ≡ outcome_map place (outcome l (given_label i))
label-placed place l i = by (label_type i)
  where
    by : (k : LabelType) → outcome l (placed place k i) ≡ outcome_map place (outcome l (placed (λ x. x) k i))
    by types.Name = map-twice _ place (outcome l (given_name i))
    by types.Number = map-twice _ place (outcome l (given_integer i))
    by types.Other = map-twice _ place (outcome l (given_skip i))

-- what has a place is a label with this place
name_at : {A P : Type 0} (place : A → P) {p : P} (o : Outcome A) → outcome_map place o ≡ gives p →
    (name : A) × (place name ≡ p) × (o ≡ gives name)
name_at place (gives name) h = (name, cc, refl)
name_at place u h = absurd (cc)

-- where the place of a label is to blame, what is made of the label is
fault_place : {A P B : Type 0} (end : ℕ) (fault : Fault) (place : A → P) (o : Outcome A) (f : A → Outcome B) →
    IsFaultOf end fault (outcome_map place o) → IsFaultOf end fault (then_take o f)
fault_place end fault place (gives name) f h = fault_then end fault (gives (place name)) (λ _. f name) h
fault_place end fault place (refuses k) f h = fault_then end fault (refuses k) (λ _. nests) h
fault_place end fault place nests f h = fault_then end fault nests (λ _. nests) h

-- behind the first field the place is that among the fields behind it
pub behind_first : {P : Type 0} (first : Bool) (q p : P) → (if first then First else Behind q) ≡ Behind p →
    (first ≡ false) × (q ≡ p)
behind_first true q p h = absurd (cc)
behind_first false q p h = (refl, cc)

-- ---- a map

-- pairs of a map are left, which are read onto this
pub record IsInsideFields {S Q C : Type 0} (StandsBefore : S → Limit → Ahead → Type 0)
    (SeqStands : Q → Limit → Rest → Type 0) (fields : FieldsGiven C) (now : S) (q : Q) (c : C) (l : Limit) (f : Rest)
    (o : Outcome C) : Type 0 where
  pub inner : IsInside StandsBefore SeqStands pairs now q (take_fields fields c) l f o

-- a key was read as a label with this place, and its value is ahead
record IsAtField {S Q C P : Type 0} (StandsBefore : S → Limit → Ahead → Type 0) (SeqStands : Q → Limit → Rest → Type 0)
    (place : Label → P) (fields : FieldsGiven C) (c : C) (now : S) (q : Q) (p : P) (l : Limit) (f : Rest)
    (o : Outcome C) : Type 0 where
  pub span : Span
  pub value : Item
  pub left : List (Item × Item)
  pub stands : StandsBefore now (inside span l) (item value (pairs span left f))
  pub due : SeqStands q l (pairs span left f)
  pub name : Label
  pub placed : place name ≡ p
  pub is : o ≡ outcome (inside span l) (then_read (fields name c value) (λ d. take_fields fields d left))

module _ {S Q C : Type 0} {StandsBefore : S → Limit → Ahead → Type 0} {SeqStands : Q → Limit → Rest → Type 0}
    {fields : FieldsGiven C} {c : C} where
  pub fields_end : {old new : S} {q : Q} → Leaves StandsBefore SeqStands old new q →
      Follows (IsInsideFields StandsBefore SeqStands fields old q c) (IsPast StandsBefore new c)
  fields_end h = record { at = λ l f o w. (leaves c h.1 (λ m. refl)).at l f o w.inner }

  pub fields_blame_next : {old : S} {q : Q} {fault : Fault} → RefusesNext StandsBefore SeqStands old q fault →
      Follows (IsInsideFields StandsBefore SeqStands fields old q c) (IsBlamed fault)
  fields_blame_next h = record { at = λ l f o w. (blames_next h.1).at l f o w.inner }

  module _ {P : Type 0} (place : Label → P) {old : S} {q : Q} (ahead : S) (q' : Q)
      (h : GoesOn StandsBefore SeqStands old ahead q q') where
    pub fields_blame_name : {fault : Fault} → RefusesAhead StandsBefore ahead (label_place place) fault →
        Follows (IsInsideFields StandsBefore SeqStands fields old q c) (IsBlamed fault)
    fields_blame_name {fault} k = record {
      at = λ l f o w'.
          let w = w'.inner in
          let m = inside w.span l in
          let n = h.1 l w.span w.left f w.stands w.due in record {
            blamed = subst (IsFaultOf (end_of f) fault)
                (sym (w.is ∙ ap (λ ps. outcome m (take_fields fields c ps)) n.3))
                (fault_then _ fault (outcome m (take_named fields c (n.0, n.1))) _
                (fault_place _ fault place (outcome m (given_label n.0)) _
                (subst (IsFaultOf (end_of f) fault) (label-placed place m n.0)
                (k m n.0 (entry n.1 w.span n.2 f) n.4))));
          };
    }

    module _ (mid : S) {p : P} (k : TakesAhead StandsBefore ahead mid (label_place place) p) where
      -- the key was read as a label with this place
      at_field : Follows (IsInsideFields StandsBefore SeqStands fields old q c)
          (IsAtField StandsBefore SeqStands place fields c mid q' p)
      at_field = record {
        at = λ l f o w'.
            let w = w'.inner in
            let m = inside w.span l in
            let n = h.1 l w.span w.left f w.stands w.due in
            let t = k m n.0 (entry n.1 w.span n.2 f) n.4 in
            let named = name_at place (outcome m (given_label n.0)) (sym (label-placed place m n.0) ∙ t.0) in record {
              span = w.span;
              value = n.1;
              left = n.2;
              stands = t.1;
              due = n.5;
              name = named.0;
              placed = named.1;
              is = w.is ∙ ap (λ ps. outcome m (take_fields fields c ps)) n.3 ∙
                  ap (λ x. then_take (then_take x (λ name. outcome m (fields name c n.1)))
                  (λ d. outcome m (take_fields fields d n.2))) named.2;
            };
      }

      pub fields_blame_field : {fault : Fault} →
          ((name : Label) → place name ≡ p → RefusesAhead StandsBefore mid (fields name c) fault) →
          Follows (IsInsideFields StandsBefore SeqStands fields old q c) (IsBlamed fault)
      fields_blame_field {fault} t = so at_field (record {
        at = λ l f o w. record {
          blamed = subst (IsFaultOf (end_of f) fault) (sym w.is) (fault_then _ fault _ _
              (t w.name w.placed (inside w.span l) w.value (pairs w.span w.left f) w.stands));
        };
      })

      pub fields_more : {new : S} {d : C} →
          ((name : Label) → place name ≡ p → TakesAhead StandsBefore mid new (fields name c) d) →
          Follows (IsInsideFields StandsBefore SeqStands fields old q c)
          (IsInsideFields StandsBefore SeqStands fields new q' d)
      fields_more t = so at_field (record {
        at = λ l f o w.
            let m = inside w.span l in
            let n = t w.name w.placed m w.value (pairs w.span w.left f) w.stands in record {
              inner = record {
                span = w.span;
                left = w.left;
                stands = n.1;
                due = w.due;
                is = w.is ∙ ap (λ x. then_take x (λ d. outcome m (take_fields fields d w.left))) n.0;
              };
            };
      })
