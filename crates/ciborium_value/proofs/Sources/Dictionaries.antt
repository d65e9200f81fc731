-- What is read of a map, pair by pair, from any source.
use Rattle.std.proofs.Common.{◌≡◌, ℕ, Bool, true, false, ◌&&◌, List, [], Ordering, sym, ◌∙◌, ap}
use Rattle.std.{proofs.Common.{subst, refl}, specs.BTreeMap.insert_entry}
use Rattle.ciborium_ll.specs.Item.{Item}
use Rattle.ciborium_value.proofs.Sources.Sequences.{fault_then, Follows, so, IsBlamed, IsBefore, IsInside, IsPast}
use Rattle.ciborium_value.proofs.Sources.Sequences.{blames_next, leaves}
use Rattle.ciborium_value.specs.{Ahead.{Ahead, Rest, Span, item, pairs, entry, inside, end_of}, Nesting.Limit}
use Rattle.ciborium_value.specs.Given.{Outcome, Steps, Given, chosen, deeper_if, outcome, refuse, then_read, then_take}
use Rattle.ciborium_value.specs.{GivenParts.{has_key, put_each, given_map}, Places.{ContainerType, a_map}}
use Rattle.ciborium_value.specs.Sources.{Fault, of_kind, IsFaultOf, TakesAhead, RefusesAhead, EntersMap, GoesOn, Leaves}
use Rattle.ciborium_value.specs.Sources.{RefusesNext, TakesTo, TakesItem, OwesLess, OwesNothing}
use Rattle.ciborium_ll.specs.declared.kind.Kind.TheVariants as kinds

-- ---- from one place to the next

-- pairs of a map are left, which go to these entries
pub record IsInsideMap {S Q A B : Type 0} (StandsBefore : S → Limit → Ahead → Type 0)
    (SeqStands : Q → Limit → Rest → Type 0) (once : Bool) (order : A → A → Ordering) (key : Given A) (value : Given B)
    (now : S) (q : Q) (es : List (A × B)) (l : Limit) (f : Rest) (o : Outcome (List (A × B))) : Type 0 where
  pub inner : IsInside StandsBefore SeqStands pairs now q (put_each once order key value es) l f o

-- a key was read, its value is ahead, and so much of it is to be read
record IsAtValue {S Q C : Type 0} (StandsBefore : S → Limit → Ahead → Type 0) (SeqStands : Q → Limit → Rest → Type 0)
    (now : S) (q : Q) (steps : Item → List (Item × Item) → Steps C) (l : Limit) (f : Rest)
    (o : Outcome C) : Type 0 where
  pub span : Span
  pub value : Item
  pub left : List (Item × Item)
  pub stands : StandsBefore now (inside span l) (item value (pairs span left f))
  pub due : SeqStands q l (pairs span left f)
  pub is : o ≡ outcome (inside span l) (steps value left)

-- what follows a key, which occurs again or is new
abbrev after_key : {A B : Type 0} → Bool → (A → A → Ordering) → Given A → Given B → List (A × B) → Bool → A → Item →
    List (Item × Item) → Steps (List (A × B))
after_key once order key value es again a v ps = chosen again (refuse kinds.DuplicateKey)
    (then_read (value v) (λ b. put_each once order key value (insert_entry order es a b) ps))

module _ {S Q A B : Type 0} {StandsBefore : S → Limit → Ahead → Type 0} {SeqStands : Q → Limit → Rest → Type 0}
    {once : Bool} {order : A → A → Ordering} {key : Given A} {value : Given B} {es : List (A × B)} where
  pub map_begins : {old new : S} {q : Q} → es ≡ [] → EntersMap StandsBefore SeqStands old new q →
      Follows (IsBefore StandsBefore old (given_map once order key value))
      (IsInsideMap StandsBefore SeqStands once order key value new q es)
  map_begins none h = record {
    at = λ l f o w. let n = h l w.ahead f w.stands in record {
      inner = record {
        span = n.0;
        left = n.1;
        stands = n.3;
        due = n.4;
        is = w.is ∙
            ap (λ p. then_take p (λ x. outcome (deeper_if x.0 l) (put_each once order key value [] x.1))) n.2 ∙
            ap (λ x. outcome (inside n.0 l) (put_each once order key value x n.1)) (sym none);
      };
    };
  }

  pub map_ends : {old new : S} {q : Q} → Leaves StandsBefore SeqStands old new q →
      Follows (IsInsideMap StandsBefore SeqStands once order key value old q es)
      (IsPast StandsBefore new es)
  map_ends h = record { at = λ l f o w. (leaves es h.1 (λ m. refl)).at l f o w.inner }

  pub map_blames_next : {old : S} {q : Q} {fault : Fault} → RefusesNext StandsBefore SeqStands old q fault →
      Follows (IsInsideMap StandsBefore SeqStands once order key value old q es) (IsBlamed fault)
  map_blames_next h = record { at = λ l f o w. (blames_next h.1).at l f o w.inner }

  pub map_blames_key : {old : S} {q : Q} {fault : Fault} (ahead : S) (q' : Q) →
      GoesOn StandsBefore SeqStands old ahead q q' → RefusesAhead StandsBefore ahead key fault →
      Follows (IsInsideMap StandsBefore SeqStands once order key value old q es) (IsBlamed fault)
  map_blames_key {fault = fault} ahead q' h k = record {
    at = λ l f o w'.
        let w = w'.inner in
        let m = inside w.span l in
        let n = h.1 l w.span w.left f w.stands w.due in record {
          blamed = subst (IsFaultOf (end_of f) fault)
              (sym (w.is ∙ ap (λ ps. outcome m (put_each once order key value es ps)) n.3))
              (fault_then _ fault (outcome m (key n.0)) _ (k m n.0 (entry n.1 w.span n.2 f) n.4));
        };
  }

  behind_key : {old mid : S} {q q' : Q} {a : A} {again : Bool} (ahead : S) →
      GoesOn StandsBefore SeqStands old ahead q q' → TakesAhead StandsBefore ahead mid key a →
      (once && has_key order es a) ≡ again → Follows (IsInsideMap StandsBefore SeqStands once order key value old q es)
      (IsAtValue StandsBefore SeqStands mid q' (after_key once order key value es again a))
  behind_key {a = a} ahead h k test = record {
    at = λ l f o w'.
        let w = w'.inner in
        let m = inside w.span l in
        let n = h.1 l w.span w.left f w.stands w.due in
        let p = k m n.0 (entry n.1 w.span n.2 f) n.4 in record {
          span = w.span;
          value = n.1;
          left = n.2;
          stands = p.1;
          due = n.5;
          is = w.is ∙ ap (λ ps. outcome m (put_each once order key value es ps)) n.3 ∙
              ap (λ x. then_take x (λ a. outcome m (after_key once order key value es (once && has_key order es a) a
              n.1 n.2))) p.0 ∙
              ap (λ t. outcome m (after_key once order key value es t a n.1 n.2)) test;
        };
  }

  module _ {old : S} {q : Q} {a : A} (ahead mid : S) (q' : Q) (h : GoesOn StandsBefore SeqStands old ahead q q')
      (k : TakesAhead StandsBefore ahead mid key a) where
    pub map_blames_again : (once && has_key order es a) ≡ true →
        Follows (IsInsideMap StandsBefore SeqStands once order key value old q es)
        (IsBlamed (of_kind kinds.DuplicateKey))
    map_blames_again again = so (behind_key ahead h k again) (record { at = λ l f o w. record { blamed = w.is } })

    pub map_blames_value : {fault : Fault} → (once && has_key order es a) ≡ false →
        RefusesAhead StandsBefore mid value fault →
        Follows (IsInsideMap StandsBefore SeqStands once order key value old q es) (IsBlamed fault)
    map_blames_value {fault} new t = so (behind_key ahead h k new) (record {
      at = λ l f o w. record {
        blamed = subst (IsFaultOf (end_of f) fault) (sym w.is) (fault_then _ fault _ _
            (t (inside w.span l) w.value (pairs w.span w.left f) w.stands));
      };
    })

    pub map_more : {new : S} {b : B} → (once && has_key order es a) ≡ false → TakesAhead StandsBefore mid new value b →
        Follows (IsInsideMap StandsBefore SeqStands once order key value old q es)
        (IsInsideMap StandsBefore SeqStands once order key value new q' (insert_entry order es a b))
    map_more fresh t = so (behind_key ahead h k fresh) (record {
      at = λ l f o w.
          let m = inside w.span l in
          let n = t m w.value (pairs w.span w.left f) w.stands in record {
            inner = record {
              span = w.span;
              left = w.left;
              stands = n.1;
              due = w.due;
              is = w.is ∙ ap (λ x. then_take x
                  (λ b. outcome m (put_each once order key value (insert_entry order es a b) w.left))) n.0;
            };
          };
    })

-- ---- known bytes

module _ {S Q : Type 0} (IsUnread : S → List ℕ → Type 0) (Owes : Q → ContainerType → List ℕ → List ℕ → Type 0) where
  pub owed_pair : (old mid ahead between new : S) (q q' : Q) → TakesTo IsUnread old mid (Owes q a_map) →
      TakesTo IsUnread mid ahead (OwesLess Owes q q') → TakesItem IsUnread ahead between →
      TakesItem IsUnread between new → TakesTo IsUnread old new (Owes q' a_map)
  owed_pair old mid ahead between new q q' h g k v b u =
      let (c, un, ow) = h b u in
      let (d, un', less) = g c un in
      let (y, un'', key) = k d un' in
      let (z, un''', value) = v y un'' in
      (z, un''', less a_map b z ow (y, key, value))

  pub owed_pairs : (old mid new : S) (q : Q) → TakesTo IsUnread old mid (Owes q a_map) →
      TakesTo IsUnread mid new (OwesNothing Owes q) → TakesItem IsUnread old new
  owed_pairs old mid new q h g b u =
      let (c, un, ow) = h b u in
      let (z, un', done) = g c un in
      (z, un', done a_map b ow)
