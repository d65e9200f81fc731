-- What is read of a sequence, part by part, from any source.
use Rattle.std.proofs.Common.{◌≡◌, ℕ, ◌≤◌, List, [], ◌∷◌, ◌++◌, refl, sym, ◌∙◌, ap, subst, append_assoc, append-nil}
use Rattle.std.proofs.Common.{Result, Ok, Err, IsErrAnd}
use Rattle.ciborium_ll.specs.Item.{Item}
use Rattle.ciborium_value.specs.{Ahead.{Ahead, Rest, Span, item, after, parts, past, inside, end_of}, Nesting.Limit}
use Rattle.ciborium_value.specs.{Places.{ContainerType, an_array}, EnteredSequences.{RefusesInTurn, TakesRest}}
use Rattle.ciborium_value.specs.EnteredSequences.{TakesInTurn}
use Rattle.ciborium_value.specs.Sources.{Fault, of_kind, of_nesting, of_syntax, of_memory, of_device, of_end, of_length}
use Rattle.ciborium_value.specs.Sources.{IsFaultOf, IsOutsideFault, TakesAhead, RefusesAhead, Enters, GoesOn, Leaves}
use Rattle.ciborium_value.specs.Sources.{TakesTo, TakesItem, OwesLess, OwesNothing, TakesOnly}
use Rattle.ciborium_value.specs.{Sources.TakesOneItem, lemmas.GivenOutcomes.and_take, Given.{Outcome, Steps, Given}}
use Rattle.ciborium_value.specs.Given.{deeper_if, gives, mapped, nests, outcome, outcome_map, refuses, take_each}
use Rattle.ciborium_value.specs.{Given.{give, given_value, then_take}, Tree.Tree}
use Rattle.ciborium_value.specs.GivenParts.{given_list, given_then, no_part_given}

-- ---- who is to blame

pub fault_then : {A B : Type 0} (end : ℕ) (fault : Fault) (o : Outcome A) (f : A → Outcome B) → IsFaultOf end fault o →
    IsFaultOf end fault (then_take o f)
fault_then end (of_kind k) o f h = ap (λ x. then_take x f) h
fault_then end of_nesting o f h = ap (λ x. then_take x f) h
fault_then end of_syntax o f h = h
fault_then end of_memory o f h = tt
fault_then end of_device o f h = tt
fault_then end of_end o f h = h
fault_then end of_length o f h = h

pub fault_map : {A B : Type 0} (end : ℕ) (fault : Fault) (f : A → B) (o : Outcome A) → IsFaultOf end fault o →
    IsFaultOf end fault (outcome_map f o)
fault_map end (of_kind k) f o h = ap (outcome_map f) h
fault_map end of_nesting f o h = ap (outcome_map f) h
fault_map end of_syntax f o h = h
fault_map end of_memory f o h = tt
fault_map end of_device f o h = tt
fault_map end of_end f o h = h
fault_map end of_length f o h = h

pub fault_outside : {A : Type 0} (end : ℕ) (fault : Fault) (o : Outcome A) → IsOutsideFault end fault →
    IsFaultOf end fault o
fault_outside end (of_kind k) o h = absurd h
fault_outside end of_nesting o h = absurd h
fault_outside end of_syntax o h = h
fault_outside end of_memory o h = tt
fault_outside end of_device o h = tt
fault_outside end of_end o h = h
fault_outside end of_length o h = h

-- ---- from one place to the next

-- wherever P holds of the levels, of what follows and of the outcome, Q does
pub record Follows {C : Type 0} (P Q : Limit → Rest → Outcome C → Type 0) : Type 0 where
  pub at : (l : Limit) (f : Rest) (o : Outcome C) → P l f o → Q l f o

pub so : {C : Type 0} {P Q R : Limit → Rest → Outcome C → Type 0} → Follows P Q → Follows Q R → Follows P R
so h k = record { at = λ l f o p. k.at l f o (h.at l f o p) }

-- the outcome is to blame
pub record IsBlamed {C : Type 0} (fault : Fault) (l : Limit) (f : Rest) (o : Outcome C) : Type 0 where
  pub blamed : IsFaultOf (end_of f) fault o

-- an item is ahead, which gives the outcome
pub record IsBefore {S C : Type 0} (StandsBefore : S → Limit → Ahead → Type 0) (now : S) (taken : Given C) (l : Limit)
    (f : Rest) (o : Outcome C) : Type 0 where
  pub ahead : Item
  pub stands : StandsBefore now l (item ahead f)
  pub is : o ≡ outcome l (taken ahead)

-- the outcome is this, and the item was taken
pub record IsPast {S C : Type 0} (StandsBefore : S → Limit → Ahead → Type 0) (now : S) (v : C) (l : Limit) (f : Rest)
    (o : Outcome C) : Type 0 where
  pub is : o ≡ gives v
  pub stands : StandsBefore now l (past f)

module _ {S C : Type 0} {StandsBefore : S → Limit → Ahead → Type 0} {old : S} {taken : Given C} where
  pub takes : {new : S} {v : C} → Follows (IsBefore StandsBefore old taken) (IsPast StandsBefore new v) →
      TakesAhead StandsBefore old new taken v
  takes h l i f st = let there = h.at l f (outcome l (taken i)) (record { ahead = i; stands = st; is = refl }) in
      (there.is, there.stands)

  pub blames : {fault : Fault} → Follows (IsBefore StandsBefore old taken) (IsBlamed fault) →
      RefusesAhead StandsBefore old taken fault
  blames h l i f st = (h.at l f (outcome l (taken i)) (record { ahead = i; stands = st; is = refl })).blamed

-- what is said of a call for one item that passes an error on
pub passes_on : {S A V E : Type 0} {StandsBefore : S → Limit → Ahead → Type 0} {IsUnread : S → List ℕ → Type 0}
    {HasTaken : S → S → Type 0} {left : S → ℕ} {cause : S → E → Fault} {old new : S} {taken : Given A}
    {content : V → A} (r : Result V E) (e : E) → IsErrAnd r (λ y. y ≡ e) →
    RefusesAhead StandsBefore old taken (cause new e) → TakesOnly HasTaken old new → left new ≤ left old →
    TakesOneItem StandsBefore IsUnread HasTaken left cause old new taken content r
passes_on (Ok v) e h refused only no_more = absurd h
passes_on {StandsBefore = StandsBefore} {cause = cause} {old = old} {new = new} {taken = taken} (Err y) e h refused only
    no_more = record {
      ok = tt;
      refused = subst (λ x. RefusesAhead StandsBefore old taken (cause new x)) (sym h) refused;
      took = tt;
      only = only;
      less = tt;
      no_more = no_more;
    }

fault_made : {A B : Type 0} (make : A → B) (end : ℕ) (f : Fault) (o : Outcome A) → IsFaultOf end f o →
    IsFaultOf end f (then_take o (λ v. gives (make v)))
fault_made make end (of_kind k) o h = ap (λ x. then_take x (λ v. gives (make v))) h
fault_made make end of_nesting o h = ap (λ x. then_take x (λ v. gives (make v))) h
fault_made make end _ o h = h

-- where an item is refused, so is what is made of what it gives
pub made_refused : {S A B V W E : Type 0} {StandsBefore : S → Limit → Ahead → Type 0}
    {IsUnread : S → List ℕ → Type 0} {HasTaken : S → S → Type 0} {left : S → ℕ} {cause : S → E → Fault} {old new : S}
    {taken : Given A} {content : V → A} {made : W → B} (make : A → B) (r : Result W E) (e : E) →
    IsErrAnd r (λ y. y ≡ e) →
    TakesOneItem StandsBefore IsUnread HasTaken left cause old new taken content (Err e) →
    TakesOneItem StandsBefore IsUnread HasTaken left cause old new (given_then taken (λ c. give (make c))) made r
made_refused {taken = taken} make r e h t = passes_on r e h
    (λ l i f s. fault_made make (end_of f) _ (outcome l (taken i)) (t.refused l i f s)) t.only t.no_more

-- parts of a container are left, which come so, and of which k makes the outcome
pub record IsInside {S Q X C : Type 0} (StandsBefore : S → Limit → Ahead → Type 0)
    (SeqStands : Q → Limit → Rest → Type 0) (come : Span → List X → Rest → Rest) (now : S) (q : Q)
    (k : List X → Steps C) (l : Limit) (f : Rest) (o : Outcome C) : Type 0 where
  pub span : Span
  pub left : List X
  pub stands : StandsBefore now (inside span l) (after (come span left f))
  pub due : SeqStands q l (come span left f)
  pub is : o ≡ outcome (inside span l) (k left)

module _ {S Q X C : Type 0} {StandsBefore : S → Limit → Ahead → Type 0} {SeqStands : Q → Limit → Rest → Type 0}
    {come : Span → List X → Rest → Rest} {k : List X → Steps C} {old : S} {q : Q} where
  pub blames_next : {fault : Fault} → ((l : Limit) (span : Span) (is : List X) (f : Rest) →
      StandsBefore old (inside span l) (after (come span is f)) → SeqStands q l (come span is f) →
      IsOutsideFault (end_of f) fault) → Follows (IsInside StandsBefore SeqStands come old q k) (IsBlamed fault)
  blames_next {fault} h = record {
    at = λ l f o w. record { blamed = fault_outside _ fault o (h l w.span w.left f w.stands w.due) };
  }

  pub leaves : {new : S} (v : C) → ((l : Limit) (span : Span) (is : List X) (f : Rest) →
      StandsBefore old (inside span l) (after (come span is f)) → SeqStands q l (come span is f) →
      (is ≡ []) × StandsBefore new l (past f)) → ((m : Limit) → outcome m (k []) ≡ gives v) →
      Follows (IsInside StandsBefore SeqStands come old q k) (IsPast StandsBefore new v)
  leaves v h none = record {
    at = λ l f o w. let n = h l w.span w.left f w.stands w.due in record {
      is = w.is ∙ ap (λ is. outcome (inside w.span l) (k is)) n.0 ∙ none (inside w.span l);
      stands = n.1;
    };
  }

-- ---- parts of a sequence

module _ {S Q A C : Type 0} {StandsBefore : S → Limit → Ahead → Type 0} {SeqStands : Q → Limit → Rest → Type 0}
    {k : List Item → Steps C} (first : Given A) {old : S} {q : Q} (ahead : S) (q' : Q)
    (h : GoesOn StandsBefore SeqStands old ahead q q') where
  -- the next one gives v, and k makes of it what k' makes of the rest
  pub reads : {new : S} {v : A} (k' : List Item → Steps C) → TakesAhead StandsBefore ahead new first v →
      ((m : Limit) (i : Item) (is : List Item) → outcome m (first i) ≡ gives v →
      outcome m (k (i ∷ is)) ≡ outcome m (k' is)) →
      Follows (IsInside StandsBefore SeqStands parts old q k) (IsInside StandsBefore SeqStands parts new q' k')
  reads k' t step = record {
    at = λ l f o w.
        let m = inside w.span l in
        let n = h.0 l w.span w.left f w.stands w.due in
        let p = t m n.0 (parts w.span n.1 f) n.3 in record {
          span = w.span;
          left = n.1;
          stands = p.1;
          due = n.4;
          is = w.is ∙ ap (λ is. outcome m (k is)) n.2 ∙ step m n.0 n.1 p.0;
        };
  }

  pub blames_part : {fault : Fault} → RefusesAhead StandsBefore ahead first fault →
      ((end : ℕ) (m : Limit) (i : Item) (is : List Item) → IsFaultOf end fault (outcome m (first i)) →
      IsFaultOf end fault (outcome m (k (i ∷ is)))) →
      Follows (IsInside StandsBefore SeqStands parts old q k) (IsBlamed fault)
  blames_part {fault} t step = record {
    at = λ l f o w.
        let m = inside w.span l in
        let n = h.0 l w.span w.left f w.stands w.due in record {
          blamed = subst (IsFaultOf (end_of f) fault) (sym (w.is ∙ ap (λ is. outcome m (k is)) n.2))
              (step (end_of f) m n.0 n.1 (t m n.0 (parts w.span n.1 f) n.3));
        };
  }

-- ---- lists

-- what a list becomes of which these items were read
abbrev pub list_from : {A : Type 0} → Given A → List A → List Item → Steps (List A)
list_from taken vs is = mapped (λ ws. vs ++ ws) (take_each taken is)

none_listed : {A : Type 0} (o : Outcome (List A)) → o ≡ outcome_map (λ ws. [] ++ ws) o
none_listed (gives ws) = refl
none_listed (refuses k) = refl
none_listed nests = refl

pub one_more_listed : {A : Type 0} (vs : List A) (v : A) (r : Outcome (List A)) →
    outcome_map (λ ws. vs ++ ws) (and_take (gives v) r) ≡ outcome_map (λ ws. (vs ++ v ∷ []) ++ ws) r
one_more_listed vs v (gives ws) = ap gives (sym (append_assoc vs (v ∷ []) ws))
one_more_listed vs v u = refl

one_more_dropped : {A : Type 0} (v : A) (r : Outcome (List A)) →
    then_take (and_take (gives v) r) (λ _. gives (tt {0})) ≡ then_take r (λ _. gives tt)
one_more_dropped v (gives ws) = refl
one_more_dropped v (refuses k) = refl
one_more_dropped v nests = refl

module _ {S Q A : Type 0} {StandsBefore : S → Limit → Ahead → Type 0} {SeqStands : Q → Limit → Rest → Type 0}
    {taken : Given A} (vs : List A) where
  pub list_begins : {old new : S} {q : Q} → vs ≡ [] → Enters StandsBefore SeqStands old new q →
      Follows (IsBefore StandsBefore old (given_list taken))
      (IsInside StandsBefore SeqStands parts new q (list_from taken vs))
  list_begins none h = record {
    at = λ l f o w.
        let n = h l w.ahead f w.stands in
        let r = outcome (inside n.0 l) (take_each taken n.1) in record {
          span = n.0;
          left = n.1;
          stands = n.3;
          due = n.4;
          is = w.is ∙ ap (λ p. then_take p (λ x. outcome (deeper_if x.0 l) (take_each taken x.1))) n.2 ∙ none_listed r ∙
              ap (λ x. outcome_map (λ ws. x ++ ws) r) (sym none);
        };
  }

  pub list_more : {old new : S} {q : Q} {v : A} (ahead : S) (q' : Q) → GoesOn StandsBefore SeqStands old ahead q q' →
      TakesAhead StandsBefore ahead new taken v →
      Follows (IsInside StandsBefore SeqStands parts old q (list_from taken vs))
      (IsInside StandsBefore SeqStands parts new q' (list_from taken (vs ++ v ∷ [])))
  list_more {v = v} ahead q' h t = reads taken ahead q' h (list_from taken (vs ++ v ∷ [])) t
      (λ m i is e. ap (λ o. outcome_map (λ ws. vs ++ ws) (and_take o (outcome m (take_each taken is)))) e ∙
      one_more_listed vs v (outcome m (take_each taken is)))

  pub list_blames : {old : S} {q : Q} {fault : Fault} (ahead : S) (q' : Q) →
      GoesOn StandsBefore SeqStands old ahead q q' → RefusesAhead StandsBefore ahead taken fault →
      Follows (IsInside StandsBefore SeqStands parts old q (list_from taken vs)) (IsBlamed fault)
  list_blames {fault = fault} ahead q' h t = blames_part taken ahead q' h t
      (λ end m i is e. fault_map _ fault (λ ws. vs ++ ws) _ (fault_then _ fault (outcome m (taken i)) _ e))

  pub list_ends : {old new : S} {q : Q} → Leaves StandsBefore SeqStands old new q →
      Follows (IsInside StandsBefore SeqStands parts old q (list_from taken vs)) (IsPast StandsBefore new vs)
  list_ends h = leaves vs h.0 (λ m. ap gives (append-nil vs))

-- ---- parts in a row

module _ {S Q : Type 0} {StandsBefore : S → Limit → Ahead → Type 0} {SeqStands : Q → Limit → Rest → Type 0} {old : S}
    {q : Q} where
  pub takes_parts : {C : Type 0} {new : S} {taken : List Item → Steps C} {c : C} →
      Follows (IsInside StandsBefore SeqStands parts old q taken) (IsPast StandsBefore new c) →
      TakesInTurn StandsBefore SeqStands old new q taken c
  takes_parts {taken = taken} h l span is f st sq = let there = h.at l f (outcome (inside span l) (taken is))
      (record { span = span; left = is; stands = st; due = sq; is = refl }) in
      (there.is, there.stands)

  pub refuses_parts : {C : Type 0} {taken : List Item → Steps C} {fault : Fault} →
      Follows (IsInside StandsBefore SeqStands parts old q taken) (IsBlamed fault) →
      RefusesInTurn StandsBefore SeqStands old q taken fault
  refuses_parts {taken = taken} h l span is f st sq = (h.at l f (outcome (inside span l) (taken is))
      (record { span = span; left = is; stands = st; due = sq; is = refl })).blamed

  -- no part more: each item that is left is dropped
  pub drop_more : {new : S} {v : Tree} (ahead : S) (q' : Q) → GoesOn StandsBefore SeqStands old ahead q q' →
      TakesAhead StandsBefore ahead new given_value v →
      Follows (IsInside StandsBefore SeqStands parts old q no_part_given)
      (IsInside StandsBefore SeqStands parts new q' no_part_given)
  drop_more {v = v} ahead q' h t = reads given_value ahead q' h no_part_given t (λ m i is e. ap
      (λ o. then_take (and_take o (outcome m (take_each given_value is))) (λ _. gives tt)) e ∙
      one_more_dropped v (outcome m (take_each given_value is)))

  pub drop_blames : {fault : Fault} (ahead : S) (q' : Q) → GoesOn StandsBefore SeqStands old ahead q q' →
      RefusesAhead StandsBefore ahead given_value fault →
      Follows (IsInside StandsBefore SeqStands parts old q no_part_given) (IsBlamed fault)
  drop_blames {fault = fault} ahead q' h t = blames_part given_value ahead q' h t
      (λ end m i is e. fault_then _ fault _ (λ _. gives tt) (fault_then _ fault (outcome m (given_value i)) _ e))

  pub drop_ends : {new : S} → Leaves StandsBefore SeqStands old new q →
      Follows (IsInside StandsBefore SeqStands parts old q no_part_given) (IsPast StandsBefore new tt)
  drop_ends h = leaves tt h.0 (λ m. refl)

-- ---- known bytes

module _ {S Q : Type 0} (IsUnread : S → List ℕ → Type 0) (Owes : Q → ContainerType → List ℕ → List ℕ → Type 0) where
  pub owed_more : (old mid ahead new : S) (q q' : Q) → TakesTo IsUnread old mid (Owes q an_array) →
      TakesTo IsUnread mid ahead (OwesLess Owes q q') → TakesItem IsUnread ahead new →
      TakesTo IsUnread old new (Owes q' an_array)
  owed_more old mid ahead new q q' h g t b u =
      let (c, un, ow) = h b u in
      let (d, un', less) = g c un in
      let (z, un'', has) = t d un' in
      (z, un'', less an_array b z ow has)

  pub owed_all : (old mid new : S) (q : Q) → TakesTo IsUnread old mid (Owes q an_array) →
      TakesTo IsUnread mid new (OwesNothing Owes q) → TakesItem IsUnread old new
  owed_all old mid new q h g b u =
      let (c, un, ow) = h b u in
      let (z, un', done) = g c un in
      (z, un', done an_array b ow)

  -- a part was taken, and less is owed
  abbrev pub TakesOwed : S → S → Q → Q → Type 0
  TakesOwed old new q q' = TakesTo IsUnread old new (λ c u. (b : List ℕ) → Owes q an_array b c → Owes q' an_array b u)

  pub dropped_more : (old mid ahead new : S) (p q q' : Q) → TakesOwed old mid p q →
      TakesTo IsUnread mid ahead (OwesLess Owes q q') → TakesItem IsUnread ahead new → TakesOwed old new p q'
  dropped_more old mid ahead new p q q' h g t b u =
      let (c, un, ow) = h b u in
      let (d, un', less) = g c un in
      let (z, un'', has) = t d un' in
      (z, un'', λ a w. less an_array a z (ow a w) has)

  pub dropped_all : (old mid new : S) (p q : Q) → TakesOwed old mid p q →
      TakesTo IsUnread mid new (OwesNothing Owes q) → TakesRest IsUnread Owes old new p
  dropped_all old mid new p q h g a b u w =
      let (c, un, ow) = h b u in
      let (z, un', done) = g c un in
      (z, un', done an_array a (ow a w))

  pub parts_taken : {old ahead mid new : S} {q q' : Q} → TakesTo IsUnread old ahead (OwesLess Owes q q') →
      TakesItem IsUnread ahead mid → TakesRest IsUnread Owes mid new q' → TakesRest IsUnread Owes old new q
  parts_taken g t r b c un ow =
      let (d, un', less) = g c un in
      let (z, un'', has) = t d un' in
      r b z un'' (less an_array b z ow has)
