-- A definite container that is written part by part, whatever the sink.
use Rattle.std.proofs.Common.{Bool, true, cond, nat_le, ◌≡◌, ℕ, ◌+◌, suc, map, ◌<◌, ◌≤◌, false, List, [], ◌∷◌, ◌++◌}
use Rattle.std.proofs.Common.{length, Option, Some, None, Result, Ok, Err, OnErr, IfErr, IsErrAnd, refl, sym, ◌∙◌, ap}
use Rattle.std.proofs.Common.{subst, append_assoc, append-nil, arith, length-append, drop, get_or}
use Rattle.std.proofs.{Common.add-one, lemmas.List.drop_all}
use Rattle.ciborium_value.proofs.Trees.Elements.{at, left_from}
use Rattle.ciborium_ll.specs.{Bytes.greatest_offset, Item.Item, declared.kind.Kind.{Kind, TheVariants.Other}}
use Rattle.ciborium_value.proofs.Writing.Standing.{IsBefore, before_itself, before_within, before_full, before_tagged}
use Rattle.ciborium_value.{proofs.Writing.Standing.{tagged_before, cut_nothing, cut_wider}, specs.Places.ContainerType}
use Rattle.ciborium_value.specs.Places.{an_array, a_map, size_of, container, Place, within, tagged, HasRoom, added}
use Rattle.ciborium_value.specs.{Places.{is_open, IsFull, IsOutAt, Out}, Progress.{oks, BreaksAll, CanTake, IsSized}}
use Rattle.ciborium_value.specs.{Progress.{Owes, TakesAll, counted, counted_of}, Sinks.{Named, and_then, all_named}}
use Rattle.ciborium_value.specs.Sinks.{contained, container_of, in_turn, tag_of, Cause, value, IsOwed, IsReady, Begins}
use Rattle.ciborium_value.specs.Sinks.{Tags, CanEnd, Ends, Breaks, BreaksBegin, BreaksTag, BreaksEnd, AddsNamed}
use Rattle.ciborium_value.specs.Sinks.{BreaksNamed}
use Rattle.ciborium_ll.specs.Item as item

-- ---- results

pub on_err : {T E : Type 0} {P : Type 0} (r : Result T E) → P → OnErr r P
on_err (Ok x) h = tt
on_err (Err e) h = h

-- what holds of the error that a `?` passes on as it is
pub exits : {T E : Type 0} (r : Result T E) (e : E) (P : E → Type 0) → IsErrAnd r (λ y. y ≡ e) → P e → IfErr r P
exits (Ok x) e P h k = tt
exits (Err y) e P h k = subst P (sym h) k

-- ---- parts that name their items

oks-snoc : (done : List Item) (i : Item) (rest : List Named) → oks (done ++ i ∷ []) ++ rest ≡ oks done ++ Ok i ∷ rest
oks-snoc [] i rest = refl
oks-snoc (d ∷ done) i rest = ap (λ l. Ok d ∷ l) (oks-snoc done i rest)

-- what it takes that all are named
pub and_then_is : (x : Named) (r : Result (List Item) Kind) (is : List Item) → and_then x r ≡ Ok is → (i : Item) ×
    (js : List Item) × (x ≡ Ok i) × (r ≡ Ok js) × (is ≡ i ∷ js)
and_then_is (Ok i) (Ok js) is h = (i, js, refl, refl, cc)
and_then_is u v is h = cc

-- where all are named, the first are those that are done
named_after : (done : List Item) (rest : List Named) (is : List Item) → all_named (oks done ++ rest) ≡ Ok is →
    (js : List Item) × (all_named rest ≡ Ok js) × (is ≡ done ++ js)
named_after [] rest is h = (is, h, refl)
named_after (d ∷ done) rest is h =
    let a = and_then_is (Ok d) (all_named (oks done ++ rest)) is h in
    let k = named_after done rest a.1 a.3 in
    let same : d ≡ a.0 = cc in
    (k.0, k.1, a.4 ∙ ap (λ x. x ∷ a.1) (sym same) ∙ ap (λ l. d ∷ l) k.2)

refused_at : (done : List Item) (rest : List Named) (k : Kind) → all_named (oks done ++ Err k ∷ rest) ≡ Err k
refused_at [] rest k = refl
refused_at (d ∷ done) rest k = ap (and_then (Ok d)) (refused_at done rest k)

length-oks : (done : List Item) → length (oks done) ≡ length done
length-oks [] = refl
length-oks (d ∷ done) = ap suc (length-oks done)

length-named : (parts : List Named) (is : List Item) → all_named parts ≡ Ok is → length is ≡ length parts
length-named [] is h = let e : is ≡ [] = cc in ap length e
length-named (x ∷ parts) is h =
    let a = and_then_is x (all_named parts) is h in
    ap length a.4 ∙ ap suc (length-named parts a.1 a.3)

-- ---- a container that was begun

-- where parts are left there is room
room_for : (s : ContainerType) (n : Option ℕ) (parts : List Named) (done : List Item) (x : Named) (rest : List Named)
    (p : Place) → IsSized s n parts → parts ≡ oks done ++ x ∷ rest → HasRoom (within s n done p)
room_for s None parts done x rest p size split = tt
room_for s (Some n) parts done x rest p size split =
    let l : length (oks done ++ x ∷ rest) ≡ size_of s n = ap length (sym split) ∙ size in
    let k : length (oks done) ≡ length done = length-oks done in
    omega (arith, k, simp length-append at l)

-- all parts make it full
full_of : (s : ContainerType) (n : Option ℕ) (parts : List Named) (is : List Item) → IsSized s n parts →
    length is ≡ length parts → IsFull s n is
full_of an_array None parts is size same = tt
full_of a_map None parts is size same = (size.0, same ∙ size.1)
full_of s (Some n) parts is size same = same ∙ size

module _ {S : Type 0} (StandsAt : S → Place → Type 0) (out : S → Out) (s : ContainerType) (n : Option ℕ)
    (parts : List Named) (old : S) where
  named_by : (new : S) → ((is : List Item) → all_named parts ≡ Ok is →
      Breaks StandsAt out old new (container s (is_open n) is)) →
      BreaksNamed StandsAt out old new (contained s (is_open n) (all_named parts))
  named_by new h = by (all_named parts) h
    where
      by : (r : Result (List Item) Kind) → ((is : List Item) → r ≡ Ok is →
          Breaks StandsAt out old new (container s (is_open n) is)) →
          BreaksNamed StandsAt out old new (contained s (is_open n) r)
      by (Ok is) h = h is refl
      by (Err k) h = tt

  pub owes_broken_begin : (new : S) {m : Option ℕ} → m ≡ n → IsSized s n parts → BreaksBegin StandsAt out s old new m →
      BreaksNamed StandsAt out old new (contained s (is_open n) (all_named parts))
  owes_broken_begin new same size h = named_by new (λ is e p st room.
      cut_wider (out new) p p (within s n [] p) _ (before_itself p) refl
      (before_full p s n [] is (full_of s n parts is size (length-named parts is e)))
      (subst (BreaksBegin StandsAt out s old new) same h p st room))

module _ {S : Type 0} {StandsAt : S → Place → Type 0} {s : ContainerType} {n : Option ℕ}
    {parts : List Named} {old : S} where
  pub owes_begin : {new : S} {m : Option ℕ} → m ≡ n → IsSized s n parts → Begins StandsAt s old new m →
      Owes StandsAt s n parts old new parts
  owes_begin {new} same size h = record {
    done = [];
    split = refl;
    size = size;
    inside = subst (Begins StandsAt s old new) same h;
  }

  pub owes_ready : {mid : S} {x : Named} {rest : List Named} → IsReady StandsAt old →
      Owes StandsAt s n parts old mid (x ∷ rest) → IsReady StandsAt mid
  owes_ready {mid} {x} {rest} h w = (
    within s n w.done h.0,
    w.inside h.0 h.1 h.2,
    room_for s n parts w.done x rest h.0 w.size w.split,
  )

  one_more : (mid new : S) (x : Named) (rest : List Named) → Owes StandsAt s n parts old mid (x ∷ rest) →
      AddsNamed StandsAt mid new x → Owes StandsAt s n parts old new rest
  one_more mid new (Err k) rest w h = absurd h
  one_more mid new (Ok i) rest w h = record {
    done = w.done ++ i ∷ [];
    split = w.split ∙ sym (oks-snoc w.done i rest);
    size = w.size;
    inside = λ p st room. h (within s n w.done p) (w.inside p st room)
        (room_for s n parts w.done (Ok i) rest p w.size w.split);
  }

  pub owes_more : {mid new : S} {x : Named} {rest : List Named} → Owes StandsAt s n parts old mid (x ∷ rest) →
      AddsNamed StandsAt mid new x → Owes StandsAt s n parts old new rest
  owes_more {mid} {new} {x} {rest} = one_more mid new x rest

  pub owes_broken : (out : S → Out) {mid : S} (new : S) {x : Named} {rest : List Named} →
      Owes StandsAt s n parts old mid (x ∷ rest) → BreaksNamed StandsAt out mid new x →
      BreaksNamed StandsAt out old new (contained s (is_open n) (all_named parts))
  owes_broken out {mid} new {x} {rest} w h = named_by StandsAt out s n parts old new (λ is e p st room.
      let a = named_after w.done (x ∷ rest) is (ap all_named (sym w.split) ∙ e) in
      let b = and_then_is x (all_named rest) a.0 a.1 in
      let same : is ≡ (w.done ++ b.0 ∷ []) ++ b.1 = a.2 ∙ ap (λ l. w.done ++ l) b.4 ∙
      sym (append_assoc w.done (b.0 ∷ []) b.1) in
      let full : IsFull s n ((w.done ++ b.0 ∷ []) ++ b.1) =
      full_of s n parts ((w.done ++ b.0 ∷ []) ++ b.1) w.size (ap length (sym same) ∙ length-named parts is e) in
      let q : Place = within s n w.done p in
      let broken : Breaks StandsAt out mid new b.0 = subst (BreaksNamed StandsAt out mid new) b.2 h in
      let last : IsBefore (added q b.0) (added p (container s (is_open n) is)) =
      subst (λ l. IsBefore (added q b.0) (added p (container s (is_open n) l))) (sym same)
      (before_full p s n (w.done ++ b.0 ∷ []) b.1 full) in
      cut_wider (out new) p q (added q b.0) _ (before_within p s n w.done) refl last
      (broken q (w.inside p st room) (room_for s n parts w.done x rest p w.size w.split)))

  pub owes_owed : {mid : S} {x : Named} {rest : List Named} (cause : Cause) →
      Owes StandsAt s n parts old mid (x ∷ rest) → IsOwed cause x →
      IsOwed cause (contained s (is_open n) (all_named parts))
  owes_owed {mid} {x} {rest} (value k) w h = ap (contained s (is_open n))
      (ap all_named (w.split ∙ ap (λ y. oks w.done ++ y ∷ rest) h) ∙ refused_at w.done rest k)
  owes_owed u w h = tt

  oks-named : (mid : S) (w : Owes StandsAt s n parts old mid []) → all_named parts ≡ Ok w.done
  oks-named mid w = ap all_named (w.split ∙ append-nil (oks w.done)) ∙ each w.done
    where
      each : (is : List Item) → all_named (oks is) ≡ Ok is
      each [] = refl
      each (i ∷ is) = ap (and_then (Ok i)) (each is)

  full : (mid : S) (w : Owes StandsAt s n parts old mid []) → IsFull s n w.done
  full mid w = full_of s n parts w.done w.size (length-named parts w.done (oks-named mid w))

  pub owes_can_end : {mid : S} {m : Option ℕ} → m ≡ n → IsReady StandsAt old → Owes StandsAt s n parts old mid [] →
      CanEnd StandsAt mid m
  owes_can_end {mid} same h w = (within s n w.done h.0, w.inside h.0 h.1 h.2, (sym same, full mid w))

  pub owes_ends : {mid : S} (new : S) {m : Option ℕ} → m ≡ n → Owes StandsAt s n parts old mid [] →
      Ends StandsAt mid new m → AddsNamed StandsAt old new (contained s (is_open n) (all_named parts))
  owes_ends {mid} new same w h =
      subst (AddsNamed StandsAt old new) (ap (contained s (is_open n)) (sym (oks-named mid w)))
      (λ p st room. h (within s n w.done p) (w.inside p st room) (sym same, full mid w))

  pub owes_broken_end : (out : S → Out) {mid : S} (new : S) {m : Option ℕ} → m ≡ n →
      Owes StandsAt s n parts old mid [] → BreaksEnd StandsAt out mid new m →
      BreaksNamed StandsAt out old new (contained s (is_open n) (all_named parts))
  owes_broken_end out {mid} new same w h =
      subst (BreaksNamed StandsAt out old new) (ap (contained s (is_open n)) (sym (oks-named mid w)))
      (λ p st room. cut_wider (out new) p (within s n w.done p) _ _ (before_within p s n w.done) refl (before_itself _)
      (h (within s n w.done p) (w.inside p st room) (sym same, full mid w)))

-- ---- how many parts there are

pub length-map : {A B : Type 0} (f : A → B) (xs : List A) → length (map f xs) ≡ length xs
length-map f [] = refl
length-map f (x ∷ xs) = ap suc (length-map f xs)

pub length-in_turn : {A B : Type 0} (f : A → Named) (g : B → Named) (es : List (A × B)) →
    length (in_turn f g es) ≡ length es + length es
length-in_turn f g [] = refl
length-in_turn f g (e ∷ es) = let h = length-in_turn f g es in omega (arith, h)

some_is : (a b : ℕ) → Some a ≡ Some b → b ≡ a
some_is a b e = cc

-- a count that a head announces is that of the parts
pub parts_counted : (type : ContainerType) (n count : ℕ) → counted n ≡ Some count → (count ≡ n) ×
    ((parts : List Named) → container_of type parts ≡ counted_of type n parts)
parts_counted type n count h = by (nat_le n greatest_offset) h
  where
    by : (b : Bool) → cond b (Some n) None ≡ Some count → (count ≡ n) ×
        ((parts : List Named) → container_of type parts ≡ cond b (container_of type parts) (Err Other))
    by true e = (some_is n count e, λ parts. refl)
    by false e = cc

-- ---- the parts of a definite container

module _ {S : Type 0} (StandsAt : S → Place → Type 0) (out : S → Out) (s : ContainerType) (number count : ℕ)
    (parts : List Named) (old : S) (counts : counted number ≡ Some count)
    (sized : length parts ≡ size_of s number) where
  fits : length parts ≡ size_of s count
  fits = sized ∙ ap (size_of s) (sym (parts_counted s number count counts).0)

  whole : container_of s parts ≡ counted_of s number parts
  whole = (parts_counted s number count counts).1 parts

  begun : (mid : S) → Begins StandsAt s old mid (Some count) → Owes StandsAt s (Some count) parts old mid (parts ++ [])
  begun mid h = subst (Owes StandsAt s (Some count) parts old mid) (sym (append-nil parts))
      (owes_begin refl fits h)

  pub parts_begin_broken : (new : S) → BreaksBegin StandsAt out s old new (Some count) →
      BreaksNamed StandsAt out old new (counted_of s number parts)
  parts_begin_broken new h = subst (BreaksNamed StandsAt out old new) whole
      (owes_broken_begin StandsAt out s (Some count) parts old new refl fits h)

  pub parts_ahead : (mid : S) → IsReady StandsAt old → Begins StandsAt s old mid (Some count) →
      CanTake s StandsAt mid parts
  parts_ahead mid ready h = (Some count, parts, old, [], ready, begun mid h)

  pub parts_broken : (mid new : S) → Begins StandsAt s old mid (Some count) → BreaksAll s StandsAt out mid new parts →
      BreaksNamed StandsAt out old new (counted_of s number parts)
  parts_broken mid new h broken = subst (BreaksNamed StandsAt out old new) whole
      (broken (Some count) parts old [] (begun mid h))

  pub parts_can_end : (mid last : S) → IsReady StandsAt old → Begins StandsAt s old mid (Some count) →
      TakesAll s StandsAt mid last parts → CanEnd StandsAt last (Some count)
  parts_can_end mid last ready h taken = owes_can_end refl ready
      (taken (Some count) parts old [] (begun mid h))

  pub parts_added : (mid last new : S) → Begins StandsAt s old mid (Some count) → TakesAll s StandsAt mid last parts →
      Ends StandsAt last new (Some count) → AddsNamed StandsAt old new (counted_of s number parts)
  parts_added mid last new h taken ends = subst (AddsNamed StandsAt old new) whole
      (owes_ends new refl (taken (Some count) parts old [] (begun mid h)) ends)

  pub parts_end_broken : (mid last new : S) → Begins StandsAt s old mid (Some count) →
      TakesAll s StandsAt mid last parts → BreaksEnd StandsAt out last new (Some count) →
      BreaksNamed StandsAt out old new (counted_of s number parts)
  parts_end_broken mid last new h taken broken = subst (BreaksNamed StandsAt out old new) whole
      (owes_broken_end out new refl (taken (Some count) parts old [] (begun mid h)) broken)

-- ---- one part, and the parts behind it

module _ {S : Type 0} (StandsAt : S → Place → Type 0) (out : S → Out) (s : ContainerType) (old : S) (x : Named)
    (rest : List Named) where
  pub ready_for_one : CanTake s StandsAt old (x ∷ rest) → IsReady StandsAt old
  ready_for_one h = owes_ready h.4 h.5

  pub one_taken : (mid : S) → CanTake s StandsAt old (x ∷ rest) → AddsNamed StandsAt old mid x →
      CanTake s StandsAt mid rest
  one_taken mid h first = (
    h.0,
    h.1,
    h.2,
    h.3,
    h.4,
    owes_more h.5 first,
  )

  pub breaks_at_one : (new : S) → BreaksNamed StandsAt out old new x → BreaksAll s StandsAt out old new (x ∷ rest)
  breaks_at_one new h = λ n whole begun more w. owes_broken out new w h

  pub takes_one_more : (mid new : S) → AddsNamed StandsAt old mid x → TakesAll s StandsAt mid new rest →
      TakesAll s StandsAt old new (x ∷ rest)
  takes_one_more mid new first h = λ n whole begun more w.
      h n whole begun more (owes_more w first)

  pub breaks_behind_one : (mid new : S) → AddsNamed StandsAt old mid x → BreaksAll s StandsAt out mid new rest →
      BreaksAll s StandsAt out old new (x ∷ rest)
  breaks_behind_one mid new first h = λ n whole begun more w.
      h n whole begun more (owes_more w first)

-- ---- one pair, and the parts behind it

module _ {S : Type 0} (StandsAt : S → Place → Type 0) (out : S → Out) (s : ContainerType) (old mid : S)
    (key val : Named) (rest : List Named) (first : AddsNamed StandsAt old mid key) where
  pub ready_for_value : CanTake s StandsAt old (key ∷ val ∷ rest) → IsReady StandsAt mid
  ready_for_value h = ready_for_one StandsAt out s mid val rest
      (one_taken StandsAt out s old key (val ∷ rest) mid h first)

  pub pair_taken : (last : S) → CanTake s StandsAt old (key ∷ val ∷ rest) → AddsNamed StandsAt mid last val →
      CanTake s StandsAt last rest
  pair_taken last h second = one_taken StandsAt out s mid val rest last
      (one_taken StandsAt out s old key (val ∷ rest) mid h first) second

  pub breaks_at_value : (new : S) → BreaksNamed StandsAt out mid new val →
      BreaksAll s StandsAt out old new (key ∷ val ∷ rest)
  breaks_at_value new h = breaks_behind_one StandsAt out s old key (val ∷ rest) mid new first
      (breaks_at_one StandsAt out s mid val rest new h)

  pub takes_pair_more : (last new : S) → AddsNamed StandsAt mid last val → TakesAll s StandsAt last new rest →
      TakesAll s StandsAt old new (key ∷ val ∷ rest)
  takes_pair_more last new second h = takes_one_more StandsAt out s old key (val ∷ rest) mid new first
      (takes_one_more StandsAt out s mid val rest last new second h)

  pub breaks_behind_pair : (last new : S) → AddsNamed StandsAt mid last val → BreaksAll s StandsAt out last new rest →
      BreaksAll s StandsAt out old new (key ∷ val ∷ rest)
  breaks_behind_pair last new second h = breaks_behind_one StandsAt out s old key (val ∷ rest) mid new first
      (breaks_behind_one StandsAt out s mid val rest last new second h)

-- ---- what is left of a list from place k on

pub next_part : {A : Type 0} (f : A → Named) (xs : List A) (k : ℕ) (x : A) → k < length xs → x ≡ get_or xs k x →
    map f (drop k xs) ≡ f x ∷ map f (drop (k + 1) xs)
next_part f xs k x lt is = rw add-one (ap (map f) (left_from (at lt is)))

pub no_part : {A : Type 0} (f : A → Named) (xs : List A) (k : ℕ) → length xs ≤ k → map f (drop k xs) ≡ []
no_part f xs k le = ap (map f) (drop_all k xs le)

pub next_pair : {A B : Type 0} (f : A → Named) (g : B → Named) (es : List (A × B)) (k : ℕ) (e : A × B) →
    k < length es → e ≡ get_or es k e → in_turn f g (drop k es) ≡ f e.0 ∷ g e.1 ∷ in_turn f g (drop (k + 1) es)
next_pair f g es k e lt is = rw add-one (ap (in_turn f g) (left_from (at lt is)))

pub no_pair : {A B : Type 0} (f : A → Named) (g : B → Named) (es : List (A × B)) (k : ℕ) → length es ≤ k →
    in_turn f g (drop k es) ≡ []
no_pair f g es k le = ap (in_turn f g) (drop_all k es le)

module _ {S : Type 0} {StandsAt : S → Place → Type 0} {s : ContainerType} {n : Option ℕ} {parts : List Named}
    {old mid : S} where
  pub owes_part : {A : Type 0} (f : A → Named) (xs : List A) (k : ℕ) {x : A} → k < length xs → x ≡ get_or xs k x →
      Owes StandsAt s n parts old mid (map f (drop k xs)) →
      Owes StandsAt s n parts old mid (f x ∷ map f (drop (k + 1) xs))
  owes_part f xs k {x} less is = subst (Owes StandsAt s n parts old mid) (next_part f xs k x less is)

  pub owes_no_part : {A : Type 0} (f : A → Named) (xs : List A) (k : ℕ) → length xs ≤ k →
      Owes StandsAt s n parts old mid (map f (drop k xs)) → Owes StandsAt s n parts old mid []
  owes_no_part f xs k all = subst (Owes StandsAt s n parts old mid) (no_part f xs k all)

  pub owes_pair : {A B : Type 0} (f : A → Named) (g : B → Named) (es : List (A × B)) (k : ℕ) {e : A × B} →
      k < length es → e ≡ get_or es k e → Owes StandsAt s n parts old mid (in_turn f g (drop k es)) →
      Owes StandsAt s n parts old mid (f e.0 ∷ g e.1 ∷ in_turn f g (drop (k + 1) es))
  owes_pair f g es k {e} less is = subst (Owes StandsAt s n parts old mid) (next_pair f g es k e less is)

  pub owes_no_pair : {A B : Type 0} (f : A → Named) (g : B → Named) (es : List (A × B)) (k : ℕ) → length es ≤ k →
      Owes StandsAt s n parts old mid (in_turn f g (drop k es)) → Owes StandsAt s n parts old mid []
  owes_no_pair f g es k all = subst (Owes StandsAt s n parts old mid) (no_pair f g es k all)

  pub owes_entry : {A B : Type 0} (f : A → Named) (g : B → Named) {es rest : List (A × B)} {e : A × B} → es ≡ e ∷ rest →
      Owes StandsAt s n parts old mid (in_turn f g es) →
      Owes StandsAt s n parts old mid (f e.0 ∷ g e.1 ∷ in_turn f g rest)
  owes_entry f g is = subst (λ l. Owes StandsAt s n parts old mid (in_turn f g l)) is

  pub owes_no_entry : {A B : Type 0} (f : A → Named) (g : B → Named) {es : List (A × B)} → es ≡ [] →
      Owes StandsAt s n parts old mid (in_turn f g es) → Owes StandsAt s n parts old mid []
  owes_no_entry f g is = subst (λ l. Owes StandsAt s n parts old mid (in_turn f g l)) is

-- ---- a refusal before anything was written

pub broken_before : {S : Type 0} (StandsAt : S → Place → Type 0) (out : S → Out) (s : S) (n : Named) →
    ((s : S) (p : Place) → StandsAt s p → IsOutAt (out s) p) → BreaksNamed StandsAt out s s n
broken_before StandsAt out s (Err k) shows = tt
broken_before StandsAt out s (Ok i) shows = λ p st room. cut_nothing (out s) p i (shows s p st)

-- ---- a tag and its content

module _ {S : Type 0} (StandsAt : S → Place → Type 0) (out : S → Out) (old : S) (t : ℕ) where
  pub tag_broken : (mid new : S) (r : Named) → Tags StandsAt old mid t → BreaksNamed StandsAt out mid new r →
      BreaksNamed StandsAt out old new (tag_of t r)
  tag_broken mid new (Ok i) k h = λ p st room. cut_wider (out new) p (tagged t p) (added p (item.tag t i))
      (added p (item.tag t i)) (before_tagged p t) refl (before_itself _) (h (tagged t p) (k p st room) room)
  tag_broken mid new (Err e) k h = tt

  pub tag_broken_head : (new : S) (r : Named) → BreaksTag StandsAt out old new t →
      BreaksNamed StandsAt out old new (tag_of t r)
  tag_broken_head new (Ok i) h = λ p st room. cut_wider (out new) p p (tagged t p) (added p (item.tag t i))
      (before_itself _) refl (tagged_before p t i) (h p st room)
  tag_broken_head new (Err e) h = tt
