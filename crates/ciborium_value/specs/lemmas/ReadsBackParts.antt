-- What is written is read back, for what is made of others: lists and tuples.
use Rattle.std.proofs.{Common.{ap, ◌∙◌, arith, subst}, Math.Nat.{le-max_left, le-max_right, max-zero}}
use Rattle.std.{proofs.lemmas.List.Elements.{All-head, All-tail}, specs.{List.All, Prelude.{◌≡◌, ℕ, suc, max, Bool}}}
use Rattle.std.specs.Prelude.{true, false, List, [], ◌∷◌, map, Some, None, Result, Ok, Err, IfOk, if◌then◌else◌, refl}
use Rattle.ciborium_ll.specs.{Item.Item, declared.kind.Kind.Kind}
use Rattle.ciborium_value.specs.Given.{Steps, Given, chosen, give, gives, outcome, outcome_map, refuse, refuses}
use Rattle.ciborium_value.specs.{Given.{take_each, then_take, unpack}, GivenParts.{after_seq, given_then, given_list}}
use Rattle.ciborium_value.specs.GivenParts.{no_part_given, part_given, given_tuple1, given_tuple2, given_tuple3}
use Rattle.ciborium_value.specs.{GivenParts.given_tuple4, Nesting.{Limit, IsWithin}, Places.an_array}
use Rattle.ciborium_value.specs.{ReadsBack.{IsItemRead, IsNameRead, IsReadBack, Way, at, name-back}, Sinks.Named}
use Rattle.ciborium_value.specs.Sinks.{and_then, all_named, contained, container_of}
use Rattle.ciborium_value.specs.lemmas.MetItems.{AreMet, array-met, inside}

-- the greatest of these levels, or 0
abbrev pub greatest : {T : Type 0} → (T → ℕ) → List T → ℕ
greatest levels [] = 0
greatest levels (x ∷ xs) = max (levels x) (greatest levels xs)

-- ---- levels

pub within-left : (l : Limit) (m n : ℕ) → IsWithin l (max m n) → IsWithin l m
within-left None m n h = tt
within-left (Some k) m n h = omega (arith, le-max_left m n, h)

pub within-right : (l : Limit) (m n : ℕ) → IsWithin l (max m n) → IsWithin l n
within-right None m n h = tt
within-right (Some k) m n h = omega (arith, le-max_right m n, h)

-- ---- what is made of what is read, and tests

made-back : {C D : Type 0} (make : C → D) {way : Way} {r : Named} {taken : Given C} {c : C} {n : ℕ} →
    IsNameRead way r taken c n → IsNameRead way r (given_then taken (λ d. give (make d))) (make c) n
made-back make h = record {
  back = λ i e j is l fits. ap (λ o. then_take o (λ d. gives (make d))) (h.back i e j is l fits);
}

-- what passes the test of a type is read as what it is a test of (`such_that`)
pub such_that_back : {C : Type 0} (test : C → Bool) (kind : Kind) {way : Way} {w : Named}
    {taken : Given C} {c : C} {n : ℕ} → IsNameRead way w taken c n → test c ≡ true →
    IsNameRead way w (given_then taken (λ v. chosen (test v) (give v) (refuse kind))) c n
such_that_back test kind {c = c} law passes = record {
  back = λ i e j is l fits.
      ap (λ o. then_take o (λ v. if test v then gives v else refuses kind))
      (law.back i e j is l fits) ∙ ap (λ t. if t then gives c else refuses kind) passes;
}

-- what a test decides is read as the content that it decides, as of a struct whose field is left
-- out where it does not hold
pub either_back : {C : Type 0} (content : Bool → C) (t : Bool) {way : Way} {r s : Named} {taken : Given C} {n : ℕ} →
    IsNameRead way r taken (content true) n →
    IsNameRead way s taken (content false) n → IsNameRead way (if t then r else s) taken (content t) n
either_back content true h k = h
either_back content false h k = k

-- ---- parts in a row

-- what is met of these items is read as this content, where so many levels are left
abbrev AreItemsRead : {C : Type 0} → Way → (List Item → Steps C) → C → ℕ → List Item → Type 0
AreItemsRead way parts c n is = (js : List Item) → AreMet way is js → (l : Limit) → IsWithin l n →
    outcome l (parts js) ≡ gives c

-- so are those that the parts name, if they name items
pub record ArePartsRead {C : Type 0} (way : Way) (s : Result (List Item) Kind)
    (parts : List Item → Steps C) (c : C) (n : ℕ) : Type 0 where
  pub back : IfOk s (AreItemsRead way parts c n)

none-back : {C : Type 0} {way : Way} (parts : List Item → Steps C) (c : C) →
    ((l : Limit) → outcome l (parts []) ≡ gives c) → ArePartsRead way (Ok []) parts c 0
none-back parts c h = record {
  back = elim [ [] ↦ λ each l fits. h l | j ∷ js ↦ λ each. absurd each ];
}

-- one is read before those behind it, and this is made of both
module _ {A B C : Type 0} (make : A → B → C) (taken : Given A) (behind : List Item → Steps B)
    (parts : List Item → Steps C) (first : (l : Limit) (j : Item) (js : List Item) →
    outcome l (parts (j ∷ js)) ≡ then_take (outcome l (taken j)) (λ v. outcome_map (make v)
    (outcome l (behind js)))) (way : Way) where
  both-read : (r : Named) (s : Result (List Item) Kind) (a : A) (b : B) (n m : ℕ) → IfOk r (IsItemRead way taken a n) →
      IfOk s (AreItemsRead way behind b m) → IfOk (and_then r s) (AreItemsRead way parts (make a b) (max n m))
  both-read (Ok i) (Ok is) a b n m h k = elim [
    | [] ↦ λ each. absurd each
    | j ∷ js ↦ λ each l fits. first l j js
        ∙ ap (λ o. then_take o (λ v. outcome_map (make v) (outcome l (behind js))))
        (h j each.0 l (within-left l n m fits))
        ∙ ap (outcome_map (make a)) (k js each.1 l (within-right l n m fits))
  ]
  both-read u v a b n m h k = tt

  before : {r : Named} {s : Result (List Item) Kind} {a : A} {b : B} {n m : ℕ} → IsNameRead way r taken a n →
      ArePartsRead way s behind b m → ArePartsRead way (and_then r s) parts (make a b) (max n m)
  before {r = r} {s = s} {a = a} {b = b} {n = n} {m = m} h k = record {
    back = both-read r s a b n m (at h) k.back;
  }

-- a part, and those after it
pub part_back : {A C : Type 0} {way : Way} {r : Named} {taken : Given A} {a : A} {n : ℕ}
    {s : Result (List Item) Kind} {behind : List Item → Steps C} {c : C} {m : ℕ} → IsNameRead way r taken a n →
    ArePartsRead way s behind c m → ArePartsRead way (and_then r s) (part_given taken behind) (a, c) (max n m)
part_back {way = way} {taken = taken} {behind = behind} h j =
    before (λ v c. (v, c)) taken behind (part_given taken behind) (λ l j js. refl) way h j

-- no part
pub no_part_back : {way : Way} → ArePartsRead way (Ok []) no_part_given tt 0
no_part_back = none-back no_part_given tt (λ l. refl)

-- the last part
last_back : {A : Type 0} {way : Way} {r : Named} {taken : Given A} {a : A} {n : ℕ} →
    IsNameRead way r taken a n → ArePartsRead way (and_then r (Ok [])) (part_given taken no_part_given) (a, tt) n
last_back {way = way} {r = r} {taken = taken} {a = a} {n = n} h = subst
    (ArePartsRead way (and_then r (Ok [])) (part_given taken no_part_given) (a, tt)) (max-zero n)
    (part_back h no_part_back)

-- the array of them
pub array_back : {C : Type 0} {way : Way} {s : Result (List Item) Kind} {parts : List Item → Steps C} {c : C} {n : ℕ} →
    ArePartsRead way s parts c n → IsNameRead way (contained an_array false s) (after_seq parts) c (suc n)
array_back {way = way} {s = s} {parts = parts} {c = c} {n = n} law =
    name-back (contained an_array false s) (by s law.back)
  where
    by : (s : Result (List Item) Kind) → IfOk s (AreItemsRead way parts c n) →
        IfOk (contained an_array false s) (IsItemRead way (after_seq parts) c (suc n))
    by (Ok is) h = λ j e l fits. let (js, each, same) = array-met way is j e in
        subst (λ x. outcome l (after_seq parts x) ≡ gives c) same
        (inside (λ p. p.0) (λ p. parts p.1) (true, unpack js) c n refl (h (unpack js) each) l fits)
    by (Err k) h = tt

-- ---- lists

module _ {T C : Type 0} {way : Way} {IsValid : T → Type 0} {written : T → Named} {taken : Given C}
    {content : T → C} {levels : T → ℕ}
    (law : IsReadBack way IsValid written taken content levels) where
  each-back : (xs : List T) → All IsValid xs →
      ArePartsRead way (all_named (map written xs)) (take_each taken) (map content xs) (greatest levels xs)
  each-back [] valid = none-back (take_each taken) [] (λ l. refl)
  each-back (x ∷ xs) valid = before (λ v vs. v ∷ vs) taken (take_each taken) (take_each taken) (λ l j js. refl) way
      (law x (All-head IsValid x xs valid)) (each-back xs (All-tail IsValid x xs valid))

  pub list-back : (xs : List T) → All IsValid xs → IsNameRead way (container_of an_array (map written xs))
      (given_list taken) (map content xs) (suc (greatest levels xs))
  list-back xs valid = array_back (each-back xs valid)

-- ---- tuples

module _ {A : Type 0} {way : Way} {r : Named} {f : Given A} {a : A} {n : ℕ}
    (h : IsNameRead way r f a n) where
  pub tuple1-back : IsNameRead way (container_of an_array (r ∷ [])) (given_tuple1 f) a (suc n)
  tuple1-back = made-back (λ p. p.0) (array_back (last_back h))

  module _ {B : Type 0} {s : Named} {g : Given B} {b : B} {m : ℕ} (j : IsNameRead way s g b m) where
    pub tuple2-back : IsNameRead way (container_of an_array (r ∷ s ∷ [])) (given_tuple2 f g) (a, b) (suc (max n m))
    tuple2-back = made-back (λ p. (p.0, p.1.0)) (array_back (part_back h (last_back j)))

    module _ {D : Type 0} {t : Named} {p : Given D} {d : D} {k : ℕ} (q : IsNameRead way t p d k)
      where
        pub tuple3-back : IsNameRead way (container_of an_array (r ∷ s ∷ t ∷ []))
            (given_tuple3 f g p) (a, b, d) (suc (max n (max m k)))
        tuple3-back = made-back (λ p. (p.0, p.1.0, p.1.1.0)) (array_back (part_back h (part_back j (last_back q))))

        module _ {E : Type 0} {u : Named} {w : Given E} {e : E} {o : ℕ} (x : IsNameRead way u w e o)
          where
            pub tuple4-back : IsNameRead way (container_of an_array (r ∷ s ∷ t ∷ u ∷ []))
                (given_tuple4 f g p w) (a, b, d, e) (suc (max n (max m (max k o))))
            tuple4-back = made-back (λ p. (p.0, p.1.0, p.1.1.0, p.1.1.1.0))
                (array_back (part_back h (part_back j (part_back q (last_back x)))))
