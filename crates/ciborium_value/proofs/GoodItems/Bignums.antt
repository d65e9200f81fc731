-- What a bignum's tag makes of a string: a number of 64 bits, the tag itself, or nothing.
use Rattle.std.proofs.Common.{◌≡◌, ℕ, zero, suc, ◌+◌, ◌*◌, ◌^◌, ◌<◌, ◌≤◌, ◌⊎◌, inl, inr, cond, ltb, leb, eqb, Bool}
use Rattle.std.proofs.Common.{true, false, ◌||◌, List, [], ◌∷◌, length, Option, Some, None, pos, negsuc, refl, sym, ap}
use Rattle.std.proofs.Common.{◌∙◌, subst, lit<, arith, le-ltb, ltb-true, ltb-false, leb-true, le-leb, eqb-true}
use Rattle.std.proofs.Math.Nat.{pow-le-pow_right, pow-succ', add-mul, mul_assoc, mul_left_comm, mul-le-mul_right}
use Rattle.ciborium_ll.proofs.UsableHeads.{EachIsByte, pass}
use Rattle.ciborium_value.specs.Meaning.{big_endian_behind, big_endian, without_zeros, bignum_meaning, is_bignum_tag}
use Rattle.ciborium_value.specs.{Spelling.IsShortenable, Tree.{Tree, integer, bytes, tag}}
use Rattle.ciborium_value.specs.lemmas.ReadsBackBignums.{length-without_zeros, stays}
use Rattle.ciborium_value.proofs.GoodItems.Reader.{begins_zero, is_shortenable}

-- ---- the bounds of a number

step-low : (n x p q : ℕ) → q ≡ 256 * p → n * q ≤ (256 * n + x) * p
step-low n x p q e = rw e (omega (arith, add-mul (256 * n) x p, mul_assoc 256 n p, mul_left_comm 256 n p))

step-high : (n x p q : ℕ) → x < 256 → q ≡ 256 * p → (256 * n + x + 1) * p ≤ (n + 1) * q
step-high n x p q lt e =
    let more : (256 * n + x + 1) * p ≤ (256 * n + 256) * p = mul-le-mul_right p (omega (arith, lt)) in
    rw e (omega (arith, more, add-mul (256 * n) 256 p, mul_assoc 256 n p, mul_left_comm 256 n p, add-mul n 1 (256 * p)))

at_least : (s : List ℕ) (n : ℕ) → n * 256 ^ length s ≤ big_endian_behind n s
unfolding big_endian_behind
at_least [] n = omega arith
at_least (x ∷ s) n =
    let rest : (256 * n + x) * 256 ^ length s ≤ big_endian_behind (256 * n + x) s = at_least s (256 * n + x) in
    let step : n * 256 ^ suc (length s) ≤ (256 * n + x) * 256 ^ length s =
    step-low n x (256 ^ length s) (256 ^ suc (length s)) (pow-succ' 256 (length s)) in
    omega (arith, rest, step)

at_most : (s : List ℕ) (n : ℕ) → EachIsByte s → big_endian_behind n s + 1 ≤ (n + 1) * 256 ^ length s
unfolding big_endian_behind
at_most [] n h = omega arith
at_most (x ∷ s) n h =
    let rest : big_endian_behind (256 * n + x) s + 1 ≤ (256 * n + x + 1) * 256 ^ length s =
    at_most s (256 * n + x) h.1 in
    let step : (256 * n + x + 1) * 256 ^ length s ≤ (n + 1) * 256 ^ suc (length s) =
    step-high n x (256 ^ length s) (256 ^ suc (length s)) h.0 (pow-succ' 256 (length s)) in
    omega (arith, rest, step)

power : (i j : ℕ) → i ≤ j → 256 ^ i ≤ 256 ^ j
power i j h = pow-le-pow_right {n = 256} (lit< tt) {i = i} {j = j} h

below : (y : List ℕ) (k : ℕ) → EachIsByte y → length y ≤ k → big_endian y < 256 ^ k
below y k h l = let most = at_most y 0 h in let more = power (length y) k l in omega (arith, most, more)

zero_first : (s : List ℕ) → big_endian (0 ∷ s) ≡ big_endian s
unfolding big_endian_behind
zero_first s = refl

-- a number that could be written shorter is not too large
pub foldable-small : (y : List ℕ) → EachIsByte y → length y ≤ 16 → IsShortenable y → big_endian y < 2 ^ 127
foldable-small y h l (inl few) =
    let less = below y 8 h few in let e : 256 ^ 8 < 2 ^ 127 = lit< tt in omega (arith, less, e)
foldable-small y h l (inr (s, is)) =
    let bytes_of : EachIsByte (0 ∷ s) = subst EachIsByte is h in
    let few : length y ≡ suc (length s) = ap length is in
    let less : big_endian s < 256 ^ 15 = below s 15 bytes_of.1 (omega (arith, few, l)) in
    let e : 256 ^ 15 < 2 ^ 127 = lit< tt in
    let same : big_endian y ≡ big_endian s = ap big_endian is ∙ zero_first s in
    omega (arith, less, e, same)

-- ---- the test

or_true : (t u : Bool) → (t || u) ≡ true → (t ≡ true) ⊎ (u ≡ true)
or_true true u h = inl refl
or_true false u h = inr h

or_right : (t u : Bool) → u ≡ true → (t || u) ≡ true
or_right true u h = refl
or_right false u h = h

or_left : (t u : Bool) → t ≡ true → (t || u) ≡ true
or_left true u h = refl
or_left false u h = absurd cc

pub foldable-is : (y : List ℕ) → is_shortenable y ≡ true → IsShortenable y
foldable-is y h = by (or_true (leb (length y) 8) (begins_zero y) h)
  where
    begins : (y : List ℕ) → begins_zero y ≡ true → (s : List ℕ) × (y ≡ 0 ∷ s)
    begins [] e = absurd cc
    begins (x ∷ s) e = (s, ap (λ z. z ∷ s) (eqb-true x 0 e))

    by : (leb (length y) 8 ≡ true) ⊎ (begins_zero y ≡ true) → IsShortenable y
    by (inl e) = inl (leb-true (length y) 8 e)
    by (inr e) = inr (begins y e)

pub is-foldable : (y : List ℕ) → IsShortenable y → is_shortenable y ≡ true
is-foldable y (inl h) = or_left _ _ (le-leb (length y) 8 h)
is-foldable y (inr (s, e)) = or_right _ _ (ap begins_zero e)

-- ---- what a tag keeps

abbrev pub IsKept : ℕ → List ℕ → Type 0
IsKept t y = bignum_meaning t y ≡ Some (tag t (bytes y))

-- a string with no zero first whose number has more than 64 bits
abbrev IsGreat : List ℕ → Type 0
IsGreat y = (without_zeros y ≡ y) × (2 ^ 64 ≤ big_endian y)

great-whole : (y : List ℕ) → EachIsByte y → IsGreat y → IsShortenable y → ⊥
great-whole y h g (inl few) = let less = below y 8 h few in let e : 256 ^ 8 ≡ 2 ^ 64 = refl in let much = g.1 in
    omega (arith, less, e, much)
great-whole y h g (inr (s, is)) =
    let l : length y ≡ suc (length s) = ap length is in
    let e : length (without_zeros s) ≡ length y = ap (λ (c : List ℕ). length (without_zeros c)) (sym is) ∙
    ap length g.0 in
    omega (arith, l, e, length-without_zeros s)

great-first : (x : ℕ) (s : List ℕ) → 8 ≤ length s → 2 ^ 64 ≤ big_endian (suc x ∷ s)
unfolding big_endian_behind
great-first x s h =
    let much : (256 * 0 + suc x) * 256 ^ length s ≤ big_endian_behind (256 * 0 + suc x) s =
    at_least s (256 * 0 + suc x) in
    let more : 256 ^ 8 ≤ 256 ^ length s = power 8 (length s) h in
    let once : 1 * 256 ^ length s ≤ (256 * 0 + suc x) * 256 ^ length s =
    mul-le-mul_right (256 ^ length s) (omega arith) in
    let e : 256 ^ 8 ≡ 2 ^ 64 = refl in
    omega (arith, much, more, once, e)

whole-great : (y : List ℕ) → (IsShortenable y → ⊥) → IsGreat y
whole-great [] f = absurd (f (inl (omega arith)))
whole-great (zero ∷ s) f = absurd (f (inr (s, refl)))
whole-great (suc x ∷ s) f = (stays x s, great-first x s (long (leb (length (suc x ∷ s)) 8) refl))
  where
    long : (t : Bool) → leb (length (suc x ∷ s)) 8 ≡ t → 8 ≤ length s
    long true e = absurd (f (inl (leb-true (length (suc x ∷ s)) 8 e)))
    long false e = grind (arith, e)

pub bignum-tag : (t : ℕ) → is_bignum_tag t ≡ true → (t ≡ 2) ⊎ (t ≡ 3)
bignum-tag t h = by (or_true (eqb t 2) (eqb t 3) h)
  where
    by : (eqb t 2 ≡ true) ⊎ (eqb t 3 ≡ true) → (t ≡ 2) ⊎ (t ≡ 3)
    by (inl e) = inl (eqb-true t 2 e)
    by (inr e) = inr (eqb-true t 3 e)

kept-great_2 : (y : List ℕ) → IsKept 2 y → IsGreat y
unfolding bignum_meaning
kept-great_2 y = by (ltb (big_endian y) (2 ^ 64)) refl
  where
    by : (c : Bool) → ltb (big_endian y) (2 ^ 64) ≡ c →
        ◌≡◌ {A = Option Tree} (cond c (Some (integer (pos (big_endian y)))) (Some (tag 2 (bytes (without_zeros y)))))
        (Some (tag 2 (bytes y))) → IsGreat y
    by true e h = absurd cc
    by false e h = (cc, ltb-false _ _ e)

kept-great_3 : (y : List ℕ) → IsKept 3 y → IsGreat y × (big_endian y < 2 ^ 127)
unfolding bignum_meaning
kept-great_3 y = by (ltb (big_endian y) (2 ^ 64)) (ltb (big_endian y) (2 ^ 127)) refl refl
  where
    by : (c d : Bool) → ltb (big_endian y) (2 ^ 64) ≡ c → ltb (big_endian y) (2 ^ 127) ≡ d →
        ◌≡◌ {A = Option Tree} (cond c (Some (integer (negsuc (big_endian y))))
        (cond d (Some (tag 3 (bytes (without_zeros y)))) None)) (Some (tag 3 (bytes y))) → IsGreat y ×
        (big_endian y < 2 ^ 127)
    by true d e f h = absurd cc
    by false false e f h = absurd cc
    by false true e f h = ((cc, ltb-false _ _ e), ltb-true _ _ f)

-- what a tag keeps is not foldable
pub kept-whole : (t : ℕ) (y : List ℕ) → is_bignum_tag t ≡ true → EachIsByte y → IsKept t y → IsShortenable y → ⊥
kept-whole t y is h kept f = by (bignum-tag t is)
  where
    by : (t ≡ 2) ⊎ (t ≡ 3) → ⊥
    by (inl e) = great-whole y h (kept-great_2 y (subst (λ u. IsKept u y) e kept)) f
    by (inr e) = great-whole y h (kept-great_3 y (subst (λ u. IsKept u y) e kept)).0 f

whole-kept_2 : (y : List ℕ) (v : Tree) → IsGreat y → bignum_meaning 2 y ≡ Some v → v ≡ tag 2 (bytes y)
unfolding bignum_meaning
whole-kept_2 y v g h = let e : Some v ≡ Some (tag 2 (bytes y)) = sym h ∙ pass _ _ _ (le-ltb (big_endian y) (2 ^ 64) g.1)
    ∙ ap (λ (c : List ℕ). Some (tag 2 (bytes c))) g.0 in cc

whole-kept_3 : (y : List ℕ) (v : Tree) → IsGreat y → bignum_meaning 3 y ≡ Some v → v ≡ tag 3 (bytes y)
unfolding bignum_meaning
whole-kept_3 y v g h = by (ltb (big_endian y) (2 ^ 127)) (sym (pass _ _ _ (le-ltb (big_endian y) (2 ^ 64) g.1)) ∙ h)
  where
    by : (d : Bool) → ◌≡◌ {A = Option Tree} (cond d (Some (tag 3 (bytes (without_zeros y)))) None) (Some v) →
        v ≡ tag 3 (bytes y)
    by true e = let f : v ≡ tag 3 (bytes (without_zeros y)) = cc in f ∙ ap (λ (c : List ℕ). tag 3 (bytes c)) g.0
    by false e = absurd cc

-- and what is not foldable is kept, if it has a meaning
pub whole-kept : (t : ℕ) (y : List ℕ) (v : Tree) → is_bignum_tag t ≡ true → (IsShortenable y → ⊥) →
    bignum_meaning t y ≡ Some v → v ≡ tag t (bytes y)
whole-kept t y v is f h = by (bignum-tag t is)
  where
    by : (t ≡ 2) ⊎ (t ≡ 3) → v ≡ tag t (bytes y)
    by (inl e) = whole-kept_2 y v (whole-great y f) (subst (λ u. bignum_meaning u y ≡ Some v) e h) ∙
        ap (λ u. tag u (bytes y)) (sym e)
    by (inr e) = whole-kept_3 y v (whole-great y f) (subst (λ u. bignum_meaning u y ≡ Some v) e h) ∙
        ap (λ u. tag u (bytes y)) (sym e)

-- ---- what has no meaning

pub large-none : (y : List ℕ) → 2 ^ 127 ≤ big_endian y → bignum_meaning 3 y ≡ None
unfolding bignum_meaning
large-none y h = let e : 2 ^ 64 < 2 ^ 127 = lit< tt in
    pass _ _ _ (le-ltb (big_endian y) (2 ^ 64) (omega (arith, h, e))) ∙ pass _ _ _ (le-ltb (big_endian y) (2 ^ 127) h)

none-large_2 : (y : List ℕ) → bignum_meaning 2 y ≡ None → ⊥
unfolding bignum_meaning
none-large_2 y = by (ltb (big_endian y) (2 ^ 64))
  where
    by : (c : Bool) → ◌≡◌ {A = Option Tree} (cond c (Some (integer (pos (big_endian y))))
        (Some (tag 2 (bytes (without_zeros y))))) None → ⊥
    by true e = cc
    by false e = cc

none-large_3 : (y : List ℕ) → bignum_meaning 3 y ≡ None → 2 ^ 127 ≤ big_endian y
unfolding bignum_meaning
none-large_3 y = by (ltb (big_endian y) (2 ^ 64)) (ltb (big_endian y) (2 ^ 127)) refl
  where
    by : (c d : Bool) → ltb (big_endian y) (2 ^ 127) ≡ d →
        ◌≡◌ {A = Option Tree} (cond c (Some (integer (negsuc (big_endian y))))
        (cond d (Some (tag 3 (bytes (without_zeros y)))) None)) None → 2 ^ 127 ≤ big_endian y
    by true d e f = absurd cc
    by false true e f = absurd cc
    by false false e f = ltb-false _ _ e

pub none-large : (t y : _) → is_bignum_tag t ≡ true → bignum_meaning t y ≡ None → (t ≡ 3) × (2 ^ 127 ≤ big_endian y)
none-large t y is h = by (bignum-tag t is)
  where
    by : (t ≡ 2) ⊎ (t ≡ 3) → (t ≡ 3) × (2 ^ 127 ≤ big_endian y)
    by (inl e) = absurd (none-large_2 y (subst (λ u. bignum_meaning u y ≡ None) e h))
    by (inr e) = (e, none-large_3 y (subst (λ u. bignum_meaning u y ≡ None) e h))
