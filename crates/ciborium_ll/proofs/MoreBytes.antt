-- What follows a head does not change how the head is judged.
use Rattle.std.proofs.Common.{◌≡◌, ℕ, ◌+◌, ◌/◌, ◌%◌, ◌<◌, ◌≤◌, cond, ltb, eqb, Bool, true, false, ◌&&◌, ◌||◌, List, []}
use Rattle.std.proofs.Common.{◌∷◌, ◌++◌, length, get_or, Option, Some, None, refl, sym, ap, ◌∙◌, arith, le-ltb}
use Rattle.std.proofs.{Common.{ltb-false, ltb-true, eqb-true, length-append}, lemmas.Bool.eqb-false}
use Rattle.std.{proofs.lemmas.List.take-append-le, specs.Int.{from_be_bytes, w16, w32, w64}}
use Rattle.ciborium_ll.{proofs.UsableHeads.pass, specs.{Bytes.greatest_offset, Refusal.{Refusal, io, syntax, too_long}}}
use Rattle.ciborium_ll.specs.Refusal.{argument_length, is_reserved, is_low_simple, argument, payload_length}
use Rattle.ciborium_ll.specs.Refusal.{initial_refusal, head_refusal}

cond-same : {A : Type 0} (t : Bool) (x y z w : A) → (t ≡ true → x ≡ z) → (t ≡ false → y ≡ w) → cond t x y ≡ cond t z w
cond-same true x y z w f g = f refl
cond-same false x y z w f g = g refl

get_or-more : (b r : List ℕ) → 1 ≤ length b → get_or (b ++ r) 0 0 ≡ get_or b 0 0
get_or-more [] r h = absurd (omega arith)
get_or-more (x ∷ b) r h = refl

-- the argument stands in the bytes that it asks for
argument-more : (a : ℕ) (b r : List ℕ) → a < 28 → argument_length a ≤ length b → argument a (b ++ r) ≡ argument a b
argument-more a b r lt le =
    cond-same (ltb a 24) _ _ _ _ (λ t. refl) (λ t0. cond-same (eqb a 24) _ _ _ _ (λ t. get_or-more b r (at 24 t 1 refl))
    (λ t1. cond-same (eqb a 25) _ _ _ _ (λ t. ap (from_be_bytes w16) (take-append-le 2 b r (at 25 t 2 refl)))
    (λ t2. cond-same (eqb a 26) _ _ _ _ (λ t. ap (from_be_bytes w32) (take-append-le 4 b r (at 26 t 4 refl)))
    (λ t3. ap (from_be_bytes w64) (take-append-le 8 b r
    (last (ltb-false a 24 t0) (eqb-false a 24 t1) (eqb-false a 25 t2) (eqb-false a 26 t3)))))))
  where
    is : (k : ℕ) → a ≡ k → (n : ℕ) → argument_length k ≡ n → n ≤ length b
    is k e n l = let same : argument_length a ≡ argument_length k = ap argument_length e in omega (arith, le, same, l)

    at : (k : ℕ) → eqb a k ≡ true → (n : ℕ) → argument_length k ≡ n → n ≤ length b
    at k t n l = is k (eqb-true a k t) n l

    last : 24 ≤ a → (a ≡ 24 → ⊥) → (a ≡ 25 → ⊥) → (a ≡ 26 → ⊥) → 8 ≤ length b
    last h i j k = is 27 (omega (arith, h, i, j, k, lt)) 8 refl

pub payload_length-more : (m a : ℕ) (b r : List ℕ) → argument_length a ≤ length b →
    payload_length m a (b ++ r) ≡ payload_length m a b
payload_length-more m a b r le = cond-same ((eqb m 2 || eqb m 3) && ltb a 28) _ _ _ _
    (λ t. argument-more a b r (ltb-true a 28 (second _ _ t)) le) (λ t. refl)
  where
    second : (t u : Bool) → (t && u) ≡ true → u ≡ true
    second true u e = e
    second false u e = absurd cc

-- a chain of tests of which only the third may fail with more bytes, where it answers `io`
chain : (p : ℕ) (t u v v' w w' : Bool) (o : Option Refusal) → (v ≡ false → (v' ≡ false) × (w' ≡ w)) →
    cond t (Some (syntax p)) (cond u (Some too_long) (cond v (Some io) (cond w (Some too_long) None))) ≡ o →
    (o ≡ Some io → ⊥) →
    cond t (Some (syntax p)) (cond u (Some too_long) (cond v' (Some io) (cond w' (Some too_long) None))) ≡ o
chain p false false true v' w w' o f h n = absurd (n (sym h))
chain p false false false v' w w' o f h n =
    let e = f refl in ap (λ k. cond k (Some io) (cond w' (Some too_long) None)) e.0 ∙
    ap (λ k. cond k (Some too_long) None) e.1 ∙ h
chain p u x v v' w w' o f h n = h

initial-more : (m a p : ℕ) (b r : List ℕ) (o : Option Refusal) → initial_refusal m a b p ≡ o → (o ≡ Some io → ⊥) →
    initial_refusal m a (b ++ r) p ≡ o
initial-more m a p b r o h n =
    chain p (is_reserved m a) (ltb greatest_offset (p + 1 + argument_length a)) (ltb (length b) (argument_length a))
    (ltb (length (b ++ r)) (argument_length a))
    (ltb greatest_offset (p + 1 + argument_length a + payload_length m a b))
    (ltb greatest_offset (p + 1 + argument_length a + payload_length m a (b ++ r))) o
    (λ t. let le = ltb-false (length b) (argument_length a) t in (
      le-ltb (length (b ++ r)) (argument_length a) (omega (arith, le, length-append b r)),
      ap (λ k. ltb greatest_offset (p + 1 + argument_length a + k)) (payload_length-more m a b r le),
    ))
    h n

-- before the second byte of a low simple value
low-ends : (x p : ℕ) (r : List ℕ) → ltb (p + 1) greatest_offset ≡ true → is_low_simple x r ≡ true →
    initial_refusal (x / 32) (x % 32) [] p ≡ Some io
low-ends x p [] t e = absurd cc
low-ends x p (y ∷ r) t e =
    let is : x ≡ 248 = eqb-true x 248 (first _ _ e) in
    ap (λ k. initial_refusal (k / 32) (k % 32) [] p) is ∙
    pass _ _ _ (le-ltb greatest_offset (p + 1 + 1) (let lt = ltb-true (p + 1) greatest_offset t in omega arith))
  where
    first : (t u : Bool) → (t && u) ≡ true → t ≡ true
    first true u e = refl
    first false u e = absurd cc

-- bytes that refuse otherwise than by their end, or begin with a usable head, do so whatever follows
pub refusal-more : (b r : List ℕ) (p : ℕ) (o : Option Refusal) → head_refusal b p ≡ o → (o ≡ Some io → ⊥) →
    head_refusal (b ++ r) p ≡ o
refusal-more [] r p o h n = by (ltb p greatest_offset) refl
  where
    far : (c : List ℕ) → ltb p greatest_offset ≡ false → head_refusal c p ≡ Some too_long
    far [] t = pass _ _ _ t
    far (x ∷ c) t = pass _ _ _ t

    by : (t : Bool) → ltb p greatest_offset ≡ t → head_refusal r p ≡ o
    by true t = absurd (n (sym h ∙ ap (λ k. cond k (Some io) (Some too_long)) t))
    by false t = far r t ∙ sym (far [] t) ∙ h
refusal-more (x ∷ []) r p o h n = by (ltb p greatest_offset) (ltb (p + 1) greatest_offset) (is_low_simple x r) refl refl
    h
  where
    by : (t u v : Bool) → ltb (p + 1) greatest_offset ≡ u → is_low_simple x r ≡ v →
        cond t (cond (u && false) (Some (syntax p)) (initial_refusal (x / 32) (x % 32) [] p)) (Some too_long) ≡ o →
        cond t (cond (u && v) (Some (syntax p)) (initial_refusal (x / 32) (x % 32) r p)) (Some too_long) ≡ o
    by false u v e f h = h
    by true true true e f h = absurd (n (sym h ∙ low-ends x p r e f))
    by u v w e f h = initial-more (x / 32) (x % 32) p [] r o h n
refusal-more (x ∷ y ∷ b) r p o h n = by (ltb p greatest_offset) (ltb (p + 1) greatest_offset && (eqb x 248 && ltb y 32))
    h
  where
    by : (t u : Bool) → cond t (cond u (Some (syntax p)) (initial_refusal (x / 32) (x % 32) (y ∷ b) p)) (Some too_long)
        ≡ o → cond t (cond u (Some (syntax p)) (initial_refusal (x / 32) (x % 32) (y ∷ (b ++ r)) p)) (Some too_long) ≡ o
    by true false h = initial-more (x / 32) (x % 32) p (y ∷ b) r o h n
    by u v h = h
