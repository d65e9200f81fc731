-- When the head at the front is usable, in terms of its initial byte and of the bytes behind it.
use Rattle.std.proofs.Common.{◌≡◌, ℕ, zero, suc, ◌+◌, ◌*◌, ◌/◌, ◌%◌, ◌<◌, ◌≤◌, cond, ltb, eqb, Bool, true, false, ◌&&◌}
use Rattle.std.proofs.Common.{◌||◌, List, [], ◌∷◌, ◌++◌, length, get_or, take, Option, Some, None, refl, sym, ap, ◌∙◌}
use Rattle.std.proofs.Common.{subst, arith, inl, inr, ◌⊎◌, ltb-true, ltb-false, lt-ltb, le-ltb, eqb-true, ne_eqb}
use Rattle.std.proofs.{Common.length-append, lemmas.{Bool.{cond_both, Decides.nat_tests}, Nat.div-mul-add}}
use Rattle.std.proofs.lemmas.Nat.{mod-mul-add, from_be_bytes-to_be_bytes_2, from_be_bytes-to_be_bytes_4}
use Rattle.std.{proofs.lemmas.Nat.from_be_bytes-to_be_bytes_8, specs.Int.{from_be_bytes, w16, w32, w64}}
use Rattle.ciborium_ll.{proofs.FrontHeads.{counted, front, front-head}, specs.{Bytes.greatest_offset, Head.Width}}
use Rattle.ciborium_ll.specs.Head.{within, one_byte, two_bytes, four_bytes, eight_bytes, information, argument_bytes}
use Rattle.ciborium_ll.specs.{Head.{head_in, capacity}, Refusal.{Refusal, syntax, too_long, argument_length}}
use Rattle.ciborium_ll.specs.Refusal.{is_reserved, is_low_simple, argument, payload_length, initial_refusal, IsUsable}
use Rattle.ciborium_ll.specs.Refusal.{HasHead}

abbrev pub EachIsByte : List ℕ → Type 0
EachIsByte [] = Unit {0}
EachIsByte (x ∷ b) = (x < 256) × EachIsByte b

pub bytes_after : (s r : List ℕ) → EachIsByte (s ++ r) → EachIsByte r
bytes_after [] r h = h
bytes_after (x ∷ s) r h = bytes_after s r h.1

pub byte_at : (b : List ℕ) → EachIsByte b → (i : ℕ) → get_or b i 0 < 256
byte_at (x ∷ b) h zero = h.0
byte_at (x ∷ b) h (suc i) = byte_at b h.1 i
byte_at u h v = omega arith

pub take_bytes : (k : ℕ) (b : List ℕ) → EachIsByte b → EachIsByte (take k b)
take_bytes (suc k) (x ∷ b) h = (h.0, take_bytes k b h.1)
take_bytes u v h = tt

-- ---- tests

abbrev pub why : Type 0
why = Option Refusal

pub pass : {A : Type 0} (t : Bool) (x y : A) → t ≡ false → cond t x y ≡ y
pass t x y e = ap (λ u. cond u x y) e

pub fall : (t : Bool) (e : Refusal) (o : why) → cond t (Some e) o ≡ None → (t ≡ false) × (o ≡ None)
fall true e o h = absurd cc
fall false e o h = (refl, h)

pub rise : (t : Bool) (e : Refusal) (o : why) → cond t o (Some e) ≡ None → (t ≡ true) × (o ≡ None)
rise true e o h = (refl, h)
rise false e o h = absurd cc

-- ---- what a usable head says, and back

abbrev pub HeadFits : ℕ → ℕ → List ℕ → ℕ → Type 0
HeadFits m a b p = (is_reserved m a ≡ false) × (p + 1 + argument_length a ≤ greatest_offset) ×
    (argument_length a ≤ length b) × (p + 1 + argument_length a + payload_length m a b ≤ greatest_offset)

abbrev pub low : ℕ → List ℕ → ℕ → Bool
low x b p = ltb (p + 1) greatest_offset && is_low_simple x b

initial-fits : (m a : ℕ) (b : List ℕ) (p : ℕ) → initial_refusal m a b p ≡ None → HeadFits m a b p
initial-fits m a b p h =
    let f = fall _ _ _ h in
    let g = fall _ _ _ f.1 in
    let i = fall _ _ _ g.1 in
    let j = fall _ _ _ i.1 in
    (f.0, ltb-false _ _ g.0, ltb-false _ _ i.0, ltb-false _ _ j.0)

fits-initial : (m a : ℕ) (b : List ℕ) (p : ℕ) → HeadFits m a b p → initial_refusal m a b p ≡ None
fits-initial m a b p u =
    pass _ _ _ u.0 ∙ pass _ _ _ (le-ltb _ _ u.1) ∙ pass _ _ _ (le-ltb _ _ u.2) ∙ pass _ _ _ (le-ltb _ _ u.3)

pub usable-fits : (x : ℕ) (b : List ℕ) (p : ℕ) → IsUsable (x ∷ b) p → (p < greatest_offset) × (low x b p ≡ false) ×
    HeadFits (x / 32) (x % 32) b p
usable-fits x b p h =
    let f = rise _ _ _ h in
    let g = fall _ _ _ f.1 in
    (ltb-true _ _ f.0, g.0, initial-fits (x / 32) (x % 32) b p g.1)

pub fits-usable : (x : ℕ) (b : List ℕ) (p : ℕ) → p < greatest_offset → low x b p ≡ false →
    HeadFits (x / 32) (x % 32) b p → IsUsable (x ∷ b) p
fits-usable x b p h e u =
    ap (λ t. cond t (cond (low x b p) (Some (syntax p)) (initial_refusal (x / 32) (x % 32) b p)) (Some too_long))
    (lt-ltb p greatest_offset h) ∙ pass _ _ _ e ∙ fits-initial (x / 32) (x % 32) b p u

-- ---- a head that stands at the front

pub argument_length-information : (f : Width) (n : ℕ) → n < capacity f →
    argument_length (information f n) ≡ length (argument_bytes f n)
argument_length-information within n h = grind (arith, nat_tests)
argument_length-information u n h = refl

pub information-below : (f : Width) (n : ℕ) → n < capacity f → information f n < 28
information-below within n h = omega arith
information-below one_byte n h = omega arith
information-below two_bytes n h = omega arith
information-below four_bytes n h = omega arith
information-below eight_bytes n h = omega arith

pub argument-information : (f : Width) (n : ℕ) (r : List ℕ) → n < capacity f →
    argument (information f n) (argument_bytes f n ++ r) ≡ n
argument-information within n r h = ap (λ t. cond t n (cond (eqb n 24) (get_or r 0 0)
    (cond (eqb n 25) (from_be_bytes w16 (take 2 r)) (cond (eqb n 26) (from_be_bytes w32 (take 4 r))
    (from_be_bytes w64 (take 8 r)))))) (lt-ltb n 24 h)
argument-information one_byte n r h = refl
argument-information two_bytes n r h = from_be_bytes-to_be_bytes_2 n h
argument-information four_bytes n r h = from_be_bytes-to_be_bytes_4 n h
argument-information eight_bytes n r h = from_be_bytes-to_be_bytes_8 n h

pub unreserved : (m a : ℕ) → a < 28 → is_reserved m a ≡ false
unreserved m a h = grind (arith, nat_tests)

pub not_low : (x : ℕ) (b : List ℕ) → x < 248 → is_low_simple x b ≡ false
not_low x [] h = refl
not_low x (y ∷ b) h = ap (λ t. t && ltb y 32) (ne_eqb x 248 (λ e. omega arith))

pub and_false : (t u : Bool) → u ≡ false → (t && u) ≡ false
and_false true u e = e
and_false false u e = refl

-- the two major types of strings
abbrev pub IsStringMajor : ℕ → Type 0
IsStringMajor m = (m ≡ 2) ⊎ (m ≡ 3)

abbrev pub is_string_major : ℕ → Bool
is_string_major m = eqb m 2 || eqb m 3

payload_length-le : (m a n c : ℕ) (b : List ℕ) → argument a b ≡ n → (IsStringMajor m → c + n ≤ greatest_offset) →
    c ≤ greatest_offset → c + payload_length m a b ≤ greatest_offset
payload_length-le m a n c b e s z =
    cond_both (is_string_major m && ltb a 28) (argument a b) 0 (λ v. c + v ≤ greatest_offset)
    (λ t. let k : c + n ≤ greatest_offset = s (string_major m (and_left_true _ _ t)) in omega (arith, e, k))
    (λ t. omega arith)
  where
    and_left_true : (t u : Bool) → (t && u) ≡ true → t ≡ true
    and_left_true true u h = refl
    and_left_true false u h = absurd cc

    string_major : (k : ℕ) → is_string_major k ≡ true → IsStringMajor k
    string_major k t = cond_cases (eqb k 2) (eqb k 3) t (λ e. inl (eqb-true k 2 e)) (λ e. inr (eqb-true k 3 e))
      where
        cond_cases : (t u : Bool) → (t || u) ≡ true → (t ≡ true → IsStringMajor k) → (u ≡ true → IsStringMajor k) →
            IsStringMajor k
        cond_cases true u h f g = f refl
        cond_cases false u h f g = g h

-- a head of a width stands at the front
pub head_in-usable : (f : Width) (m n p : ℕ) (r : List ℕ) → m < 7 → n < capacity f →
    p + suc (length (argument_bytes f n)) ≤ greatest_offset →
    (IsStringMajor m → p + suc (length (argument_bytes f n)) + n ≤ greatest_offset) → IsUsable (head_in f m n ++ r) p
head_in-usable f m n p r lt h room string =
    let x : ℕ = m * 32 + information f n in
    let b : List ℕ = argument_bytes f n ++ r in
    let i = information-below f n h in
    let d : x / 32 ≡ m = div-mul-add m 32 (information f n) (omega arith) in
    let a : x % 32 ≡ information f n = mod-mul-add m 32 (information f n) (omega arith) in
    let u : HeadFits m (information f n) b p = (
      unreserved m (information f n) i,
      omega (arith, argument_length-information f n h),
      omega (arith, argument_length-information f n h, length-append (argument_bytes f n) r),
      payload_length-le m (information f n) n (p + 1 + argument_length (information f n)) b
          (argument-information f n r h) (λ s. let k = string s in omega (arith, argument_length-information f n h, k))
          (omega (arith, argument_length-information f n h)),
    ) in
    fits-usable x b p (omega arith) (and_false _ _ (not_low x b (omega arith)))
    (subst (λ k. HeadFits k (x % 32) b p) (sym d) (subst (λ k. HeadFits m k b p) (sym a) u))

pub stands-usable : (b : List ℕ) (m n k p : ℕ) (r : List ℕ) → m < 7 → HasHead b m n k r → p + k ≤ greatest_offset →
    (IsStringMajor m → p + k + n ≤ greatest_offset) → IsUsable b p
stands-usable b m n k p r lt s room string =
    let f = s.1.0 in
    let l : k ≡ suc (length (argument_bytes f n)) = sym s.2 ∙ ap length s.1.2 in
    subst (λ c. IsUsable c p) (sym (s.3 ∙ ap (λ (h : List ℕ). h ++ r) s.1.2))
    (head_in-usable f m n p r lt s.1.1 (omega arith) (λ t. let q = string t in omega (arith, q, l)))

pub stands-front : (b : List ℕ) (m n k : ℕ) (r : List ℕ) → m < 7 → HasHead b m n k r → front b ≡ counted m n r
stands-front b m n k r lt s = ap front s.3 ∙ front-head s.0 m n r lt s.1

pub stands-length : (b : List ℕ) (m n k : ℕ) (r : List ℕ) → HasHead b m n k r → (length b ≡ k + length r) × (0 < k)
stands-length b m n k r s =
    let l : length b ≡ length s.0 + length r = ap length s.3 ∙ length-append s.0 r in
    let j : length s.0 ≡ suc (length (argument_bytes s.1.0 n)) = ap length s.1.2 in
    (omega (arith, l, s.2), omega (arith, j, s.2))
