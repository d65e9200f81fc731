-- From a usable head back to the bytes, which are below 256: which head the reader of heads saw.
use Rattle.std.proofs.Common.{◌≡◌, ◌≢◌, ℕ, suc, ◌+◌, ◌*◌, ◌/◌, ◌%◌, ◌<◌, ◌≤◌, cond, ltb, eqb, Bool, true, false, ◌&&◌}
use Rattle.std.proofs.Common.{List, [], ◌∷◌, ◌++◌, length, get_or, take, drop, Some, None, refl, sym, ap, ◌∙◌, subst}
use Rattle.std.proofs.Common.{arith, inl, inr, ltb-true, ltb-false, lt-ltb, eqb-true, eq-eqb, take-append-drop}
use Rattle.std.proofs.{Common.div-add-mod', lemmas.Bool.{cond_both, eqb-false, cond-true, Decides.nat_tests}}
use Rattle.std.{proofs.lemmas.{List.length-take-le, Nat.{be_bytes_2, be_bytes_4, be_bytes_8}}, specs.Int.from_be_bytes}
use Rattle.std.specs.Int.{w16, w32, w64}
use Rattle.ciborium_ll.proofs.FrontHeads.{Front, nothing, counted, opened, plain, raw, front_number, front_other}
use Rattle.ciborium_ll.proofs.{FrontHeads.{front_in, front}, UsableHeads.{EachIsByte, byte_at, take_bytes, usable-fits}}
use Rattle.ciborium_ll.proofs.UsableHeads.{HeadFits, low, IsStringMajor, argument_length-information}
use Rattle.ciborium_ll.specs.{Bytes.greatest_offset, Head.{Width, within, one_byte, two_bytes, four_bytes, eight_bytes}}
use Rattle.ciborium_ll.specs.{Head.{information, argument_bytes, head_in, IsSimple, capacity}, Refusal.{io, too_long}}
use Rattle.ciborium_ll.specs.Refusal.{argument_length, is_reserved, argument, payload_length, IsUsable, HasHead}

-- what is known of the bytes where this head was read
abbrev pub Face : List ℕ → ℕ → Front → Type 0
Face b p nothing = ⊥
Face b p (counted m n r) = (m < 7) × (k : ℕ) × HasHead b m n k r × (p + k ≤ greatest_offset) ×
    (IsStringMajor m → p + k + n ≤ greatest_offset)
Face b p (opened m r) = (b ≡ (m * 32 + 31) ∷ r) × (m < 8) × (m ≢ 0) × (m ≢ 1) × (m ≢ 6) × (p < greatest_offset)
Face b p (plain n r) = (s : List ℕ) × IsSimple s n × (b ≡ s ++ r) × (p + length s ≤ greatest_offset)
Face b p (raw w r) = (x : ℕ) × (249 ≤ x) × (x ≤ 251) × (b ≡ x ∷ r)

-- the payload length of a string is its head's argument
pub payload_length-is : (m a n : ℕ) (b : List ℕ) → a < 28 → argument a b ≡ n → IsStringMajor m →
    payload_length m a b ≡ n
payload_length-is m a n b lt e (inl s) = ap (λ k. payload_length k a b) s ∙
    ap (λ t. cond t (argument a b) 0) (lt-ltb a 28 lt) ∙ e
payload_length-is m a n b lt e (inr s) = ap (λ k. payload_length k a b) s ∙
    ap (λ t. cond t (argument a b) 0) (lt-ltb a 28 lt) ∙ e

counted-face : (f : Width) (m a n p : ℕ) (b r : List ℕ) → m < 7 → information f n ≡ a → n < capacity f →
    b ≡ argument_bytes f n ++ r → a < 28 → argument a b ≡ n → HeadFits m a b p →
    Face ((m * 32 + a) ∷ b) p (counted m n r)
counted-face f m a n p b r lt i h e small is u =
    let x : ℕ = argument_length a in
    let l : x ≡ length (argument_bytes f n) = sym (ap argument_length i) ∙ argument_length-information f n h in (
      lt,
      suc (length (argument_bytes f n)),
      (
        head_in f m n,
        (f, h, refl),
        refl,
        ap (λ j. (m * 32 + j) ∷ b) (sym i) ∙
            ap (λ (c : List ℕ). (m * 32 + information f n) ∷ c) e,
      ),
      omega (arith, u.1, l),
      λ s. let k = payload_length-is m a n b small is s in omega (arith, u.3, k, l),
    )

parts_of : (k : ℕ) (b : List ℕ) → b ≡ take k b ++ drop k b
parts_of k b = sym (take-append-drop k b)

get_at : (k : ℕ) (b : List ℕ) → EachIsByte b → (i : ℕ) → get_or (take k b) i 0 < 256
get_at k b h = byte_at (take k b) (take_bytes k b h)

first-byte : (b : List ℕ) → 1 ≤ length b → b ≡ get_or b 0 0 ∷ drop 1 b
first-byte [] h = let never : ⊥ = omega arith in absurd never
first-byte (x ∷ b) h = refl

not_reserved-below : (m a : ℕ) → is_reserved m a ≡ false → a < 31 → a < 28
not_reserved-below m a e h = grind (arith, nat_tests)

argument_length-at : (a k : ℕ) → a ≡ k → argument_length a ≡ argument_length k
argument_length-at a k e = ap argument_length e

information-27 : (a : ℕ) → a < 28 → (a < 24 → ⊥) → (a ≡ 24 → ⊥) → (a ≡ 25 → ⊥) → (a ≡ 26 → ⊥) → a ≡ 27
information-27 a h i j k l = omega arith

number-inside : (a : ℕ) (b : List ℕ) → ltb a 24 ≡ true → argument a b ≡ a
number-inside a b t = cond-true _ _ _ t

module _ (m a p : ℕ) (b : List ℕ) (bytes : EachIsByte b) (u : HeadFits m a b p) (small : a < 31) where
  below : a < 28
  below = not_reserved-below m a u.0 small

  abbrev F : Front → Type 0
  F f = Face ((m * 32 + a) ∷ b) p f

  number-face : m < 7 → F (front_number m a b)
  number-face lt =
      cond_both (ltb a 24) _ _ F (λ t. counted-face within m a a p b b lt refl (ltb-true _ _ t) refl below
      (number-inside a b t) u)
      (λ t. cond_both (eqb a 24) _ _ F (λ t1. let e = eqb-true a 24 t1 in
      let l : 1 ≤ length b = omega (arith, argument_length-at a 24 e, u.2) in
      counted-face one_byte m a (get_or b 0 0) p b (drop 1 b) lt (sym e) (byte_at b bytes 0) (first-byte b l) below
      (ap (λ c. argument c b) e) u)
      (λ t1. cond_both (eqb a 25) _ _ F (λ t2. let e = eqb-true a 25 t2 in
      let l : 2 ≤ length b = omega (arith, argument_length-at a 25 e, u.2) in
      let g = get_at 2 b bytes in
      let n : ℕ = from_be_bytes w16 (take 2 b) in
      counted-face two_bytes m a n p b (drop 2 b) lt (sym e) (omega (arith, g 0, g 1))
      (parts_of 2 b ∙ ap (λ (c : List ℕ). c ++ drop 2 b)
      (sym (be_bytes_2 (take 2 b) n (length-take-le 2 b l) g refl))) below (ap (λ c. argument c b) e) u)
      (λ t2. cond_both (eqb a 26) _ _ F (λ t3. let e = eqb-true a 26 t3 in
      let l : 4 ≤ length b = omega (arith, argument_length-at a 26 e, u.2) in
      let g = get_at 4 b bytes in
      let n : ℕ = from_be_bytes w32 (take 4 b) in
      counted-face four_bytes m a n p b (drop 4 b) lt (sym e) (omega (arith, g 0, g 1, g 2, g 3))
      (parts_of 4 b ∙ ap (λ (c : List ℕ). c ++ drop 4 b)
      (sym (be_bytes_4 (take 4 b) n (length-take-le 4 b l) g refl))) below (ap (λ c. argument c b) e) u)
      (λ t3. let e : a ≡ 27 = information-27 a below (λ lt. let z = ltb-false _ _ t in omega arith) (eqb-false a 24 t1)
      (eqb-false a 25 t2) (eqb-false a 26 t3) in
      let l : 8 ≤ length b = omega (arith, argument_length-at a 27 e, u.2) in
      let g = get_at 8 b bytes in
      let n : ℕ = from_be_bytes w64 (take 8 b) in
      counted-face eight_bytes m a n p b (drop 8 b) lt (sym e) (omega (arith, g 0, g 1, g 2, g 3, g 4, g 5, g 6, g 7))
      (parts_of 8 b ∙ ap (λ (c : List ℕ). c ++ drop 8 b)
      (sym (be_bytes_8 (take 8 b) n (length-take-le 8 b l) g refl))) below (ap (λ c. argument c b) e) u))))

  other-face : m ≡ 7 → (low (m * 32 + a) b p ≡ false) → F (front_other a b)
  other-face e7 lo =
      cond_both (ltb a 24) _ _ F (λ t. (
        (m * 32 + a) ∷ [],
        inl (ltb-true _ _ t, ap (λ z. z ∷ []) (omega (arith, e7))),
        refl,
        omega (arith, u.1),
      ))
      (λ t. cond_both (eqb a 24) _ _ F (λ t1. let e = eqb-true a 24 t1 in
      let l : 1 ≤ length b = omega (arith, argument_length-at a 24 e, u.2) in
      let room : p + 2 ≤ greatest_offset = omega (arith, argument_length-at a 24 e, u.1) in (
        (m * 32 + a) ∷ get_or b 0 0 ∷ [],
        inr (
          high (m * 32 + a) b l (omega arith) room lo,
          byte_at b bytes 0,
          ap (λ z. z ∷ get_or b 0 0 ∷ []) (omega (arith, e7, e)),
        ),
        ap (λ (c : List ℕ). (m * 32 + a) ∷ c) (first-byte b l),
        omega arith,
      ))
      (λ t1. cond_both (eqb a 25) _ _ F (λ t2. let e = eqb-true a 25 t2 in
      (m * 32 + a, omega (arith, e7, e), omega (arith, e7, e), refl))
      (λ t2. cond_both (eqb a 26) _ _ F (λ t3. let e = eqb-true a 26 t3 in
      (m * 32 + a, omega (arith, e7, e), omega (arith, e7, e), refl))
      (λ t3. let e : a ≡ 27 = information-27 a below (λ lt. let z = ltb-false _ _ t in omega arith) (eqb-false a 24 t1)
      (eqb-false a 25 t2) (eqb-false a 26 t3) in
      (m * 32 + a, omega (arith, e7, e), omega (arith, e7, e), refl)))))
    where
      high : (x : ℕ) (c : List ℕ) → 1 ≤ length c → x ≡ 248 → p + 2 ≤ greatest_offset → low x c p ≡ false →
          32 ≤ get_or c 0 0
      high x [] h e k g = let never : ⊥ = omega arith in absurd never
      high x (y ∷ c) h e k g = ltb-false y 32 (last _ _ _ (lt-ltb (p + 1) greatest_offset (omega arith))
          (eq-eqb x 248 e) g)
        where
          last : (s t v : Bool) → s ≡ true → t ≡ true → (s && (t && v)) ≡ false → v ≡ false
          last s t v i j h = sym (ap (λ z. z && (t && v)) i ∙ ap (λ z. z && v) j) ∙ h

opened-face : (m p : ℕ) (b : List ℕ) → m < 8 → is_reserved m 31 ≡ false → p < greatest_offset →
    Face ((m * 32 + 31) ∷ b) p (opened m b)
opened-face m p b lt e h = (refl, lt, (λ s. bad 0 s refl), (λ s. bad 1 s refl), (λ s. bad 6 s refl), h)
  where
    bad : (k : ℕ) → m ≡ k → is_reserved k 31 ≡ true → ⊥
    bad k s t = let u = sym e ∙ ap (λ j. is_reserved j 31) s ∙ t in cc

front-face : (m a p : ℕ) (b : List ℕ) → m < 8 → a < 32 → EachIsByte b → p < greatest_offset →
    low (m * 32 + a) b p ≡ false → HeadFits m a b p → Face ((m * 32 + a) ∷ b) p (front_in m a b)
front-face m a p b lt la bytes lp lo u =
    cond_both (ltb a 31) _ _ (Face ((m * 32 + a) ∷ b) p)
    (λ t. cond_both (ltb m 7) _ _ (Face ((m * 32 + a) ∷ b) p)
    (λ s. number-face m a p b bytes u (ltb-true _ _ t) (ltb-true _ _ s))
    (λ s. let z = ltb-false _ _ s in other-face m a p b bytes u (ltb-true _ _ t) (omega arith) lo))
    (λ t. let e : a ≡ 31 = (let z = ltb-false _ _ t in omega arith) in
    subst (λ k. Face ((m * 32 + k) ∷ b) p (opened m b)) (sym e)
    (opened-face m p b lt (ap (is_reserved m) (sym e) ∙ u.0) lp))

pub faces : (b : List ℕ) (p : ℕ) → EachIsByte b → IsUsable b p → Face b p (front b)
faces [] p bytes h = absurd (none p h)
  where
    none : (p : ℕ) → IsUsable [] p → ⊥
    none p h = both (ltb p greatest_offset) h
      where
        both : (t : Bool) → cond t (Some io) (Some too_long) ≡ None → ⊥
        both true e = cc
        both false e = cc
faces (x ∷ b) p bytes h =
    let u = usable-fits x b p h in
    let e : x / 32 * 32 + x % 32 ≡ x = div-add-mod' x 32 in
    subst (λ y. Face (y ∷ b) p (front (x ∷ b))) e
    (front-face (x / 32) (x % 32) p b (omega (arith, bytes.0)) (omega arith) bytes.1 u.0 (ap (λ y. low y b p) e ∙ u.1)
    u.2)
