-- Bytes that are taken in two steps.
use Rattle.std.proofs.Common.{◌≡◌, ℕ, ◌+◌, ◌<◌, ◌≤◌, ◌%◌, List, [], ◌∷◌, ◌++◌, length, get_or, Option, Result, Err}
use Rattle.std.proofs.{Common.{refl, sym, ap, ◌∙◌, subst, arith, length-append}, KnownBytes.Consumes-trans}
use Rattle.std.proofs.lemmas.List.Elements.{All-append}
use Rattle.ciborium_ll.specs.{declared.header.Header.Header, declared.header.Error.Error, Bytes.greatest_offset}
use Rattle.ciborium_ll.specs.{ReaderSteps.{Advances, IsFillTaken, IsHeadTaken}, Refusal.argument_length}
use Rattle.ciborium_ll.proofs.HeadAnswers.{argument-refused}

-- one step behind another
pub Advances-then : (a b c : Option (List ℕ)) (p q r : ℕ) (P Q S : List ℕ → Type 0) →
    ((x y : List ℕ) → P x → Q y → S (x ++ y)) → Advances a b p q P → Advances b c q r Q → Advances a c p r S
Advances-then a b c p q r P Q S join first second = (
  first.0 ++ second.0,
  Consumes-trans a b c first.0 second.0 first.1 second.1,
  omega (arith, first.2, second.2, length-append first.0 second.0),
  join first.0 second.0 first.3 second.3,
  All-append (λ x. x < 256) first.0 second.0 first.4 second.4,
)

-- the same bytes, of which more holds
pub Advances-map : (a b : Option (List ℕ)) (p q : ℕ) (P Q : List ℕ → Type 0) → ((x : List ℕ) → P x → Q x) →
    Advances a b p q P → Advances a b p q Q
Advances-map a b p q P Q f (x, taken, count, h, bytes) = (x, taken, count, f x h, bytes)

-- a list of one element
pub single : (xs : List ℕ) → length xs ≡ 1 → xs ≡ get_or xs 0 0 ∷ []
single (x ∷ []) h = refl
single u h = absurd (omega (arith, h))

-- ---- an initial byte, and what is read behind it

-- b was taken at offset p, and fills a buffer
abbrev pub Filled : List ℕ → ℕ → List ℕ → Type 0
Filled b p buffer = (b ≡ buffer) × (p + length buffer ≤ greatest_offset)

-- a head behind its initial byte
pub head-behind : (E : Type 0) (a b c : Option (List ℕ)) (p q r : ℕ) (first : List ℕ) (result : Result Header (Error E))
    → length first ≡ 1 → Advances a b p q (λ x. Filled x p first) →
    Advances b c q r (λ y. IsHeadTaken {E = E} (get_or first 0 0 ∷ y) p result) →
    Advances a c p r (λ x. IsHeadTaken {E = E} x p result)
head-behind E a b c p q r first result one = Advances-then a b c p q r (λ x. Filled x p first)
    (λ y. IsHeadTaken {E = E} (get_or first 0 0 ∷ y) p result) (λ x. IsHeadTaken {E = E} x p result)
    (λ x y e h. subst (λ l. IsHeadTaken {E = E} (l ++ y) p result) (sym (e.0 ∙ single first one)) h)

module _ (b c : Option (List ℕ)) (p q r initial : ℕ) (bytes : List ℕ) where
  -- the argument was refused
  pub argument-fails : {E : Type 0} (e : Error E) → q ≡ p + 1 → q ≤ greatest_offset →
      length bytes ≡ argument_length (initial % 32) → Advances b c q r (λ x. IsFillTaken {E = E} x q bytes (Err e)) →
      Advances b c q r (λ y. IsHeadTaken {E = E} (initial ∷ y) p (Err e))
  argument-fails {E} e at fits len = Advances-map b c q r (λ x. IsFillTaken {E = E} x q bytes (Err e))
      (λ y. IsHeadTaken {E = E} (initial ∷ y) p (Err e))
      (λ y h. argument-refused {E = E} initial y p bytes e (omega (arith, at, fits)) len
      (subst (λ n. IsFillTaken {E = E} y n bytes (Err e)) at h))

  -- it was read whole
  pub argument-whole : (E : Type 0) (result : Result Header (Error E)) → Advances b c q r (λ x. Filled x q bytes) →
      IsHeadTaken {E = E} (initial ∷ bytes) p result →
      Advances b c q r (λ y. IsHeadTaken {E = E} (initial ∷ y) p result)
  argument-whole E result second h =
      Advances-map b c q r (λ x. Filled x q bytes) (λ y. IsHeadTaken {E = E} (initial ∷ y) p result)
      (λ y f. subst (λ l. IsHeadTaken {E = E} (initial ∷ l) p result) (sym f.0) h) second

  pub argument-end : q ≡ p + 1 → Advances b c q r (λ x. Filled x q bytes) → (r ≡ p + 1 + length bytes) ×
      (r ≤ greatest_offset)
  argument-end at second = let len : length second.0 ≡ length bytes = ap length second.3.0 in
      (omega (arith, at, len, second.2), omega (arith, at, len, second.2, second.3.1))
