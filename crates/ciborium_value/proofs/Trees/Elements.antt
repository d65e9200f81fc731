-- A list round an index.
use Rattle.std.proofs.Common.{◌≡◌, ℕ, zero, suc, ◌<◌, List, [], ◌∷◌, ◌++◌, length, take, drop, get_or, refl, ap, arith}

-- the element at an index
pub data At {A : Type 0} : ℕ → List A → A → Type 0 where
  here : {x : A} {xs : List A} → At zero (x ∷ xs) x
  behind : {i : ℕ} {x y : A} {xs : List A} → At i xs x → At (suc i) (y ∷ xs) x

pub at : {A : Type 0} {i : ℕ} {xs : List A} {x : A} → i < length xs → x ≡ get_or xs i x → At i xs x
at {xs = []} h e = absurd (omega (arith, h))
at {i = zero} {xs = y ∷ xs} h e = rw e here
at {i = suc i} {xs = y ∷ xs} h e = behind (at (omega (arith, h)) e)

-- the elements before it, itself, and those behind it
pub around : {A : Type 0} {i : ℕ} {xs : List A} {x : A} → At i xs x → xs ≡ take i xs ++ (x ∷ drop (suc i) xs)
around here = refl
around (behind {y = y} a) = ap (λ l. y ∷ l) (around a)

-- one more element
pub one_more : {A : Type 0} {i : ℕ} {xs : List A} {x : A} → At i xs x → take (suc i) xs ≡ take i xs ++ (x ∷ [])
one_more here = refl
one_more (behind {y = y} a) = ap (λ l. y ∷ l) (one_more a)

-- what is left from it on
pub left_from : {A : Type 0} {i : ℕ} {xs : List A} {x : A} → At i xs x → drop i xs ≡ x ∷ drop (suc i) xs
left_from here = refl
left_from (behind a) = left_from a
