-- A limit decides nothing but nesting: what is read, or refused, does not depend on it.
use Rattle.std.proofs.Common.{◌≡◌, ℕ, zero, suc, Bool, true, false, Some, None, refl, sym, ap, subst, ◌⊎◌, inl, inr}
use Rattle.ciborium_value.specs.Given.{Outcome, gives, nests, Steps, decided, leveled, mapped, chosen}
use Rattle.ciborium_value.specs.Given.{deeper_if, outcome, outcome_map, then_inside, then_read, then_take}

-- an outcome within a limit is nesting, or the outcome without one
abbrev IsSame : {A : Type 0} → Outcome A → Outcome A → Type 0
IsSame o p = (o ≡ nests) ⊎ (o ≡ p)

same-map : {A B : Type 0} (f : A → B) (o p : Outcome A) → IsSame o p → IsSame (outcome_map f o) (outcome_map f p)
same-map f o p (inl e) = inl (ap (outcome_map f) e)
same-map f o p (inr e) = inr (ap (outcome_map f) e)

same-behind : {A B : Type 0} (p : Outcome A) (g f : A → Outcome B) → ((v : A) → IsSame (g v) (f v)) →
    IsSame (then_take p g) (then_take p f)
same-behind (gives v) g f h = h v
same-behind u g f h = inr refl

same-then : {A B : Type 0} (o p : Outcome A) (g f : A → Outcome B) → IsSame o p → ((v : A) → IsSame (g v) (f v)) →
    IsSame (then_take o g) (then_take p f)
same-then o p g f (inl e) h = inl (ap (λ x. then_take x g) e)
same-then o p g f (inr e) h = subst (λ x. IsSame (then_take x g) (then_take p f)) (sym e) (same-behind p g f h)

same-inside : {A : Type 0} (b : Bool) (s : Steps A) → ((m : ℕ) → IsSame (outcome (Some m) s) (outcome None s)) →
    (l : ℕ) → IsSame (outcome (deeper_if b (Some l)) s) (outcome (deeper_if b None) s)
same-inside false s h l = h l
same-inside true s h zero = h zero
same-inside true s h (suc n) = h n

pub same-within : {A : Type 0} (s : Steps A) (l : ℕ) →
    (outcome (Some l) s ≡ nests) ⊎ (outcome (Some l) s ≡ outcome None s)
same-within (decided r) l = inr refl
same-within (leveled s) zero = inl refl
same-within (leveled s) (suc n) = same-within s n
same-within (mapped f s) l = same-map f (outcome (Some l) s) (outcome None s) (same-within s l)
same-within (chosen true s t) l = same-within s l
same-within (chosen false s t) l = same-within t l
same-within (then_read s f) l = same-then (outcome (Some l) s) (outcome None s) _ _ (same-within s l)
    (λ v. same-within (f v) l)
same-within (then_inside test s f) l = same-then (outcome (Some l) s) (outcome None s) _ _ (same-within s l)
    (λ v. same-inside (test v) (f v) (λ m. same-within (f v) m) l)
