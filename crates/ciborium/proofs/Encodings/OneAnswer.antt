-- Known bytes and a limit leave one answer.
use Rattle.std.proofs.Common.{◌≡◌, ℕ, ◌⊎◌, List, [], ◌∷◌, Option, Some, None, Ok, Err, sym, ap, ◌∙◌, inl}
use Rattle.std.{proofs.Common.{inr, refl}, specs.declared.io.Error.Error as IoError}
use Rattle.ciborium_ll.specs.Refusal.{Refusal}
use Rattle.ciborium_value.{proofs.GoodItems.Outcome.{never_both, one_reading, one_refusal}, specs.Refuses.Refuses}
use Rattle.ciborium_value.specs.{Spelling.any, View.tree_of}
use Rattle.ciborium.{proofs.Readers.Outcomes.only-fails, specs.ValueAnswers.{IsFailed, IsRefusedBy}}
use Rattle.ciborium.specs.{declared.de.error.Error.Error, laws.AnswerLaws.{OneAnswer, refusal_of}}
use Rattle.ciborium_ll.specs.Refusal as refusal
use Rattle.ciborium.specs.declared.de.error.Error.TheVariants as errors

-- an error is a failure, or names a refusal of which P holds
names : (left : Option (List ℕ)) (e : Error IoError) (P : Refusal → Type 0) → IsRefusedBy left e P →
    IsFailed left e ⊎ ((r : Refusal) × (refusal_of e ≡ Some r) × P r)
names None (errors.Io x) P h = inl (λ end. absurd cc)
names (Some []) (errors.Io x) P h = inr (refusal.io, refl, h refl)
names (Some (n ∷ r)) (errors.Io x) P h = inl (λ end. absurd cc)
names left (errors.Syntax p) P h = inr (refusal.syntax p, refl, h)
names left (errors.Semantic (Some p) k) P h = inr (refusal.semantic p k, refl, h)
names left (errors.Semantic None k) P h = absurd h
names left errors.RecursionLimitExceeded P h = inr (refusal.recursion_limit_exceeded, refl, h)
names left errors.Memory P h = inl tt
names left errors.TooLong P h = inr (refusal.too_long, refl, h)

pub one_answer : OneAnswer
one_answer b l left right (Ok v) (Ok w) bytes (s, zs, good, split, at) (t, ys, fine, whole, here) =
    let one = one_reading any s t zs ys 0 (Some l) (tree_of v) (tree_of w) good fine (sym split ∙ whole) in
    (one.0, at ∙ ap (λ z. Some z) one.2 ∙ sym here)
one_answer b l left right (Ok v) (Err f) bytes (s, zs, good, split, at) h =
    only-fails right f (λ r. Refuses any b 0 (Some l) r)
    (λ r. never_both any b 0 (Some l) r bytes (s, tree_of v, zs, good, split)) h
one_answer b l left right (Err e) (Ok w) bytes h (t, ys, fine, whole, here) =
    only-fails left e (λ r. Refuses any b 0 (Some l) r)
    (λ r. never_both any b 0 (Some l) r bytes (t, tree_of w, ys, fine, whole)) h
one_answer b l left right (Err e) (Err f) bytes h k = by (names left e (λ r. Refuses any b 0 (Some l) r) h)
    (names right f (λ r. Refuses any b 0 (Some l) r) k)
  where
    by : IsFailed left e ⊎ ((r : Refusal) × (refusal_of e ≡ Some r) × Refuses any b 0 (Some l) r) →
        IsFailed right f ⊎ ((r : Refusal) × (refusal_of f ≡ Some r) × Refuses any b 0 (Some l) r) →
        IsFailed left e ⊎ IsFailed right f ⊎ (refusal_of e ≡ refusal_of f)
    by (inl x) y = inl x
    by (inr x) (inl y) = inr (inl y)
    by (inr (r, is, x))
        (inr (s, at, y)) = inr (inr (is ∙ ap (λ z. Some z) (one_refusal any b 0 (Some l) r s bytes x y) ∙ sym at))
