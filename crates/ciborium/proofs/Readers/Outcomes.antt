-- What a call that reads a value leaves, and which errors are failures.
use Rattle.std.proofs.Common.{◌≡◌, ℕ, List, Option, Some, None, subst}
use Rattle.ciborium_ll.specs.{declared.decoder.Decoder.Decoder, Decoding.{IsAhead, IsAheadBy, left_of}, Refusal.Refusal}
use Rattle.ciborium.specs.{declared.de.error.Error.Error, ValueAnswers.{IsFailed, IsRefusedBy}}
use Rattle.ciborium.specs.inner.ValuesInBytes.{IsAt}
use Rattle.ciborium_ll.specs.Refusal as refusal
use Rattle.ciborium.specs.declared.de.error.Error.TheVariants as errors

pub left-at : {S W : Type 0} (remaining : S → Option (List ℕ)) (d : Decoder S W) (r : ℕ) (zs : List ℕ) →
    d.pushed ≡ None → IsAhead remaining d zs r → left_of remaining d ≡ Some zs
left-at remaining d r zs rests a = let at : IsAt remaining d zs r = subst (λ o. IsAheadBy remaining d zs r o) rests a in
    at.1

pub only-fails : {E : Type 0} (left : Option (List ℕ)) (e : Error E) (P : Refusal → Type 0) →
    ((r : Refusal) → P r → ⊥) → IsRefusedBy left e P → IsFailed left e
only-fails left (errors.Io x) P never h = λ end. never refusal.io (h end)
only-fails left (errors.Syntax p) P never h = never (refusal.syntax p) h
only-fails left (errors.Semantic (Some p) k) P never h = never (refusal.semantic p k) h
only-fails left (errors.Semantic None k) P never h = h
only-fails left errors.RecursionLimitExceeded P never h = never refusal.recursion_limit_exceeded h
only-fails left errors.Memory P never h = tt
only-fails left errors.TooLong P never h = never refusal.too_long h
