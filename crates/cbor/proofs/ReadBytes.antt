-- From what reading a value answers to what holds of the bytes.
use Rattle.std.proofs.Common.{◌≡◌, ℕ, List, [], length, ◌==◌, Bool, true, IsTrue, Option, Some, None, IfSome, Err}
use Rattle.std.proofs.lemmas.Bool.Decides.{nat_tests}
use Rattle.ciborium_ll.specs.{Refusal.Refusal, declared.kind.Kind.TheVariants.TrailingData}
use Rattle.ciborium_value.{proofs.GoodItems.RefusedKinds.refusal_kinds, specs.{Refuses.Refuses, Spelling.any}}
use Rattle.ciborium.specs.SliceAnswers.{AreAllRead, RefusesTrailing}
use Rattle.cbor.specs.{declared.answer.LineRefusal.LineRefusal, Spellings.RefusesItem}
use Rattle.std.proofs.{Common.{unwrap_or, inl, inr, refl, ◌≢◌, sym, subst, arith}, lemmas.List.nil_from_length}
use Rattle.std.proofs.Common.{◌+◌, ◌-◌, ◌<◌, ◌∷◌, ◌∙◌, ap, length-append}
use Rattle.ciborium.specs.{declared.de.error.Error.Error, ValueAnswers.IsRefusedBy}
use Rattle.cbor.specs.{declared.answer.LineRefusal.TheVariants.Memory, declared.reading.Spelling.Spelling}
use Rattle.cbor.specs.{declared.reading.Spelling.TheVariants.Any, Answer.{AreRefused, HasTrailing, IsFrontRefused}}
use Rattle.cbor.specs.Answer.{StandsFor}
use Rattle.ciborium.specs.declared.de.error.Error.TheVariants as errors
use Rattle.cbor.specs.declared.answer.LineRefusal.TheVariants as reasons

-- a list that is found to be empty
pub nothing-left : (xs : List ℕ) → (length xs == 0) ≡ true → xs ≡ []
nothing-left xs e = nil_from_length xs (grind (arith, nat_tests))

-- an error that stands for a refusal names it, whatever is said of it
pub named-anyway : {E : Type 0} (left : Option (List ℕ)) (e : Error E) (P : Refusal → Type 0) → IsRefusedBy left e P →
    IsRefusedBy None e (λ _. Unit {0})
named-anyway left (errors.Io x) P h = λ _. tt
named-anyway left (errors.Syntax p) P h = tt
named-anyway left (errors.Semantic (Some p) k) P h = tt
named-anyway left (errors.Semantic None k) P h = h
named-anyway left errors.RecursionLimitExceeded P h = tt
named-anyway left errors.Memory P h = tt
named-anyway left errors.TooLong P h = tt

-- what an error stands for refuses the front, and where it stands for nothing `Memory` is said in its place
pub front-refused : {E : Type 0} (named : Option LineRefusal) (answer : LineRefusal) (e : Error E) (is_end : Bool)
    (spelling : Spelling) (b : List ℕ) (limit : ℕ) (left : Option (List ℕ)) → answer ≡ unwrap_or named Memory →
    IfSome named (λ r. StandsFor e is_end r) → (IsTrue is_end → left ≡ Some []) →
    IsRefusedBy left e (RefusesItem spelling b limit) → IsFrontRefused spelling b limit answer
front-refused (Some r) answer e is_end spelling b limit left same h ends refuses =
    subst (λ (a : LineRefusal). IsFrontRefused spelling b limit a) (sym same) (h spelling b limit left ends refuses)
front-refused None answer e is_end spelling b limit left same h ends refuses =
    subst (λ (a : LineRefusal). IsFrontRefused spelling b limit a) (sym same) tt

-- what refuses the front refuses the bytes
front-refuses-all : (spelling : Spelling) (b : List ℕ) (limit : ℕ) (answer : LineRefusal) →
    IsFrontRefused spelling b limit answer → AreRefused spelling b limit answer
front-refuses-all spelling b limit (reasons.Trailing n) h = absurd {A = _} h
front-refuses-all spelling b limit answer h = h

-- an error of reading all of the bytes refuses what is at their front, where no bytes are refused behind it
pub front-of-all : {E : Type 0} (e : Error E) (b : List ℕ) (limit : ℕ) →
    ((end : ℕ) → e ≢ errors.Semantic (Some end) TrailingData) → AreAllRead limit b (Err e) →
    IsRefusedBy (Some []) e (RefusesItem Any b limit)
front-of-all e b limit other (inl refuses) = refuses
front-of-all e b limit other (inr trailing) = absurd {A = _} (other _ trailing.6)

-- an error that names bytes behind an item is refused for them
behind-item : {E : Type 0} (e : Error E) (b : List ℕ) (limit end : ℕ) →
    e ≡ errors.Semantic (Some end) TrailingData → AreAllRead limit b (Err e) → RefusesTrailing limit b e
behind-item e b limit end is (inl refuses) = absurd (refusal_kinds any b 0 (Some limit) _
    (subst (λ x. IsRefusedBy (Some []) x (Refuses any b 0 (Some limit))) is refuses))
behind-item e b limit end is (inr trailing) = trailing

positive : (xs : List ℕ) → ¬ (xs ≡ []) → 0 < length xs
positive [] some = absurd (some refl)
positive (x ∷ xs) some = omega arith

pub trailing-left : {E : Type 0} (e : Error E) (b : List ℕ) (limit end n : ℕ) →
    e ≡ errors.Semantic (Some end) TrailingData → AreAllRead limit b (Err e) → n ≡ length b - end →
    HasTrailing Any b limit n
trailing-left e b limit end n is read size =
    let (v, s, left, item, split, some, same) = behind-item e b limit end is read in
    let at : end ≡ length s = cc in
    let long : length b ≡ length s + length left = ap length split ∙ length-append s left in
    (v, left, (s, item, split), positive left some, omega (arith, size, at, long))

-- what such an error stands for refuses them
pub slice-refused : {E : Type 0} (named : Option LineRefusal) (answer : LineRefusal) (e : Error E) (b : List ℕ)
    (limit : ℕ) →
    answer ≡ unwrap_or named Memory → IfSome named (λ r. StandsFor e true r) →
    IsRefusedBy (Some []) e (RefusesItem Any b limit) → AreRefused Any b limit answer
slice-refused named answer e b limit same h refuses = front-refuses-all Any b limit answer
    (front-refused named answer e true Any b limit (Some []) same h (λ _. refl) refuses)
