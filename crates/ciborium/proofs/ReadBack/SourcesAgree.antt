-- A tree and its encoding give one answer.
use Rattle.std.proofs.Common.{◌≡◌, ℕ, [], Some, None, Result, Ok, Err, refl, sym, ap, ◌∙◌, append-nil, ◌⊎◌, inl, inr}
use Rattle.std.specs.declared.io.Error.{Error as IoError}
use Rattle.ciborium_ll.{proofs.UniqueSpelling.one_at_front, specs.declared.kind.Kind.Kind}
use Rattle.ciborium_value.proofs.{Orders.TreeEncodings.encoding-spells, Sources.Limits.same-within}
use Rattle.ciborium_value.specs.{Encoding.{encoding, item_of}, Given.{Outcome, Given, gives, nests, outcome, refuses}}
use Rattle.ciborium_value.specs.Sources.{Fault, of_kind, of_nesting, of_syntax, of_memory, of_device, of_end, of_length}
use Rattle.ciborium_value.specs.{Sources.IsFaultOf, declared.error.Error.Error as TreeError}
use Rattle.ciborium.specs.{Errors.fault_of, TypedAnswers.{AnswersTree, AnswersBytes, AreOneAnswer, IsExcused}}
use Rattle.ciborium.specs.{TypedAnswers.{IsSameKind, SourcesAgree}, declared.de.error.Error.Error}
use Rattle.ciborium_value.specs.declared.error.Error.TheVariants as of_tree

-- what an item gives within a limit it gives without one
pub without-gives : {A : Type 0} (o p : Outcome A) (v : A) → (o ≡ nests) ⊎ (o ≡ p) → o ≡ gives v → p ≡ gives v
without-gives o p v (inl h) e = absurd cc
without-gives o p v (inr h) e = sym h ∙ e

without-refuses : {A : Type 0} (o p : Outcome A) (k : Kind) → (o ≡ nests) ⊎ (o ≡ p) → o ≡ refuses k → p ≡ refuses k
without-refuses o p k (inl h) e = absurd cc
without-refuses o p k (inr h) e = sym h ∙ e

one-value : {A : Type 0} (o : Outcome A) (v w : A) → o ≡ gives v → o ≡ gives w → v ≡ w
one-value o v w h k = cc

one-kind : {A : Type 0} (o : Outcome A) (j k : Kind) → o ≡ refuses j → o ≡ refuses k → j ≡ k
one-kind o j k h g = cc

not-both : {A : Type 0} (o : Outcome A) (v : A) (k : Kind) → o ≡ gives v → o ≡ refuses k → ⊥
not-both o v k h g = cc

excused : {A : Type 0} (end : ℕ) (o p : Outcome A) (v : A) (f : Fault) → (o ≡ nests) ⊎ (o ≡ p) → p ≡ gives v →
    IsFaultOf end f o → IsExcused f
excused end o p v (of_kind k) h e b = not-both p v k e (without-refuses o p k h b)
excused end o p v of_nesting h e b = tt
excused end o p v of_syntax h e b = b
excused end o p v of_memory h e b = tt
excused end o p v of_device h e b = tt
excused end o p v of_end h e b = b
excused end o p v of_length h e b = tt

same-kind : {A : Type 0} (end : ℕ) (o p : Outcome A) (k : Kind) (f : Fault) → (o ≡ nests) ⊎ (o ≡ p) → p ≡ refuses k →
    IsFaultOf end f o → IsSameKind k f
same-kind end o p k (of_kind j) h e b = one-kind p j k (without-refuses o p j h b) e
same-kind end o p k of_nesting h e b = tt
same-kind end o p k of_syntax h e b = b
same-kind end o p k of_memory h e b = tt
same-kind end o p k of_device h e b = tt
same-kind end o p k of_end h e b = b
same-kind end o p k of_length h e b = tt

pub sources_agree : {A : Type 0} (taken : Given A) → SourcesAgree taken
sources_agree {A} taken v l after r q proper = by r q
  where
    within : Outcome A
    within = outcome (Some l) (taken (item_of v))

    without : Outcome A
    without = outcome None (taken (item_of v))

    same : (within ≡ nests) ⊎ (within ≡ without)
    same = same-within (taken (item_of v)) l

    by : (r : Result A TreeError) (q : Result A (Error IoError)) → AnswersTree taken (item_of v) r →
        AnswersBytes taken l (encoding v) after q → AreOneAnswer after r q
    by (Ok x) (Ok y) h (t, f) =
        let (j, s, z, sp, e, g, left) = t (encoding v) refl in
        let one = one_at_front (encoding v) s [] z (item_of v) j (encoding-spells v proper) sp
        (append-nil (encoding v) ∙ e) in
        one-value without x y h (without-gives within without y same (ap (λ j. outcome (Some l) (taken j)) one.2 ∙ g))
    by (Ok x) (Err e) h (t, f) = excused _ within without x (fault_of after e) same h
        (f (encoding v) refl (item_of v) (encoding v) [] (encoding-spells v proper) (sym (append-nil (encoding v))))
    by (Err (of_tree.Custom k)) (Ok y) h (t, f) =
        let (j, s, z, sp, e, g, left) = t (encoding v) refl in
        let one = one_at_front (encoding v) s [] z (item_of v) j (encoding-spells v proper) sp
        (append-nil (encoding v) ∙ e) in
        not-both without y k (without-gives within without y same (ap (λ j. outcome (Some l) (taken j)) one.2 ∙ g)) h
    by (Err (of_tree.Custom k)) (Err e) h (t, f) = same-kind _ within without k (fault_of after e) same h
        (f (encoding v) refl (item_of v) (encoding v) [] (encoding-spells v proper) (sym (append-nil (encoding v))))
    by (Err of_tree.Memory) q h k = tt
