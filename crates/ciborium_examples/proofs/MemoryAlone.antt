-- A call that answers what stands there, or refuses for want of memory, refuses for nothing else.
use Rattle.std.proofs.Common.{◌≡◌, ◌⊎◌, inl, inr, refl, sym, subst, ℕ, ◌≤◌, List, Some, Result, Ok, Err, IfErr, IfOk}
use Rattle.ciborium.specs.{Given.Given, ReadsBack.{IsNameRead, by_bytes}, Sinks.Named, SliceAnswers.GivesAll}
use Rattle.ciborium.specs.{Spells.Spells, View.result_map, Writes.IsWrittenAs, WrittenItems.WrittenSpells}
use Rattle.ciborium.specs.declared.de.error.Error.{Error, TheVariants.Memory}

-- the call answers v, or refuses for want of memory
abbrev pub Answers : {E A : Type 0} → A → Result A (Error E) → Type 0
Answers v r = (r ≡ Ok v) ⊎ (r ≡ Err Memory)

refused : {E B : Type 0} (e : Error E) (v : B) (r : Result B (Error E)) → r ≡ Err e → Answers v r → e ≡ Memory
refused e v r is (inl same) = cc
refused e v r is (inr same) = cc

pub for_memory : {E A B : Type 0} (f : A → B) (v : B) (r : Result A (Error E)) → Answers v (result_map f r) →
    IfErr r (λ e. e ≡ Memory)
for_memory f v (Ok a) h = tt
for_memory f v (Err e) h = refused e v (result_map f (Err e)) refl h

pub whatever_stands : {E A B : Type 0} {P : B → Type 0} (f : A → B) (r : Result A (Error E)) →
    ((v : B) → P v → Answers v (result_map f r)) → IfErr r (λ e. (v : B) → P v → e ≡ Memory)
whatever_stands f (Ok a) h = tt
whatever_stands f (Err e) h = λ v p. for_memory f v (Err e) (h v p)

same : {E B : Type 0} (w v : B) (r : Result B (Error E)) → r ≡ Ok w → Answers v r → w ≡ v
same w v r is (inl e) = cc
same w v r is (inr e) = cc

pub content : {E A B : Type 0} (f : A → B) (v : B) (r : Result A (Error E)) → Answers v (result_map f r) →
    IfOk r (λ a. f a ≡ v)
content f v (Ok a) h = same (f a) v (result_map f (Ok a)) refl h
content f v (Err e) h = tt

-- the bytes that a value is written as give its content
pub of_written : {E A : Type 0} (named : Named)
    (taken : Given A) (c : A) (n : ℕ) (b : List ℕ) (r : Result A (Error E)) → WrittenSpells →
    IsNameRead by_bytes named taken c n → n ≤ 256 → IsWrittenAs b named → GivesAll 256 taken b r → Answers c r
of_written (Ok i) taken c n b r spells back fits (is, written) answers =
    answers i c (subst (λ x. Spells x i) (sym is) (spells i written)) (back.back i refl i refl (Some 256) fits)
of_written (Err kind) taken c n b r spells back fits written answers = absurd written
