-- What is loaded from all of the bytes: one encoding of each content, and what was saved.
use Rattle.std.proofs.Common.{◌≡◌, ℕ, suc, ◌<◌, ◌≤◌, Bool, true, false, List, [], ◌++◌, length, take, Some, None}
use Rattle.std.proofs.Common.{Result, Ok, Err, refl, sym, ap, ◌∙◌, subst, append-nil, arith, ◌⊎◌, inl, inr, ◌≢◌}
use Rattle.std.proofs.lemmas.Bool.{leb-false, leb-true}
use Rattle.std.specs.{Prelude.nat_le, declared.io.Error.Error as IoError}
use Rattle.ciborium_ll.specs.{Bytes.greatest_offset, Spells.Spells}
use Rattle.ciborium_value.specs.{Encoding.{encoding, item_of}, ReadsBack.IsReadFromForm, Nesting.{Limit, IsWithin}}
use Rattle.ciborium_value.specs.{Readings.Reading, Sinks.Named, Sources.IsFaultOf, Given.{Outcome, gives, nests}}
use Rattle.ciborium_value.specs.{Given.outcome, Tree.Tree, WrittenItems.IsWritten, declared.key_order.KeyOrder.KeyOrder}
use Rattle.ciborium_value.proofs.{Sources.Limits.same-within, Writing.ReadBack.written_spells_item}
use Rattle.ciborium.specs.{DeterministicWrites.named_form, Errors.fault_of, LoadedAnswers.{AreFormOf, RefusesOther}}
use Rattle.ciborium.specs.{SliceAnswers.ReadsAll, declared.de.error.Error.Error, laws.Loaded.IsSavedLoaded}
use Rattle.ciborium.specs.laws.Loaded.{NestsDeeper, OneEncoding, SavedIsLoaded}
use Rattle.ciborium.proofs.ReadBack.FormRoundTrips.{from-form, one-form, read-content}
use Rattle.ciborium.specs.declared.de.error.Error.TheVariants as errors

one-encoded : (o : KeyOrder) (b c : List ℕ) (n m : Named) → n ≡ m → AreFormOf o b n → AreFormOf o c m → b ≡ c
one-encoded o b c n m e (t, f, is) (u, g, same) =
    is ∙ ap encoding (one-form (named_form o m) t u (ap (named_form o) (sym e) ∙ f) g) ∙ sym same

pub one_encoding : {T C : Type 0} (written : T → Named) (reading : Reading T C) →
    ((v w : T) → reading.content v ≡ reading.content w → written v ≡ written w) → OneEncoding written reading
one_encoding written reading law o l m b c v w first second same =
    one-encoded o b c (written v) (written w) (law v w same) first.ok.1 second.ok.1

nested : {A : Type 0} (end : ℕ) (e : Error IoError) (o : Outcome A) → o ≡ nests → end ≤ greatest_offset →
    IsFaultOf end (fault_of (Some []) e) o → (e ≡ errors.Memory) ⊎ (e ≡ errors.RecursionLimitExceeded)
nested end (errors.Semantic p k) o is fits h = let never = sym is ∙ h in absurd cc
nested end errors.RecursionLimitExceeded o is fits h = inr refl
nested end errors.Memory o is fits h = inl refl
nested end errors.TooLong o is fits h = let never : ⊥ = omega (arith, fits, h) in absurd never
nested end u o is fits h = absurd h

-- no other encoding is due
no-other : (o : KeyOrder) (l : ℕ) (b : List ℕ) (named : Named) (t : Tree) (e : Error IoError) →
    named_form o named ≡ gives t → b ≡ encoding t → RefusesOther o l b named e → e ≡ errors.Memory
no-other o l b named t e form same (RefusesOther.no_form kind f) = let never = sym form ∙ f in absurd cc
no-other o l b named t e form same (RefusesOther.other u k f d r) =
    absurd (d.1 (ap (take (suc k)) (same ∙ ap encoding (one-form (named_form o named) t u form f))))
no-other o l b named t e form same RefusesOther.no_memory = refl

module _ {T C : Type 0} (IsValid : T → Type 0) (written : T → Named) (reading : Reading T C) (levels : T → ℕ)
    (law : IsReadFromForm IsValid written reading.taken reading.content levels) where
  module _ (o : KeyOrder) (l : ℕ) (v : T) (t : Tree) (bytes : List ℕ) (valid : IsValid v)
      (form : named_form o (written v) ≡ gives t) (fits : IsWritten (item_of t)) (same : bytes ≡ encoding t) where
    given : (m : Limit) → IsWithin m (levels v) → outcome m (reading.taken (item_of t)) ≡ gives (reading.content v)
    given = from-form IsValid written reading levels law o v valid (written v) refl t form

    spelled : Spells bytes (item_of t)
    spelled = subst (λ b. Spells b (item_of t)) (sym same) (written_spells_item (item_of t) fits)

    pub content-read : (w : T) → ReadsAll {E = IoError} l reading bytes (Ok w) → reading.content w ≡ reading.content v
    content-read w reads =
        let (i, sp, give) = reads.ok in
        read-content written reading t l bytes (Some []) (reading.content w) (reading.content v) fits same
        (given None tt)
        (i, bytes, [], sp, sym (append-nil bytes), give, refl)

    -- the refusals that are left
    abbrev IsLimit : Error IoError → Type 0
    IsLimit e = (e ≡ errors.Memory) ⊎
        ((e ≡ errors.RecursionLimitExceeded) × NestsDeeper reading (named_form o (written v)) l × (l < levels v))

    refused-read : (e : Error IoError) → length bytes ≤ greatest_offset → ReadsAll l reading bytes (Err e) → IsLimit e
    refused-read e room reads = by (same-within (reading.taken (item_of t)) l)
      where
        memory : ◌≡◌ {A = Result C (Error IoError)} (Err e) (Ok (reading.content v)) ⊎
            ◌≡◌ {A = Result C (Error IoError)} (Err e) (Err errors.Memory) → IsLimit e
        memory (inl f) = absurd cc
        memory (inr f) = inl (cc)

        deeper : outcome (Some l) (reading.taken (item_of t)) ≡ nests →
            (e ≡ errors.Memory) ⊎ (e ≡ errors.RecursionLimitExceeded) → IsLimit e
        deeper is (inl h) = inl h
        deeper is (inr h) = inr (h, (t, form, is), above (nat_le (levels v) l) refl)
          where
            above : (b : Bool) → nat_le (levels v) l ≡ b → l < levels v
            above true e = let no = sym is ∙ given (Some l) (leb-true (levels v) l e) in absurd cc
            above false e = leb-false (levels v) l e

        first : {X Y : Type 0} → IsFaultOf (length bytes) (fault_of (Some []) e)
            (outcome (Some l) (reading.taken (item_of t))) ⊎ (◌≢◌ {A = List ℕ} [] [] × X × Y) →
            outcome (Some l) (reading.taken (item_of t)) ≡ nests → IsLimit e
        first (inl h) is = deeper is (nested (length bytes) e _ is room h)
        first (inr h) is = absurd (h.0 refl)

        by : (outcome (Some l) (reading.taken (item_of t)) ≡ nests) ⊎
            (outcome (Some l) (reading.taken (item_of t)) ≡ outcome None (reading.taken (item_of t))) → IsLimit e
        by (inl is) = first (reads.refused (item_of t) bytes [] spelled (sym (append-nil bytes))) is
        by (inr is) = memory (reads.exact (item_of t) (reading.content v) spelled (is ∙ given None tt))

  pub saved_loaded : (o : KeyOrder) (l : ℕ) (v again : T) (bytes : List ℕ) →
      IsSavedLoaded IsValid written reading o l v again bytes
  saved_loaded o l v again bytes old new valid (t, form, out) (u, own, fits) loads none same =
      let one = one-form (named_form o (written v)) u t own form in
      content-read o l v t bytes valid form (subst (λ w. IsWritten (item_of w)) one fits)
      (same ∙ out ∙ ap (λ (b : List ℕ). b ++ encoding t) none) again loads.ok.0

  pub saved_is_loaded : ((v w : T) → reading.content v ≡ reading.content w → written v ≡ written w) →
      SavedIsLoaded IsValid written reading levels
  saved_is_loaded alike o l v old new bytes (Ok w) valid out fits room loads none same =
      saved_loaded o l v w bytes old new valid out fits loads none same
  saved_is_loaded alike o l v old new bytes (Err e) valid (t, form, out) (u, own, fits) room loads none same =
      by loads.refused
    where
      one : u ≡ t
      one = one-form (named_form o (written v)) u t own form

      is : bytes ≡ encoding t
      is = same ∙ out ∙ ap (λ (b : List ℕ). b ++ encoding t) none

      right : IsWritten (item_of t)
      right = subst (λ w. IsWritten (item_of w)) one fits

      by : ReadsAll l reading bytes (Err e) ⊎
          ((w : T) × ReadsAll {E = IoError} l reading bytes (Ok w) × RefusesOther o l bytes (written w) e) →
          IsLimit o l v t bytes valid form right is e
      by (inl reads) = refused-read o l v t bytes valid form right is e room reads
      by (inr (w, reads, refusal)) =
          let content = content-read o l v t bytes valid form right is w reads in
          inl (no-other o l bytes (written w) t e (ap (named_form o) (alike w v content) ∙ form) is refusal)
