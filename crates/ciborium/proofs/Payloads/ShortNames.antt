-- Names that are looked up in a buffer.
use Rattle.std.proofs.Common.{◌≡◌, ℕ, ◌+◌, List, ◌++◌, length, take, IsUtf8, Some, sym, ap, ◌∙◌, subst, arith}
use Rattle.std.proofs.{Common.length-append, Math.Seq.take-append_seam}
use Rattle.ciborium_ll.specs.declared.strings.StringType.{StringType}
use Rattle.ciborium_value.specs.Sources.{Fault}
use Rattle.ciborium.specs.inner.StringContents.{DeniesContent, DeniesJust, TakesJust}
use Rattle.ciborium.proofs.Payloads.SpelledStrings.{definite-payload}

module _ (P : List ℕ → Type 0) (end n : ℕ) (fault : Fault) where
  -- its bytes were refused, or those of any string
  pub just-denied : (type : StringType) → DeniesJust P end n fault → DeniesContent P end type (Some n) fault
  just-denied type denied y x s z payload o u hd sp e fits =
      let (size, allowed, split) = definite-payload type n y x s z payload hd sp e in
      let more : length y ≡ length payload + length z = ap length split ∙ length-append payload z in
      denied y (length z) o u (omega (arith, more, size)) fits

  -- they are no text
  pub no-text-denied : (Q : List ℕ → Type 0) (buffer : List ℕ) → length buffer ≡ n → (IsUtf8 buffer → ⊥) →
      TakesJust P Q buffer → DeniesContent P end StringType.Text (Some n) fault
  no-text-denied Q buffer size not took y x s z payload o u hd sp e fits =
      let (len, utf8, split) = definite-payload StringType.Text n y x s z payload hd sp e in
      let (r, whole, un) = took y u in
      let same : buffer ≡ payload = sym (take-append_seam buffer r) ∙ ap (λ k. take k (buffer ++ r)) (size ∙ len) ∙
      ap (take (length payload)) (sym whole ∙ split) ∙ take-append_seam payload z in
      absurd (not (subst IsUtf8 (sym same) utf8))
