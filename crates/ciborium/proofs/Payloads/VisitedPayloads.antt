-- Payloads that are visited where they are held.
use Rattle.std.proofs.Common.{◌≡◌, ℕ, ◌+◌, ◌≤◌, List, ◌++◌, length, take, Option, IsUtf8, Some, ◌∙◌, sym, ap, arith}
use Rattle.std.proofs.{Common.{length-append, subst, IfErr, Result, Ok, Err}, Math.Seq.take-append_seam}
use Rattle.ciborium_ll.specs.{Levels.IsPayloadOf, declared.{header.Header.Header, strings.StringType.StringType}}
use Rattle.ciborium_value.specs.Sources.{Fault, TakesOnly}
use Rattle.ciborium.{proofs.Items.TakenOnly.same-end, specs.declared.de.byte_source.ByteSource.ByteSource}
use Rattle.ciborium.specs.inner.{ByteSources.{HasTaken, IsUnread, end_at}, PassedOver.DeniesPayload}
use Rattle.ciborium.specs.inner.StringContents.{DeniesContent, DeniesJust, TakesJust}
use Rattle.ciborium_ll.specs.declared.header.Header.TheVariants as header

-- so many bytes were refused, and the payload is these
pub payload-denied : (P : List ℕ → Type 0) (end n : ℕ) (fault : Fault) (h : Header) →
    ((p : List ℕ) → IsPayloadOf h p → length p ≡ n) → DeniesJust P end n fault → DeniesPayload P end h fault
payload-denied P end n fault h long denied y p r m e u pay split there fits =
    let whole : length y ≡ length p + length r = ap length split ∙ length-append p r in
    denied y m e u (omega (arith, there, long p pay, whole)) fits

-- what was taken is no text
pub no-text-there : (P Q : List ℕ → Type 0) (end n : ℕ) (fault : Fault) (b : List ℕ) → length b ≡ n →
    (IsUtf8 b → ⊥) → TakesJust P Q b → DeniesPayload P end (header.Text (Some n)) fault
no-text-there P Q end n fault b size not took y p r m e u (len, utf8) split there fits =
    let (z, whole, un) = took y u in
    let same : b ≡ p = sym (take-append_seam b z) ∙ ap (λ k. take k (b ++ z)) (size ∙ sym len) ∙
    ap (take (length p)) (sym whole ∙ split) ∙ take-append_seam p r in
    absurd (not (subst IsUtf8 (sym same) utf8))

-- nothing was taken, and then it is refused
module _ {S W X E : Type 0} (remaining : S → Option (List ℕ)) (old new : ByteSource S W) (fault_of : E → Fault)
    (only : TakesOnly (HasTaken remaining) old.decoder new.decoder)
    (none : (y : List ℕ) → IsUnread remaining old y → IsUnread remaining new y) where
  pub payload-denied-then : (h : Header) (result : Result X E) →
      IfErr result (λ e. DeniesPayload (IsUnread remaining new) (end_at remaining new) h (fault_of e)) →
      IfErr result (λ e. DeniesPayload (IsUnread remaining old) (end_at remaining old) h (fault_of e))
  payload-denied-then h (Ok v) denied = tt
  payload-denied-then h (Err x) denied = λ y p r m e u pay split there fits. denied y p r m e (none y u) pay split there
      (subst (λ k. k ≤ e + m) (sym (same-end remaining old new only y u)) fits)

  pub content-denied-then : (type : StringType) (len : Option ℕ) (result : Result X E) →
      IfErr result (λ e. DeniesContent (IsUnread remaining new) (end_at remaining new) type len (fault_of e)) →
      IfErr result (λ e. DeniesContent (IsUnread remaining old) (end_at remaining old) type len (fault_of e))
  content-denied-then type len (Ok v) denied = tt
  content-denied-then type len (Err r) denied = λ y x s z payload e u hd sp split fits.
      denied y x s z payload e (none y u) hd sp split
      (subst (λ k. k ≤ e + length z) (sym (same-end remaining old new only y u)) fits)
