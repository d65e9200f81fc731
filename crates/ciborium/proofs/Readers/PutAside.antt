-- What is said of an answer does not look at what an error holds of the reader.
use Rattle.std.proofs.Common.{◌≡◌, ℕ, Bool, List, Option, Some, Result, Err, IfErr, refl, sym, subst}
use Rattle.ciborium_ll.specs.{Decoding.{HasSameReader, IsAheadBy, TakesBeforeAny, left_of}, Refusal.Refusal}
use Rattle.ciborium_ll.specs.declared.decoder.Decoder.{Decoder}
use Rattle.ciborium.{proofs.Readers.WhateverFollows.TreeSo, specs.Errors.{fault_of, HasEndedBy, without_reader_error}}
use Rattle.ciborium.specs.{ValueAnswers.IsRefusedBy, declared.de.{byte_source.ByteSource.ByteSource, error.Error.Error}}
use Rattle.ciborium.specs.inner.{ByteSources.ReadsValue, Turns.IsTreeRead, ValuesInBytes.HasEndedAfter}
use Rattle.ciborium_value.specs.{Refuses.Refuses, Spelling.{Spelling, any}, Tree.Tree}
use Rattle.ciborium.specs.declared.de.error.Error.TheVariants as errors

pub same-cause : {E : Type 0} (left : Option (List ℕ)) (e : Error E) →
    fault_of left (without_reader_error e) ≡ fault_of left e
same-cause left (errors.Io x) = refl
same-cause left e = refl

pub back-refused : {E : Type 0} (left : Option (List ℕ)) (e : Error E) (P : Refusal → Type 0) →
    IsRefusedBy left (without_reader_error e) P → IsRefusedBy left e P
back-refused left (errors.Io x) P h = h
back-refused left e P h = h

pub back-ended : {E : Type 0} (can_fail : Bool) (left : Option (List ℕ)) (e : Error E) →
    HasEndedBy can_fail left (without_reader_error e) → HasEndedBy can_fail left e
back-ended can_fail left (errors.Io x) h = h
back-ended can_fail left e h = h

pub back-reads : {S W E : Type 0} (can_fail : Bool) (remaining : S → Option (List ℕ)) (old new : ByteSource S W)
    (e : Error E) → ReadsValue {E = Unit} can_fail remaining old new (Err (without_reader_error e)) →
    ReadsValue {E = E} can_fail remaining old new (Err e)
back-reads can_fail remaining old new e (same, ended, (s, taken, count, h, bytes)) = (
  same,
  back-ended can_fail (left_of remaining new.decoder) e ended,
  (
    s,
    taken,
    count,
    λ c xs p ahead. back-refused _ e _ (h c xs p ahead),
    bytes,
  ),
)

-- the decoder stays as it was where the error is put back
pub same-decoder : {S W E : Type 0} (can_fail : Bool) (remaining : S → Option (List ℕ)) (old mid new : ByteSource S W)
    (r : Result Tree (Error E)) → new.decoder ≡ mid.decoder → ReadsValue {E = E} can_fail remaining old mid r →
    ReadsValue {E = E} can_fail remaining old new r
same-decoder {S} {W} {E} can_fail remaining old mid new r same reads =
    subst (λ (d : Decoder S W). HasSameReader old.decoder d × IfErr r (λ e. HasEndedAfter can_fail remaining d e) ×
    TakesBeforeAny remaining old.decoder d (λ a b. (xs : List ℕ) (p : ℕ) → IsAheadBy Some a xs p old.pending →
    IsTreeRead {S = List ℕ} {E = E} any Some b old.levels xs p r)) (sym same) reads

-- the same, of what a decoder was read as
pub back-tree : {S W E : Type 0} (spelling : Spelling) (remaining : S → Option (List ℕ)) (a b : Decoder S W) (l : ℕ)
    (e : Error E) → TakesBeforeAny remaining a b (λ d f. TreeSo {E = Unit} spelling l d f
    (Err (without_reader_error e))) → TakesBeforeAny remaining a b (λ d f. TreeSo {E = E} spelling l d f (Err e))
back-tree spelling remaining a b l e (s, taken, count, h, bytes) = (
  s,
  taken,
  count,
  λ c xs p stands. back-refused (Some c) e (Refuses spelling xs p (Some l)) (h c xs p stands),
  bytes,
)
