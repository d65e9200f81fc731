-- From a source that was begun on a lent reader to the reader.
use Rattle.std.proofs.Common.{◌≡◌, ℕ, ◌+◌, Bool, List, ◌++◌, Option, Some, None, Result, Ok, Err, IfOk, IfErr, IfSome}
use Rattle.std.proofs.Common.{OnOk, length, length-append, refl, sym, ap, ◌∙◌, subst, arith}
use Rattle.std.specs.Io.KnownBytes.{Consumes}
use Rattle.ciborium_ll.{proofs.Decoders.begun-left, specs.{Accesses.left_at_failure, Decoding.{HasBegun, IsAheadBy}}}
use Rattle.ciborium_ll.specs.{Decoding.{with_left, left_of}, Item.Item, Spells.Spells}
use Rattle.ciborium_value.specs.{Ahead.{bottom, item}, Given.Given, Readings.Reading, Sources.{Fault, IsGrantedFault}}
use Rattle.ciborium_value.specs.{Sources.{RefusesAhead, TakesAhead, TakesItem}, Spelling.any, Tree.Tree}
use Rattle.ciborium_value.specs.View.{result_map}
use Rattle.ciborium.proofs.Items.TakenOnly.{taken-beginning, taken-name, taken-none}
use Rattle.ciborium.{proofs.Readers.WhateverFollows.taken-tree, specs.Errors.{HasEndedBy, fault_of}}
use Rattle.ciborium.specs.{NextItems.IsReadFrom, TypedAnswers.{IsFaultAhead, ReadsAsTypeFrom, TakesGiving}}
use Rattle.ciborium.specs.{ValueAnswers.TakesBytes, declared.de.{byte_source.ByteSource.ByteSource, error.Error.Error}}
use Rattle.ciborium.specs.inner.ByteSources.{IsUnread, IsUnreadBy, ReadsValue, StandsBefore, end_at, known_end}

module _ {S W A : Type 0} (remaining : S → Option (List ℕ)) (old : ByteSource S W) (taken : Given A) (b : List ℕ)
    (front : IsUnread remaining old b) (p : ℕ) (ends : end_at remaining old ≡ p + length b) where
  -- before an item at the front, at offset p, the source stands
  ahead : (i : Item) (s z : List ℕ) → Spells s i → b ≡ s ++ z → StandsBefore remaining old (Some old.levels)
      (item i (bottom (old.decoder.reader.ghost_name, p + length s) z))
  ahead i s z sp e = let size = ap length e ∙ length-append s z in
      (b, front, (s, z, sp, (refl, refl, omega (arith, ends, size)), e), refl, tt)

  -- just the item at the front was taken, and the reader that was lent has what follows it
  pub handed-ok : (new : ByteSource S W) (v : A) (x : S) →
      (old.decoder.reader.ghost_name ≡ new.decoder.reader.ghost_name → x ≡ new.decoder.reader.now) →
      TakesItem (IsUnread remaining) old new → TakesAhead (StandsBefore remaining) old new taken v →
      TakesGiving (Some old.levels) taken b v (remaining x)
  handed-ok new v x back took takes =
      let (z, un, (i, s, sp, e)) = took b front in
      let (give, (z', un', fits, lv, none)) = takes (Some old.levels) i
      (bottom (old.decoder.reader.ghost_name, p + length s) z) (ahead i s z sp e) in
      let left : left_of remaining new.decoder ≡ Some z' =
      subst (λ o. IsUnreadBy remaining new.decoder o z') none un' in (
        i,
        s,
        z,
        sp,
        e,
        give,
        ap remaining (back fits.1) ∙ left ∙ ap Some fits.0,
      )

  pub handed-refused : (fault : Fault) → RefusesAhead (StandsBefore remaining) old taken fault →
      IsFaultAhead p (Some old.levels) taken b fault
  handed-refused fault h i s z sp e = h (Some old.levels) i
      (bottom (old.decoder.reader.ghost_name, p + length s) z) (ahead i s z sp e)

pub some-map : {A : Type 0} {P Q : A → Type 0} (o : Option A) → IfSome o P → ((v : A) → P v → Q v) → IfSome o Q
some-map (Some v) p f = f v p
some-map None p f = tt

pub err-read : {T A E : Type 0} (content : T → A) (P : E → Type 0) (r : Result T E) → IfErr (result_map content r) P →
    IfErr r P
err-read content P (Ok v) h = tt
err-read content P (Err e) h = h

-- the same, of what was read from the source
module _ {S W T A : Type 0} (E : Type 0) (can_fail : Bool) (remaining : S → Option (List ℕ)) (reading : Reading T A)
    (old new : ByteSource S W) (x : S)
    (back : old.decoder.reader.ghost_name ≡ new.decoder.reader.ghost_name → x ≡ new.decoder.reader.now) where
  abbrev IsRead : Result T (Error E) → Type 0
  IsRead = IsReadFrom {E = E} can_fail remaining reading old new

  -- the reader that was lent is what the source is left with
  handed-back : (r : Result T (Error E)) → IsRead r → x ≡ new.decoder.reader.now
  handed-back r h =
      back (sym (taken-name remaining old.decoder new.decoder (h.only old (taken-none remaining old.decoder))))

  pub handed-memory : (r : Result T (Error E)) → IsRead r →
      IfErr r (λ e. IsGrantedFault (fault_of (left_at_failure can_fail (remaining x)) e) reading.needs_memory)
  handed-memory r h =
      subst (λ y. IfErr r (λ e. IsGrantedFault (fault_of (left_at_failure can_fail (remaining y)) e)
      reading.needs_memory)) (sym (handed-back r h)) h.memory

  module _ (b : List ℕ) (p : ℕ) (front : IsUnread remaining old b) (ends : end_at remaining old ≡ p + length b) where
    pub handed-given : (r : Result T (Error E)) → IsRead r →
        IfOk (result_map reading.content r) (λ v. TakesGiving (Some old.levels) reading.taken b v (remaining x))
    handed-given (Ok v) h =
        handed-ok remaining old reading.taken b front p ends new (reading.content v) x back h.took h.ok
    handed-given (Err e) h = tt

    pub handed-denied : (r : Result T (Error E)) → IsRead r → IfErr (result_map reading.content r)
        (λ e. IsFaultAhead p (Some old.levels) reading.taken b (fault_of (left_at_failure can_fail (remaining x)) e))
    handed-denied (Ok v) h = tt
    handed-denied (Err e) h =
        handed-refused remaining old reading.taken b front p ends (fault_of (left_at_failure can_fail (remaining x)) e)
        (subst (λ y. RefusesAhead (StandsBefore remaining) old reading.taken (fault_of (left_at_failure can_fail
        (remaining y)) e)) (sym (handed-back (Err e) h)) h.refused)

  -- a reader that cannot fail before its end has nothing left at `Io`
  pub handed-ended : (r : Result T (Error E)) → IsRead r →
      IfSome reading.whole (λ _. IfErr r (λ e. HasEndedBy can_fail (remaining x) e))
  handed-ended r h = some-map reading.whole h.whole (λ tree reads.
      subst (λ y. IfErr r (λ e. HasEndedBy can_fail (remaining y) e)) (sym (handed-back r h))
      (err-read (λ v. tree (reading.content v)) (λ e. HasEndedBy can_fail (left_of remaining new.decoder) e) r reads.1))

-- ---- where reading is one call of `value`

pub on-ok : {T E : Type 0} {P : Type 0} (r : Result T E) → P → OnOk r P
on-ok (Ok v) p = p
on-ok (Err e) p = tt

pub handed-from : (E : Type 0) {S W : Type 0} (can_fail : Bool) (remaining : S → Option (List ℕ))
    (old new : ByteSource S W) (lent x : S) (p : ℕ) (r : Result Tree (Error E)) → HasBegun old.decoder lent p →
    old.pending ≡ None → (old.decoder.reader.ghost_name ≡ new.decoder.reader.ghost_name → x ≡ new.decoder.reader.now) →
    ReadsValue can_fail remaining old new r → TakesBytes {E = E} any p (remaining lent) old.levels (remaining x) r
handed-from E {S} {W} can_fail remaining old new lent x p r begins none back reads =
    let (same, ended, (s, taken, count, h, bytes)) = reads in
    let begun : old.decoder.counter.count ≡ p = begins.count in
    let less = new.decoder.counter.fits in
    let after : remaining x ≡ left_of remaining new.decoder = ap remaining (back (sym same)) in (
      s,
      subst (λ o. Consumes (remaining lent) o s) (sym after)
          (subst (λ y. Consumes y (left_of remaining new.decoder) s) (begun-left remaining old.decoder lent p begins)
          taken),
      omega (arith, count, begun, less),
      taken-tree E any new.decoder old.levels p s r (on-ok r new.unpushed)
          (λ c. h c (s ++ c) p (subst (λ o. IsAheadBy Some (with_left old.decoder (s ++ c)) (s ++ c) p o) (sym none)
          (begins.count, refl))),
      bytes,
    )

-- all that a call says that reads one value from a source of its own
pub handed-all : {S W T A : Type 0} (E : Type 0) (can_fail : Bool) (remaining : S → Option (List ℕ))
    (reading : Reading T A) (old new : ByteSource S W) (lent x : S) (p : ℕ) → HasBegun old.decoder lent p →
    old.pending ≡ None → (old.decoder.reader.ghost_name ≡ new.decoder.reader.ghost_name → x ≡ new.decoder.reader.now) →
    (r : Result T (Error E)) → IsReadFrom {E = E} can_fail remaining reading old new r →
    ReadsAsTypeFrom {E = E} can_fail p (Some old.levels) reading (remaining lent) (remaining x)
    (TakesBytes any p (remaining lent) old.levels (remaining x)) r
handed-all E can_fail remaining reading old new lent x p begins none back r h =
    let front : (b : List ℕ) → remaining lent ≡ Some b → IsUnread remaining old b =
    λ b e. subst (λ o. IsUnreadBy remaining old.decoder o b) (sym none)
    (begun-left remaining old.decoder lent p begins ∙ e) in
    let ends : (b : List ℕ) → remaining lent ≡ Some b → end_at remaining old ≡ p + length b =
    λ b e. ap (λ o. known_end o old.decoder.counter.count) (begun-left remaining old.decoder lent p begins ∙ e) ∙
    ap (λ n. n + length b) begins.count in
    record {
      ok = λ b e. handed-given E can_fail remaining reading old new x back b p (front b e) (ends b e) r h;
      refused = λ b e. handed-denied E can_fail remaining reading old new x back b p (front b e) (ends b e) r h;
      memory = handed-memory E can_fail remaining reading old new x back r h;
      taken = taken-beginning remaining old.decoder new.decoder lent x p begins back
          (h.only old (taken-none remaining old.decoder));
      value = some-map reading.whole h.whole (λ tree reads. handed-from E can_fail remaining old new lent x p
          (result_map (λ v. tree (reading.content v)) r) begins none back reads);
    }
