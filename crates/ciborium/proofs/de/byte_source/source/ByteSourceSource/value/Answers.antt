use Rattle.std.proofs.Common.{◌≡◌, ◌≤◌, ◌<◌, ◌+◌, ◌*◌, ◌-◌, ℕ, Bool, List, Option, Result, length, None, Some, Ok, Err}
use Rattle.std.proofs.Common.{IfErr, OnOk, ap, arith, refl, rules, sym, ◌∙◌, subst}
use Rattle.ciborium_ll.{proofs.Decoders.{unread-count, unread-left}, specs.Bytes.greatest_offset}
use Rattle.ciborium_ll.specs.Decoding.{HasSameReader, IsAhead, ReadsNothing, TakesBeforeAny, left_of, next_offset}
use Rattle.ciborium_ll.specs.declared.{decoder.Decoder.Decoder, header.Header.Header}
use Rattle.ciborium_value.specs.{Given.{given_value, outcome}, Sources.{IsFaultOf, TakesOnly}, Spelling.any}
use Rattle.ciborium_value.specs.{View.{result_map, tree_of}, declared.tree.Value.Value}
use Rattle.ciborium.proofs.Containers.ByteItems.{TakesOne, takes-denied, takes-given}
use Rattle.ciborium.proofs.Items.{FrontReads.failed-fault, TakenOnly.{takes-none, takes-only}, Weights.weight-bounds}
use Rattle.ciborium.proofs.Items.WholeValues.{IsReal, ahead-by, known-read, portable-ahead, portable-reads}
use Rattle.ciborium.proofs.Items.WholeValues.{pushed-ahead, whole-end, whole-faults, whole-reads}
use Rattle.ciborium.specs.declared.de.{byte_source.ByteSource.ByteSource, error.Error.Error}
use Rattle.ciborium.specs.inner.ByteSources.{HasTaken, IsUnread, IsUnreadBy, pending_head_weight, weight_left}
use Rattle.ciborium.specs.inner.{Turns.IsValueRead, ValuesInBytes.{HasEndedAfter, heads_by, heads_left}}
use Rattle.ciborium.proofs.de.byte_source.source.ByteSourceSource.value.Goals.{in-Some+in_default-portable_value}
use Rattle.ciborium.proofs.de.byte_source.source.ByteSourceSource.value.Goals.{in_default}
use Rattle.ciborium.proofs.de.byte_source.source.ByteSourceSource.value.Goals.{}
use Rattle.ciborium.proofs.de.byte_source.source.ByteSourceSource.value.Goals as goal

less-left : (m n : ℕ) (o : Option (Header × ℕ)) → heads_by m None < heads_by n o → 3 * m < 3 * n + pending_head_weight o
less-left m n None less = omega (arith, less)
less-left m n (Some h) less = omega (arith, less, (weight-bounds h.0).0)

-- the decoder stands before the value, behind which a head that was pending is pushed back
abbrev IsReady : {S W : Type 0} → ByteSource S W → Decoder S W → Type 0
IsReady old mid = IsReal old.pending × (mid.pushed ≡ old.pending) ×
    HasSameReader old.decoder mid × ReadsNothing old.decoder mid

module _ {S W : Type 0} (can_fail : Bool) (remaining : S → Option (List ℕ)) (old new : ByteSource S W)
    (mid : Decoder S W) (ready : IsReady old mid) (levels : new.levels ≡ old.levels) (none : new.pending ≡ None)
    (same : HasSameReader mid new.decoder) (rests : new.decoder.pushed ≡ None) where
  abbrev Reads : Result Value (Error (Unit {0})) → Type 0
  Reads r = TakesBeforeAny remaining mid new.decoder (λ d e. (xs : List ℕ) (p : ℕ) → IsAhead Some d xs p →
      IsValueRead {S = List ℕ} {E = Unit {0}} any Some e old.levels xs p r)

  only : (r : Result Value (Error (Unit {0}))) → Reads r → TakesOnly (HasTaken remaining) old.decoder new.decoder
  only r value first t = takes-only remaining mid new.decoder _ same value first
      (takes-none remaining old.decoder mid ready.2 (unread-count old.decoder mid ready.3)
      (unread-left remaining old.decoder mid ready.3) first t)

  -- what it was read as, where this is unread
  read : (r : Result Value (Error (Unit {0}))) → Reads r → (b : List ℕ) → IsUnread remaining old b →
      IsValueRead {E = Unit {0}} any remaining new.decoder old.levels b
      (next_offset old.decoder.counter.count old.pending) r
  read r value b u = known-read remaining Unit mid new.decoder old.levels r value b _
      (ahead-by remaining old.decoder mid old.pending b ready.0 ready.1 ready.3 u)

  less : heads_left new.decoder < heads_left mid → weight_left new < weight_left old
  less fewer =
      let count = unread-count old.decoder mid ready.3 in
      let weight : pending_head_weight new.pending ≡ 0 = ap pending_head_weight none in
      let heads : heads_by (greatest_offset - new.decoder.counter.count) None <
      heads_by (greatest_offset - mid.counter.count) old.pending =
      subst (λ o. heads_by (greatest_offset - new.decoder.counter.count) None <
      heads_by (greatest_offset - mid.counter.count) o) ready.1
      (subst (λ o. heads_by (greatest_offset - new.decoder.counter.count) o < heads_left mid) rests fewer) in
      let core = less-left _ _ old.pending heads in omega (arith, core, count, weight)

  value-taken : (r : Result Value (Error (Unit {0}))) → OnOk r (heads_left new.decoder < heads_left mid) →
      IfErr r (λ e. HasEndedAfter can_fail remaining new.decoder e) → Reads r →
      TakesOne can_fail remaining old new given_value tree_of r
  value-taken (Ok v) fewer ended value = takes-given can_fail remaining (same ∙ ready.2, only (Ok v) value) levels none
      (less fewer) (λ b u.
      let (i, s, z, sp, e, give, left) = whole-reads Unit remaining new.decoder old.levels _ b v rests
      (read (Ok v) value b u) in
      (i, s, z, sp, e, give, subst (λ o. IsUnreadBy remaining new.decoder o z) (sym none) left))
  value-taken (Err e) fewer ended value =
      let sum = value.2 in
      let count = unread-count old.decoder mid ready.3 in
      let weight : pending_head_weight new.pending ≡ 0 = ap pending_head_weight none in
      takes-denied can_fail remaining (only (Err e) value) (omega (arith, sum, count, weight)) (λ b s z i end u sp f
      fits.
      subst (λ o. IsFaultOf end o (outcome (Some old.levels) (given_value i)))
      (failed-fault can_fail (left_of remaining new.decoder) e ended)
      (whole-faults (left_of remaining new.decoder) e old.levels _ end b s z i sp f
      (subst (λ n. n ≤ end + length z) (whole-end remaining old.decoder old.pending b ready.0 u) fits)
      (read (Err e) value b u)))

refused-as : {E : Type 0} (P : E → Type 0) (r : Result Value E) → IfErr r P → IfErr (result_map tree_of r) P
refused-as P (Ok v) h = tt
refused-as P (Err e) h = h

pub returns-in-Some-portable_value : goal.returns-in-Some-portable_value
returns-in-Some-portable_value g c =
    let d = c.args.self.now.decoder in
    let is = sym c.take.ensures.value ∙ c.in-Some.is in
    let tree = tree_of c.in-Some-portable_value.value in
    let means = c.in-Some-portable_value.ensures in record {
      takes = takes-given _ _ (refl, λ first t. t) refl c.take.ensures.after (search rules) (λ b u.
          let (i, s, z, sp, e, give, left) = portable-reads g.A.Access.remaining d c.args.self.now.pending
          c.in-Some.header c.in-Some.offset b tree (Some c.args.self.now.levels) is means u in
          (i, s, z, sp, e, give, subst (λ o. IsUnreadBy g.A.Access.remaining d o z) (sym c.take.ensures.after) left));
      reads = (
        refl,
        tt,
        portable-ahead Unit g.A.Access.remaining d c.args.self.now.pending c.in-Some.header c.in-Some.offset
            c.args.self.now.levels tree c.args.self.now.unpushed is means,
      );
    }

pub returns : goal.returns
returns g c =
    let old = c.args.self.now in
    let mid = c.match-take.self.1.0 in
    let read = c.read_value.ensures in
    let ready : IsReady old mid = elim c.match-take.branch [
      | in-Some+in_default-portable_value w ↦ let is = sym c.take.ensures.value ∙ w.in-Some.is in
          subst (IsReady old) (sym (ap (λ s. s.1.0) w.self-is)) (
            subst IsReal (sym is) w.in_default-portable_value.ensures,
            w.push.ensures.pushed ∙ sym is,
            w.push.ensures.same_reader,
            w.push.ensures.unread,
          )
      | in_default w ↦ let is = sym c.take.ensures.value ∙ w.in_default.is in
          subst (IsReady old) (sym (ap (λ s. s.1.0) w.self-is))
          (subst IsReal (sym is) tt, old.unpushed ∙ sym is, refl, (refl, refl))
    ] in record {
      takes = value-taken _ g.A.Access.remaining old _ mid ready refl c.take.ensures.after read.same_reader read.rests
          c.read_value.result read.fewer read.ended read.value;
      reads = (
        read.same_reader ∙ ready.2,
        refused-as _ c.read_value.result read.ended,
        pushed-ahead Unit g.A.Access.remaining old.decoder mid c.read_value.new.decoder old.pending old.levels
            c.read_value.result ready.1 ready.3 read.value,
      );
    }
