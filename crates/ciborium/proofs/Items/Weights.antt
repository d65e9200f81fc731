-- What heads weigh.
use Rattle.std.proofs.Common.{◌≡◌, ◌+◌, ◌<◌, ◌≤◌, List, None, Ok, Option, ap, arith, ℕ}
use Rattle.ciborium_ll.specs.declared.header.Header.{Header}
use Rattle.ciborium_ll.specs.declared.header.Header.TheVariants as header
use Rattle.ciborium.specs.declared.de.byte_source.ByteSource.{ByteSource}
use Rattle.ciborium.proofs.Items.TakenOnly.{keeps-then}
use Rattle.ciborium.specs.inner.ByteSources.{KeepsSource, PassesItem, bytes_weight, head_weight, weight_left}
use Rattle.ciborium.specs.inner.ByteSources.{pending_head_weight}

pub weight-bounds : (h : Header) → (1 ≤ head_weight h) × (head_weight h ≤ 2)
weight-bounds header.Break = (omega arith, omega arith)
weight-bounds h = (omega arith, omega arith)

-- a head was taken, and what is read behind it
pub kept-fewer : {S W : Type 0} {remaining : S → Option (List ℕ)} (old mid new : ByteSource S W) (h : Header) →
    bytes_weight mid + head_weight h ≤ weight_left old → mid.pending ≡ None → KeepsSource remaining mid new →
    weight_left new < weight_left old
kept-fewer old mid new h fewer none kept =
    let no-weight : pending_head_weight mid.pending ≡ 0 = ap pending_head_weight none in
    let more = kept.no_more in
    omega (arith, fewer, (weight-bounds h).0, no-weight, more)

-- an item was passed over: its head, and what stands behind it
pub head-behind : {S W T E : Type 0} {remaining : S → Option (List ℕ)} {old mid new : ByteSource S W} {v : T}
    (h : Header) → bytes_weight mid + head_weight h ≤ weight_left old → KeepsSource remaining old mid →
    KeepsSource remaining mid new → PassesItem {E = E} remaining old new (Ok v)
head-behind {old = old} {mid} {new} h fewer one more =
    record { kept = keeps-then one more; fewer = kept-fewer old mid new h fewer one.pending more }

-- a container was entered
pub entered-fewer : {S W : Type 0} (old mid new : ByteSource S W) (h : Header) → new.decoder ≡ mid.decoder →
    new.pending ≡ None → bytes_weight mid + head_weight h ≤ weight_left old → weight_left new < weight_left old
entered-fewer old mid new h same none fewer =
    let count = ap (λ d. d.counter.count) same in
    let no-weight : pending_head_weight new.pending ≡ 0 = ap pending_head_weight none in
    omega (arith, fewer, (weight-bounds h).0, count, no-weight)

pub same-left : {S W : Type 0} (new old : ByteSource S W) → new.decoder ≡ old.decoder → new.pending ≡ old.pending →
    weight_left new ≡ weight_left old
same-left new old same pending =
    let count = ap (λ d. d.counter.count) same in
    let weight = ap pending_head_weight pending in omega (arith, count, weight)
