use Rattle.std.proofs.Common.{◌≤◌, ◌+◌}
use Rattle.ciborium_value.specs.{Sources.TakesOnly, Given.given_byte}
use Rattle.ciborium.specs.inner.ByteSources.{HasTakenSince, seq_left, weight_left}
use Rattle.ciborium.proofs.Containers.ByteItems.{OwesPartly, ReadsPartly}
use Rattle.ciborium.proofs.de.byte_source.ByteSource.read_byte_items.Given as goal

abbrev pub invariant-items : goal.invariant-items
invariant-items g l = record {
  only : TakesOnly (HasTakenSince g.A.Access.remaining) l.fn.self l.self;
  fewer : weight_left l.self + seq_left l.seq ≤ weight_left l.fn.self + seq_left l.fn.seq;
  read : ReadsPartly g.A.Access.remaining given_byte l.fn.self l.fn.seq l.self l.seq l.bytes.items;
  owes : OwesPartly g.A.Access.remaining l.fn.self l.fn.seq l.self l.seq;
}

abbrev pub decreases-items : goal.decreases-items
decreases-items g l = weight_left l.self + seq_left l.seq
