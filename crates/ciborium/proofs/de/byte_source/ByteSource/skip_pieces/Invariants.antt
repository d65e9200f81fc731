use Rattle.ciborium.specs.inner.ByteSources.{IsUnread, KeepsSource}
use Rattle.ciborium.proofs.Payloads.SkippedPayloads.{TookSome}
use Rattle.ciborium.proofs.de.byte_source.ByteSource.skip_pieces.Given as goal

abbrev pub invariant-loop-left : goal.invariant-loop-left
invariant-loop-left g l = record {
  kept : KeepsSource g.A.Access.remaining l.fn.self l.self;
  took : TookSome (IsUnread g.A.Access.remaining l.fn.self) (IsUnread g.A.Access.remaining l.self) l.len l.left;
}

abbrev pub decreases-loop-left : goal.decreases-loop-left
decreases-loop-left g l = l.left
