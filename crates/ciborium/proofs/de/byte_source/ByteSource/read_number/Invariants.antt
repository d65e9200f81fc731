use Rattle.ciborium.specs.{inner.ByteSources.{IsUnread, KeepsSource, bytes_weight}, inner.StringContents.TakesParts}
use Rattle.ciborium.proofs.de.byte_source.ByteSource.read_number.Given as goal

abbrev pub invariant-parts : goal.invariant-parts
invariant-parts g l = record {
  kept : KeepsSource g.A.Access.remaining l.fn.self l.self;
  took : TakesParts (IsUnread g.A.Access.remaining l.fn.self) (IsUnread g.A.Access.remaining l.self) l.number;
}

abbrev pub decreases-parts : goal.decreases-parts
decreases-parts g l = bytes_weight l.self
