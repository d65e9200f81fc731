use Rattle.std.proofs.Common.{◌≡◌, ◌<◌, IsUtf8, take}
use Rattle.ciborium.specs.inner.ByteSources.{IsUnread, KeepsSource}
use Rattle.ciborium.proofs.Payloads.SkippedPayloads.{TookText}
use Rattle.ciborium.proofs.de.byte_source.ByteSource.skip_text_pieces.Given as goal

abbrev pub invariant-loop-left : goal.invariant-loop-left
invariant-loop-left g l = record {
  kept : KeepsSource g.A.Access.remaining l.fn.self l.self;
  few : l.kept < 4;
  cut : IsUtf8 (take l.kept l.buffer) → l.kept ≡ 0;
  took : TookText (IsUnread g.A.Access.remaining l.fn.self) (IsUnread g.A.Access.remaining l.self) l.len l.left
      (take l.kept l.buffer);
}

abbrev pub decreases-loop-left : goal.decreases-loop-left
decreases-loop-left g l = l.left
