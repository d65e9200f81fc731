use Rattle.std.proofs.Common.{◌≡◌, ◌≤◌, ◌∷◌, []}
use Rattle.ciborium_ll.specs.{Decoding.HasSameReader, Levels.incomplete, declared.levels.Level.TheVariants.Items}
use Rattle.ciborium_value.specs.Sources.{TakesOnly}
use Rattle.ciborium.specs.inner.{ByteSources.{HasTaken, IsUnread, weight_left}, PassedOver.{PassesHeads, levels_in}}
use Rattle.ciborium.proofs.de.byte_source.ByteSource.skip_heads.Given as goal

abbrev pub invariant-heads : goal.invariant-heads
invariant-heads g l = record {
  same_reader : HasSameReader l.fn.self.decoder l.self.decoder;
  only : TakesOnly (HasTaken g.A.Access.remaining) l.fn.self.decoder l.self.decoder;
  levels : l.self.levels ≡ l.fn.self.levels;
  fewer : weight_left l.self ≤ weight_left l.fn.self;
  whole : incomplete (levels_in l.unfinished) ≡ levels_in l.unfinished;
  passed : PassesHeads (IsUnread g.A.Access.remaining l.fn.self) (IsUnread g.A.Access.remaining l.self)
      l.fn.self.levels (Items 1 ∷ []) (levels_in l.unfinished);
}

abbrev pub decreases-heads : goal.decreases-heads
decreases-heads g l = weight_left l.self
