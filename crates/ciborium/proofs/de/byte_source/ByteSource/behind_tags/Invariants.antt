use Rattle.std.proofs.Common.{◌≡◌, ◌≤◌}
use Rattle.ciborium_ll.specs.Decoding.{HasSameReader}
use Rattle.ciborium_value.specs.Sources.{TakesOnly}
use Rattle.ciborium.specs.{inner.ByteSources.{HasTaken, IsUnread, weight_left}, inner.Skips.Skips}
use Rattle.ciborium.proofs.de.byte_source.ByteSource.behind_tags.Given as goal

abbrev pub invariant-tags : goal.invariant-tags
invariant-tags g l = record {
  same_reader : HasSameReader l.fn.self.decoder l.self.decoder;
  only : TakesOnly (HasTaken g.A.Access.remaining) l.fn.self.decoder l.self.decoder;
  levels : l.self.levels ≡ l.fn.self.levels;
  fewer : weight_left l.self ≤ weight_left l.fn.self;
  skipped : Skips (IsUnread g.A.Access.remaining) l.fn.self l.self l.numbers;
}

abbrev pub decreases-tags : goal.decreases-tags
decreases-tags g l = weight_left l.self
