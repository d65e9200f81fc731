use Rattle.std.proofs.Common.{◌+◌, ◌≤◌}
use Rattle.ciborium_value.specs.{Ahead.parts, Sources.TakesOnly, GivenParts.no_part_given}
use Rattle.ciborium_value.proofs.Sources.Sequences.{Follows, IsInside, TakesOwed}
use Rattle.ciborium_value.proofs.items.NoItemWantedItems.read_items.Given as goal

-- the items that are left decide, since the others were values
abbrev pub invariant-loop-source : goal.invariant-loop-source
invariant-loop-source g l = record {
  inside : Follows (IsInside g.S.Source.stands_before g.S.Source.seq_stands parts l.fn.source l.fn.seq no_part_given)
      (IsInside g.S.Source.stands_before g.S.Source.seq_stands parts l.source l.seq no_part_given);
  owed : TakesOwed g.S.Source.is_unread g.S.Source.owes l.fn.source l.source l.fn.seq l.seq;
  only : TakesOnly g.S.Source.has_taken l.fn.source l.source;
  less : g.S.Source.left l.source + g.S.Source.seq_left l.seq ≤ g.S.Source.left l.fn.source + g.S.Source.seq_left
      l.fn.seq;
}

abbrev pub decreases-loop-source : goal.decreases-loop-source
decreases-loop-source g l = g.S.Source.left l.source + g.S.Source.seq_left l.seq
