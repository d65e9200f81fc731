use Rattle.std.proofs.Common.{◌+◌, ◌-◌, ◌<◌, ◌≤◌, length}
use Rattle.ciborium_value.{proofs.Sources.Sequences.{Follows, IsBefore, IsInside}, specs.Given.given_byte}
use Rattle.ciborium_value.specs.{Ahead.parts, Places.an_array, Sources.{TakesOnly, TakesTo}}
use Rattle.ciborium_rows.{proofs.FewItems.few_from, specs.Few.given_few}
use Rattle.ciborium_rows.proofs.few.FewDeserialize.deserialize.Given as goal

-- the numbers that were read are the first of at most five, and the others are left
abbrev pub invariant-loop-numbers : goal.invariant-loop-numbers
invariant-loop-numbers g l = record {
  most : length l.numbers.items ≤ 5;
  inside : Follows (IsBefore g.S.Source.stands_before l.fn.source (given_few 5 given_byte))
      (IsInside g.S.Source.stands_before g.S.Source.seq_stands parts l.source l.seq
      (few_from given_byte (5 - length l.numbers.items) l.numbers.items));
  owed : TakesTo g.S.Source.is_unread l.fn.source l.source (g.S.Source.owes l.seq an_array);
  only : TakesOnly g.S.Source.has_taken l.fn.source l.source;
  less : g.S.Source.left l.source + g.S.Source.seq_left l.seq < g.S.Source.left l.fn.source;
}

abbrev pub decreases-loop-numbers : goal.decreases-loop-numbers
decreases-loop-numbers g l = g.S.Source.left l.source + g.S.Source.seq_left l.seq
