use Rattle.std.proofs.Common.{◌+◌, ◌<◌, map}
use Rattle.ciborium_value.specs.{Ahead.parts, Places.an_array, Sources.{TakesTo, TakesOnly}, GivenParts.given_list}
use Rattle.ciborium_value.proofs.Sources.Sequences.{Follows, IsBefore, IsInside, list_from}
use Rattle.ciborium_value.proofs.deserialize.sequences.VecDeserialize.deserialize.Given as goal

-- the items that were read are the first, and the others are left
abbrev pub invariant-loop-values : goal.invariant-loop-values
invariant-loop-values g l = record {
  inside : Follows (IsBefore g.S.Source.stands_before l.fn.source (given_list g.T.Deserialize.reading.taken))
      (IsInside g.S.Source.stands_before g.S.Source.seq_stands parts l.source l.seq
      (list_from g.T.Deserialize.reading.taken (map g.T.Deserialize.reading.content l.values.items)));
  owed : TakesTo g.S.Source.is_unread l.fn.source l.source (g.S.Source.owes l.seq an_array);
  only : TakesOnly g.S.Source.has_taken l.fn.source l.source;
  less : g.S.Source.left l.source + g.S.Source.seq_left l.seq < g.S.Source.left l.fn.source;
}

abbrev pub decreases-loop-values : goal.decreases-loop-values
decreases-loop-values g l = g.S.Source.left l.source + g.S.Source.seq_left l.seq
