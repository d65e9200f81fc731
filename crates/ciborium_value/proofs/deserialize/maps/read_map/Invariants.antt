use Rattle.std.proofs.Common.{◌+◌, ◌<◌, map}
use Rattle.ciborium_value.specs.{Places.a_map, Sources.{TakesTo, TakesOnly}}
use Rattle.ciborium_value.proofs.{Sources.Sequences.{Follows, IsBefore}, Sources.Dictionaries.IsInsideMap}
use Rattle.ciborium_value.specs.GivenParts.{given_map}
use Rattle.ciborium_value.proofs.deserialize.maps.read_map.Given as goal

-- the pairs that were read are put in, and the others are left
abbrev pub invariant-loop-entries : goal.invariant-loop-entries
invariant-loop-entries g l =
    let k = g.K.Deserialize.reading in
    let v = g.V.Deserialize.reading in
    record {
      inside : Follows (IsBefore g.S.Source.stands_before l.fn.source (given_map l.fn.once k.order k.taken v.taken))
          (IsInsideMap g.S.Source.stands_before g.S.Source.seq_stands l.fn.once k.order k.taken v.taken l.source l.seq
          (map (λ e. (k.content e.0, v.content e.1)) l.entries.entries));
      owed : TakesTo g.S.Source.is_unread l.fn.source l.source (g.S.Source.owes l.seq a_map);
      only : TakesOnly g.S.Source.has_taken l.fn.source l.source;
      less : g.S.Source.left l.source + g.S.Source.seq_left l.seq < g.S.Source.left l.fn.source;
    }

abbrev pub decreases-loop-entries : goal.decreases-loop-entries
decreases-loop-entries g l = g.S.Source.left l.source + g.S.Source.seq_left l.seq
