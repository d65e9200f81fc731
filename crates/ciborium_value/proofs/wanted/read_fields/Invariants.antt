use Rattle.std.proofs.Common.{◌≡◌, ◌+◌, ◌<◌}
use Rattle.ciborium_ll.specs.Item.{Item}
use Rattle.ciborium_value.specs.{Labels.Label, Nesting.Limit, Given.outcome, Places.a_map, Sources.TakesTo}
use Rattle.ciborium_value.specs.{Sources.TakesOnly, StructReadings.given_fields}
use Rattle.ciborium_value.proofs.{Sources.Sequences.{Follows, IsBefore}, Sources.NamedFields.IsInsideFields}
use Rattle.ciborium_value.proofs.wanted.read_fields.Given as goal

-- the pairs that were read are in the fields, and the others are left
abbrev pub invariant-loop-seq : goal.invariant-loop-seq
invariant-loop-seq g l = record {
  names : (name : Label) (c : g.F.WantedFields.Content) (m : Limit) (i : Item) →
      outcome m (g.F.WantedFields.fields l.fields name c i) ≡ outcome m (g.F.WantedFields.fields l.fn.fields name c i);
  inside : Follows (IsBefore g.S.Source.stands_before l.fn.source
      (given_fields (g.F.WantedFields.fields l.fn.fields) (g.F.WantedFields.content l.fn.fields)))
      (IsInsideFields g.S.Source.stands_before g.S.Source.seq_stands (g.F.WantedFields.fields l.fn.fields) l.source
      l.seq (g.F.WantedFields.content l.fields));
  owed : TakesTo g.S.Source.is_unread l.fn.source l.source (g.S.Source.owes l.seq a_map);
  only : TakesOnly g.S.Source.has_taken l.fn.source l.source;
  less : g.S.Source.left l.source + g.S.Source.seq_left l.seq < g.S.Source.left l.fn.source;
}

abbrev pub decreases-loop-seq : goal.decreases-loop-seq
decreases-loop-seq g l = g.S.Source.left l.source + g.S.Source.seq_left l.seq
