use Rattle.std.proofs.Common.{None}
use Rattle.ciborium.specs.{Places.a_map, Progress.Owes, Sinks.in_turn}
use Rattle.ciborium_examples.proofs.OwnTypes.{named_number}
use Rattle.ciborium_examples.proofs.own_types.OpenMapSerialize.serialize.Given as goal

-- the entries that the iterator has not yielded are left
abbrev pub invariant-loop-key : goal.invariant-loop-key
invariant-loop-key g l = Owes g.S.Sink.stands_at a_map None (in_turn named_number named_number l.self.0.entries)
    l.fn.sink l.sink (in_turn named_number named_number l.key-iterator)
