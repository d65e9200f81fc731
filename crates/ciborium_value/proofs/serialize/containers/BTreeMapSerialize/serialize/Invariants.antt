use Rattle.std.proofs.Common.{Some, length}
use Rattle.ciborium_value.specs.{Places.a_map, Sinks.in_turn, Progress.Owes}
use Rattle.ciborium_value.proofs.serialize.containers.BTreeMapSerialize.serialize.Given as goal

-- the entries that the iterator has not yielded are left
abbrev pub invariant-loop-key : goal.invariant-loop-key
invariant-loop-key g l = Owes g.S.Sink.stands_at a_map (Some (length l.self.entries))
    (in_turn g.K.Serialize.written g.V.Serialize.written l.self.entries) l.fn.sink l.sink
    (in_turn g.K.Serialize.written g.V.Serialize.written l.key-iterator)
