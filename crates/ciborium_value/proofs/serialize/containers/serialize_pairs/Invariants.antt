use Rattle.std.proofs.Common.{Some, drop, length}
use Rattle.ciborium_value.specs.{Places.a_map, Sinks.in_turn, Progress.Owes}
use Rattle.ciborium_value.proofs.serialize.containers.serialize_pairs.Given as goal

-- the pairs from here on are left
abbrev pub invariant-loop-pair : goal.invariant-loop-pair
invariant-loop-pair g l = Owes g.S.Sink.stands_at a_map (Some (length l.pairs.items))
    (in_turn g.K.Serialize.written g.V.Serialize.written l.pairs.items) l.fn.sink l.sink
    (in_turn g.K.Serialize.written g.V.Serialize.written (drop l.pair-index l.pair-items))
