use Rattle.std.proofs.Common.{Some, map, drop, length}
use Rattle.ciborium_value.specs.{Places.an_array, Progress.Owes}
use Rattle.ciborium_value.proofs.serialize.containers.VecSerialize.serialize.Given as goal

-- the items from here on are left
abbrev pub invariant-loop-item : goal.invariant-loop-item
invariant-loop-item g l = Owes g.S.Sink.stands_at an_array (Some (length l.self.items))
    (map g.T.Serialize.written l.self.items) l.fn.sink l.sink
    (map g.T.Serialize.written (drop l.item-index l.item-items))
