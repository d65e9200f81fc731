use Rattle.std.proofs.Common.{map, drop, None}
use Rattle.ciborium.specs.{Places.an_array, Progress.Owes}
use Rattle.ciborium_examples.proofs.OwnTypes.{named_number}
use Rattle.ciborium_examples.proofs.own_types.OpenSerialize.serialize.Given as goal

-- the numbers from here on are left
abbrev pub invariant-loop-number : goal.invariant-loop-number
invariant-loop-number g l = Owes g.S.Sink.stands_at an_array None (map named_number l.self.0.items) l.fn.sink l.sink
    (map named_number (drop l.number-index l.number-items))
