use Rattle.std.proofs.Common.{drop, map}
use Rattle.ciborium.proofs.Writing.WrittenSequences.{HasWritten}
use Rattle.ciborium.proofs.ser.sequence.write_sequence.Given as goal

-- the values from here on are left
abbrev pub invariant-loop-value : goal.invariant-loop-value
invariant-loop-value g l = HasWritten (map g.T.Serialize.written l.values) (g.W.Write.contents l.fn.writer)
    (g.W.Write.contents l.writer) (map g.T.Serialize.written (drop l.value-index l.values))
