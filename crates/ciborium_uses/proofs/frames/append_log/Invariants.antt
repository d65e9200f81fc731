use Rattle.std.proofs.Common.{drop, map}
use Rattle.ciborium.proofs.Writing.WrittenSequences.{HasWritten}
use Rattle.ciborium_uses.proofs.frames.append_log.Given as goal

-- the messages from here on are left
abbrev pub invariant-loop-message : goal.invariant-loop-message
invariant-loop-message g l = HasWritten (map g.T.Serialize.written l.messages) (g.W.Write.contents l.fn.writer)
    (g.W.Write.contents l.writer) (map g.T.Serialize.written (drop l.message-index l.messages))
