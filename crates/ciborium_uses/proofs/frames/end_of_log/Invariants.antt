use Rattle.ciborium_uses.proofs.LogEnds.{HasReadTo}
use Rattle.ciborium_uses.proofs.frames.end_of_log.Given as goal

-- messages were taken up to the offset
abbrev pub invariant-loop : goal.invariant-loop
invariant-loop g l = HasReadTo g.T.Deserialize.reading.taken (g.R.Read.remaining l.fn.reader)
    (g.R.Read.remaining l.reader) l.end
