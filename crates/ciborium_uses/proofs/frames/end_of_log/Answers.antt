-- Message after message is taken, up to what cuts the log or ends it.
use Rattle.std.proofs.Common.{refl}
use Rattle.ciborium_uses.proofs.LogEnds.{ends-cut, ends-whole, none-read-yet, one-more}
use Rattle.ciborium_uses.proofs.frames.end_of_log.Goals as goal

pub loop-init : goal.loop-init
loop-init g c = none-read-yet g.T.Deserialize.reading.taken (g.R.Read.remaining c.args.reader.now)

pub loop-preserved : goal.loop-preserved
loop-preserved g c =
    let next = rw c.in-Ok-Some.field-0-is at c.in-Ok-Some.ensures.next in
    one-more g.T.Deserialize.reading.taken (g.R.Read.remaining c.args.reader.now) _ _ _ _ _ c.loop.invariant
    next.ok (rw c.in-Ok-Some.field-0-is at c.in-Ok-Some.ensures.moved)

pub returns-in-Ok-None : goal.returns-in-Ok-None
returns-in-Ok-None g c =
    let next = rw c.in-Ok-None.field-0-is at c.in-Ok-None.ensures.next in
    ends-whole g.T.Deserialize.reading.taken (g.R.Read.remaining c.args.reader.now) _ _ _ _
    (rw c.in-Ok-None.field-0-is at c.in-Ok-None.ensures.moved) c.loop.invariant next.end.0

pub returns-then-branch : goal.returns-then-branch
returns-then-branch g c =
    ends-cut g.T.Deserialize.reading.taken (g.R.Read.remaining c.args.reader.now) _ _ _ _ c.in-Err.error
    c.in-Err.ensures.moved c.loop.invariant c.in-Err.ensures.next.refused c.in-Err.ensures.next.taken
    (λ r known. (c.in_ok-is_cut_short-in-Err.ensures.cut r known).0 (rw c.if-branch.true refl))
