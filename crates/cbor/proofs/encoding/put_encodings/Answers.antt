use Rattle.cbor.proofs.EncodedLines.{all-encoded, none-encoded, one-more-encoded, one-refused}
use Rattle.cbor.proofs.encoding.put_encodings.Goals as goal

pub lines-init : goal.lines-init
lines-init g c b w e f = none-encoded _ b w _ _ e f

pub returns-then-not-branch : goal.returns-then-not-branch
returns-then-not-branch g c b w e f =
    all-encoded c.args.limit b w c.lines.number _ _ _ _ _ _ (c.lines.invariant b w e f) c.in_ok-next_line.ensures.read
    c.in_ok-next_line.ensures.kept c.if-not-branch.true

pub returns-in_default : goal.returns-in_default
returns-in_default g c b w e f =
    one-refused c.args.limit b w c.lines.number _ _ _ _ _ _ (c.lines.invariant b w e f) c.in_ok-next_line.ensures.read
    c.in_ok-next_line.ensures.kept _ _ _ _ c.if-not-branch.false c.deref.ensures.value
    (rw c.in_default.is at c.in_ok-value.ensures.refused) c.deref-in_default.ensures.value
    c.in_ok-write_refused_line.ensures

pub lines-preserved : goal.lines-preserved
lines-preserved g c b w e f = one-more-encoded c.args.limit b w c.lines.number _ _ _ _ _ _ (c.lines.invariant b w e f)
    c.in_ok-next_line.ensures.read c.in_ok-next_line.ensures.kept _ _ _ c.if-not-branch.false c.deref.ensures.value
    (rw c.in-Some.is at c.in_ok-value.ensures.value) c.in_ok-put.ensures
