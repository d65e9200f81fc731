use Rattle.cbor.proofs.AnsweredLines.{none-answered, one-more, none-left}
use Rattle.cbor.proofs.answering.put_answers.Goals as goal

pub lines-init : goal.lines-init
lines-init g c b w e f = none-answered c.args.reading b w _ _ e f

pub returns-then-not-branch : goal.returns-then-not-branch
returns-then-not-branch g c b w e f =
    none-left c.args.reading b w c.lines.all_ok _ _ _ _ _ _ (c.lines.invariant b w e f) c.in_ok-next_line.ensures.read
    c.if-not-branch.true c.in_ok-next_line.ensures.kept

pub lines-preserved : goal.lines-preserved
lines-preserved g c b w e f =
    one-more c.args.reading b w c.lines.all_ok c.in_ok-is_ok.is_ok _ _ _ _ _ _ _ _ (c.lines.invariant b w e f)
    c.in_ok-next_line.ensures.read c.if-not-branch.false c.in_ok-next_line.ensures.kept
    c.deref.ensures.value c.in_ok-is_ok.ensures
