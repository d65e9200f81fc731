use Rattle.std.proofs.Common.{sym, ◌∙◌}
use Rattle.cbor.proofs.AnsweredLines.{begins-with}
use Rattle.cbor.proofs.MeantLines.{all-read, first-refused, none-read, one-more-read, pushed}
use Rattle.cbor.proofs.sorting.read_values.Goals as goal

pub lines-init : goal.lines-init
lines-init g c b e = none-read b c.args.limit _ _ e c.new-values.ensures.items

pub returns-then-not-branch : goal.returns-then-not-branch
returns-then-not-branch g c b e =
    let begun = begins-with (λ r. g.R.Read.remaining r.now) c.in-Ok.reader _ b c.in-Ok.ensures.inner
    c.in-Ok.ensures.empty c.in-Ok.ensures.capacity e in
    all-read b c.args.limit _ _ _ _ _ c.lines.number (c.lines.invariant b begun) c.in_ok-read_line.ensures
    c.if-not-branch.true

pub lines-preserved : goal.lines-preserved
lines-preserved g c b e =
    let push = pushed c.push.result c.push.new.self.items c.lines.values.items c.in-Ok-read_item.value
    c.push.ensures.items (sym c.is_err.ensures.value ∙ c.if-is_err.false) in
    one-more-read b c.args.limit _ _ c.lines.values.items c.push.new.self.items c.in-Ok-read_item.value _
    c.deref.result.now _ c.lines.number (c.lines.invariant b e) c.in_ok-read_line.ensures
    c.if-not-branch.false c.deref.ensures.value c.in-Ok-read_item.ensures.item push

pub returns-in-Err : goal.returns-in-Err
returns-in-Err g c b e =
    let begun = begins-with (λ r. g.R.Read.remaining r.now) c.in-Ok.reader _ b c.in-Ok.ensures.inner
    c.in-Ok.ensures.empty c.in-Ok.ensures.capacity e in
    first-refused b c.args.limit _ _ _ _ _ _ c.lines.number c.in-Err.refusal (c.lines.invariant b begun)
    c.in_ok-read_line.ensures c.if-not-branch.false c.deref.ensures.value c.in-Err.ensures.refused
