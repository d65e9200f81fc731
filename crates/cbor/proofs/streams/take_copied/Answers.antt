use Rattle.std.proofs.Common.{◌≡◌, ◌++◌, sym, ap, ◌∙◌}
use Rattle.cbor.{proofs.StreamedItems.{copied-taken, what-is-left}, specs.Streams.IsJudged}
use Rattle.cbor.proofs.streams.take_copied.Goals as goal

pub returns-in-Ok : goal.returns-in-Ok
returns-in-Ok g c b e =
    let (copied, taken, is, item) = c.in-Ok.ensures in
    let (left, behind, whole) = what-is-left _ _ b copied e taken in
    let held = c.deref.ensures.value ∙ is ∙ ap (λ x. x ++ copied) c.new-item.ensures.items in
    rw (c.len.ensures ∙ sym c.deref.ensures.len)
    (copied-taken (λ s. IsJudged c.args.spelling s c.args.limit c.judge_item-judged.result) b copied left
    c.deref.result.now _ whole behind held (item b e) c.judge_item-judged.ensures)

pub returns-in-Err-NoItem : goal.returns-in-Err-NoItem
returns-in-Err-NoItem g c b e =
    let (copied, taken, is, none) = rw c.in-Err-NoItem.field-0-is at c.in-Err-NoItem.ensures in
    let (left, behind, whole) = what-is-left _ _ b copied e taken in
    let held = c.deref-in-Err-NoItem.ensures.value ∙ is ∙ ap (λ x. x ++ copied) c.new-item.ensures.items in
    let same : b ≡ c.deref-in-Err-NoItem.result.now ++ left = whole ∙ ap (λ x. x ++ left) (sym held) in
    rw (sym same) at (c.read_behind.ensures left c.in-Err-NoItem.field-0-0 behind (rw same at (none b e)))
