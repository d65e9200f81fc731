use Rattle.std.proofs.Common.{◌++◌, ap, Some, ◌∙◌}
use Rattle.cbor.proofs.{ExactlyStreamed.copy-shown, StreamedItems.what-is-left}
use Rattle.cbor.proofs.exact_streams.take_copied.Goals as goal

pub returns-in-Ok : goal.returns-in-Ok
returns-in-Ok g c b e some =
    let (copied, taken, is, item) = c.in-Ok.ensures in
    let (left, behind, whole) = what-is-left _ _ b copied e taken in
    let held = c.deref.ensures.value ∙ is ∙ ap (λ x. x ++ copied) c.new-item.ensures.items in
    let (front, rest) = copy-shown b copied left _ c.in_ok-size-in-Ok.size whole (item b e)
    (rw (c.in_ok-size-in-Ok.ensures.ok_part, held) at c.write_front.ensures) in
    (front, behind ∙ ap Some rest)
