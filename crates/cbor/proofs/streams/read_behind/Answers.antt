use Rattle.std.{proofs.Common.{◌++◌, ap, sym, Some, ◌∙◌}, specs.Io.KnownBytes.prepend_known}
use Rattle.cbor.proofs.StreamedItems.{front-read, nothing-before}
use Rattle.cbor.proofs.streams.read_behind.Goals as goal

pub returns-else-not-is_empty : goal.returns-else-not-is_empty
returns-else-not-is_empty g c left why e none =
    let b = c.args.taken.now ++ left in
    let known = ap (prepend_known c.args.taken.now) e in
    let (last, item, after, count) = rw c.in-Ok.is at (c.in_ok-value.ensures b known) in
    let (front, rest) = front-read c.args.spelling b c.args.limit c.in-Ok.value last c.in-Ok.size item count in
    (front, nothing-before _ _ last (sym c.is_empty.ensures ∙ c.if-not-is_empty.false) after ∙ ap Some (sym rest))

pub returns-in-Err : goal.returns-in-Err
returns-in-Err g c left why e none = (
  rw c.in-Err.is at (c.in_ok-value.ensures (c.args.taken.now ++ left) (ap (prepend_known c.args.taken.now) e)),
  why,
  none,
)
