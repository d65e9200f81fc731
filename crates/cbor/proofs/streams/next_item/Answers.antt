use Rattle.std.proofs.Common.{arith, length-take-le}
use Rattle.ciborium_value.proofs.GoodItems.Spelled.{spells-pos}
use Rattle.cbor.proofs.streams.next_item.Goals as goal

pub returns-in-Some-clause-next : goal.returns-in-Some-clause-next
returns-in-Some-clause-next g c b e =
    let ((fits, item, is), after) = c.in-Some.ensures.item b e in
    let some = spells-pos item.0 _ item.1 in
    (omega (arith, fits, some, length-take-le c.in-Some.size b fits), ((fits, item, is), after))

pub returns-then-branch-clause-next : goal.returns-then-branch-clause-next
returns-then-branch-clause-next g c b e =
    rw c.if-branch.true at (c.in_ok-is_at_end.ensures.end b (c.in_default.ensures.item b e))

pub returns-clause-next : goal.returns-clause-next
returns-clause-next g c b e =
    let left = c.in_default.ensures.item b e in (
      rw c.if-branch.false at (c.in_ok-is_at_end.ensures.end b left),
      c.in_ok-next.ensures b (c.in_ok-is_at_end.ensures.kept b left),
    )
