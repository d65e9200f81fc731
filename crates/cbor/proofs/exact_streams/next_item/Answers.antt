use Rattle.std.proofs.{Common.arith, lemmas.Grind.elements}
use Rattle.cbor.proofs.exact_streams.next_item.Goals as goal

pub returns-clause-next : goal.returns-clause-next
returns-clause-next g c b e =
    let left = c.in_default.ensures.item b e in
    c.take_copied.ensures b (c.in_ok-is_at_end.ensures.kept b left)
    (rw c.if-branch.false at (c.in_ok-is_at_end.ensures.end b left))

pub returns-then-branch-clause-next : goal.returns-then-branch-clause-next
returns-then-branch-clause-next g c = grind (arith, elements)
