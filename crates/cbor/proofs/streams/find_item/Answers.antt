use Rattle.std.proofs.{Common.arith, lemmas.Grind.common_steps}
use Rattle.cbor.proofs.StreamedItems.{front-before}
use Rattle.cbor.proofs.streams.find_item.Goals as goal

pub returns-in-Ok : goal.returns-in-Ok
returns-in-Ok c =
    front-before c.args.spelling c.args.held.now c.args.limit c.in-Ok.value c.read_front.new.rest.now
    c.in-Ok.ensures.item

pub returns : goal.returns
returns c = let (fits, item) = c.in-Ok-item_len.ensures in (fits, item, c.judge_item-item.ensures item)

pub overflow_sub-result : goal.overflow_sub-result
overflow_sub-result c = grind (arith, common_steps)
