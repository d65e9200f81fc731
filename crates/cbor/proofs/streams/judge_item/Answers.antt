use Rattle.cbor.proofs.StreamedItems.{item-judged}
use Rattle.cbor.proofs.streams.judge_item.Goals as goal

pub returns : goal.returns
returns c i = item-judged c.args.spelling c.args.item.now c.args.limit c.read_front.result _ i c.read_front.ensures.item
    c.read_front.ensures.refused
