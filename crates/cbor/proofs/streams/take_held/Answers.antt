use Rattle.cbor.{proofs.StreamedItems.held-taken, specs.Streams.IsJudged}
use Rattle.cbor.proofs.streams.take_held.Goals as goal

pub returns-clause-item : goal.returns-clause-item
returns-clause-item g c b e =
    held-taken (λ s. IsJudged c.args.spelling s c.args.limit c.in_ok-item.item) _ _ _ _ b c.in_ok-item.size e
    c.consume.ensures.bytes (rw c.buffer.ensures at c.in_ok-item.ensures)
