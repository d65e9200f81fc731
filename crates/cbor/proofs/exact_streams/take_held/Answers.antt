use Rattle.cbor.{proofs.StreamedItems.held-taken, specs.Exact.IsExactly}
use Rattle.cbor.proofs.exact_streams.take_held.Goals as goal

pub returns-clause-item : goal.returns-clause-item
returns-clause-item g c b e =
    held-taken (λ s. IsExactly s c.write_front.new.line.items) _ _ _ _ b c.in_ok-size.size e
    c.consume.ensures.bytes (rw c.buffer.ensures at c.in_ok-size.ensures)
