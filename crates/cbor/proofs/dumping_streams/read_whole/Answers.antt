use Rattle.std.proofs.Common.{arith}
use Rattle.cbor.proofs.DumpedInputs.{all-read, block-read}
use Rattle.cbor.proofs.dumping_streams.read_whole.Goals as goal

pub reads-preserved : goal.reads-preserved
reads-preserved g c b e =
    block-read b _ _ _ _ _ (c.reads.invariant b e) c.in-Ok.ensures.bytes.0 c.in_ok-extend_from_slice.ensures.items

pub returns-then-count-eq0 : goal.returns-then-count-eq0
returns-then-count-eq0 g c b e =
    let read = c.in-Ok.ensures.bytes in
    let end = read.1 c.if-count-eq0.true (omega (arith, c.read.auto.buffer)) in
    all-read b _ _ _ _ _ (c.reads.invariant b (rw c.new-reader.ensures e)) read.0 c.if-count-eq0.true end
