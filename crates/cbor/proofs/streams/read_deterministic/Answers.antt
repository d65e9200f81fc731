use Rattle.std.proofs.Common.{◌≡◌, ◌+◌, [], length, Some, ap, ◌∙◌, arith, length-append}
use Rattle.ciborium_value.specs.Spelling.{deterministic}
use Rattle.ciborium.proofs.Readers.KnownReaders.{followed}
use Rattle.cbor.specs.declared.reading.Spelling.TheVariants.{Deterministic}
use Rattle.cbor.proofs.{ReadBytes.named-anyway, StreamedItems.what-is-left}
use Rattle.cbor.proofs.streams.read_deterministic.Goals as goal

pub judge_error-requires : goal.judge_error-requires
judge_error-requires g c = named-anyway (Some []) c.in-Err.error _
    (followed (deterministic c.args.order) c.args.limit _ c.in-Err.error c.in-Err.ensures.taken.3 [])

pub returns-in_ok-refusal-in-Err : goal.returns-in_ok-refusal-in-Err
returns-in_ok-refusal-in-Err g c b e =
    let read = c.in-Err.ensures in
    let left = what-is-left _ _ b read.taken.0 e read.taken.1 in
    c.in_ok-refusal-in-Err.ensures (Deterministic c.args.order) b left.0 c.args.limit left.1 (read.refused b e)

pub returns-in-Ok : goal.returns-in-Ok
returns-in-Ok g c b e =
    let item = c.in-Ok.ensures.ok b e in
    let (i, spelled, means, nests, fits, (same, rises)) = item.2 in
    let all : length b ≡ length item.0 + length item.1 = ap length item.3 ∙ length-append item.0 item.1 in
    let size = c.encoded_size-size.ensures.size in
    (item.1, (item.0, item.2, item.3), item.4, omega (arith, size, ap length same, fits, all))
