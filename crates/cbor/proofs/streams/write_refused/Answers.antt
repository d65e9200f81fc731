use Rattle.std.proofs.Common.{arith, ◌≡◌}
use Rattle.cbor.{proofs.StreamedItems.refused-written, specs.Answer.refusal_behind}
use Rattle.cbor.proofs.streams.write_refused.Goals as goal

pub returns : goal.returns
returns c =
    let moved : c.in_ok-refusal.refusal ≡ refusal_behind c.args.offset c.args.refusal =
    grind (arith, c.behind.ensures.moved) in
    refused-written c.args.number c.args.offset c.args.refusal c.in_ok-refusal.refusal _ moved
    c.in_ok-write_refused_item.ensures
