use Rattle.std.proofs.Common.{◌++◌}
use Rattle.cbor.proofs.StreamedItems.{refused-shown}
use Rattle.cbor.proofs.streams.show_refused.Goals as goal

pub returns : goal.returns
returns g c w e = refused-shown c.args.place.now w c.args.number c.args.refusal _ _ _ c.put_line.result
    c.in_ok-write_refused.ensures (c.put_line.ensures (w ++ c.args.place.now) (c.in_ok-put_text.ensures w e))
