use Rattle.std.proofs.Common.{◌≡◌, ◌++◌, append_assoc, arith}
use Rattle.cbor.specs.ExactStreams.{reason_behind}
use Rattle.cbor.proofs.exact_streams.show_reason.Goals as goal

pub returns : goal.returns
returns g c w e =
    let moved : c.in_ok-reason.reason ≡ reason_behind c.args.offset c.args.reason =
    grind (arith, c.reason_behind.ensures) in
    rw (append_assoc w c.args.place.now _, c.in_ok-write_reason.ensures, moved) at
    (c.put_line.ensures (w ++ c.args.place.now) (c.in_ok-put_text.ensures w e))
