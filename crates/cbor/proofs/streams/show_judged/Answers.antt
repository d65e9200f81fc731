use Rattle.std.proofs.Common.{◌++◌, append_assoc}
use Rattle.cbor.proofs.streams.show_judged.Goals as goal
use Rattle.cbor.proofs.streams.show_judged.Goals.{then-not-is_shown+in_ok-put_text, else-not-is_shown}

pub returns : goal.returns
returns g c s w limit is e = (
  _,
  c.in_ok-is_shown.ensures c.args.place.now s limit is,
  elim c.if-not-is_shown.branch [
    | then-not-is_shown+in_ok-put_text x ↦ rw x.if-not-is_shown.true (rw (append_assoc w c.args.place.now _) at
        (c.in_ok-put_line.ensures (w ++ c.args.place.now)
        (rw (x.waiting-is, x.output-is) (x.in_ok-put_text.ensures w e))))
    | else-not-is_shown x ↦ rw x.if-not-is_shown.false
        (c.in_ok-put_line.ensures w (rw (x.waiting-is, x.output-is) e))
  ],
)
