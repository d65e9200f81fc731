use Rattle.std.proofs.Common.{arith, ◌+◌, ◌≤◌, ◌%◌}
use Rattle.ciborium_ll.specs.{Bytes.greatest_offset, Refusal.argument_length}
use Rattle.ciborium_ll.proofs.HeadAnswers.{ill-formed, usable-head, long-head}
use Rattle.ciborium_ll.proofs.reading.judge_head.Goals as goal

pub returns-in_default-clause-head : goal.returns-in_default-clause-head
returns-in_default-clause-head g c =
    let room : c.args.start + 1 + argument_length (c.args.initial % 32) ≤ greatest_offset =
    omega (arith, c.requires.whole, c.requires.between, c.ranges.end.fits) in
    ill-formed _ _ _ c.requires.whole room (rw c.in_default.is at c.requires.parsed)

pub returns-then-end-payload_size-clause-head : goal.returns-then-end-payload_size-clause-head
returns-then-end-payload_size-clause-head g c =
    let room : c.args.start + 1 + argument_length (c.args.initial % 32) ≤ greatest_offset =
    omega (arith, c.requires.whole, c.requires.between, c.ranges.end.fits) in
    long-head _ _ _ _ (rw c.in-Some.is at c.requires.parsed) c.requires.whole room
    (omega (arith, c.requires.whole, c.requires.between, c.payload_size.ensures, c.if-end-payload_size.true))

pub returns-clause-head : goal.returns-clause-head
returns-clause-head g c =
    let room : c.args.start + 1 + argument_length (c.args.initial % 32) ≤ greatest_offset =
    omega (arith, c.requires.whole, c.requires.between, c.ranges.end.fits) in
    usable-head _ _ _ _ (rw c.in-Some.is at c.requires.parsed) c.requires.whole room
    (omega (arith, c.requires.whole, c.requires.between, c.payload_size.ensures, c.if-end-payload_size.false))
