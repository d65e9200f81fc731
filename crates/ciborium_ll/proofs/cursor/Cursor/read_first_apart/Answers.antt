-- The first byte, and then what is read behind it.
use Rattle.std.proofs.{Common.arith, lemmas.Result.err_from_is_err_and}
use Rattle.ciborium_ll.proofs.{Advancing.head-behind, FirstHeads.first-given}
use Rattle.ciborium_ll.proofs.cursor.Cursor.read_first_apart.Goals as goal

pub returns-in_err-header-clause-head : goal.returns-in_err-header-clause-head
returns-in_err-header-clause-head g c =
    let exit = err_from_is_err_and c.from_residual-in_err-header.result c.from_residual-in_err-header.ensures.1 in
    let (fits, taken, end) = c.in_ok-read_some.ensures.some in
    rw (exit.1, exit.2) (head-behind _ _ _ _ _ _ _ _ _ c.read_some.auto.buffer
    (first-given _ _ _ _ _ c.read_some.new.buffer c.requires (λ z. omega (arith, z, c.if-branch-eq0.false))
    c.read_some.auto.buffer fits taken) c.in_err-header.ensures.head)

pub returns-clause-head : goal.returns-clause-head
returns-clause-head g c =
    let (fits, taken, end) = c.in_ok-read_some.ensures.some in
    head-behind _ _ _ _ _ _ _ _ _ c.read_some.auto.buffer
    (first-given _ _ _ _ _ c.read_some.new.buffer c.requires (λ z. omega (arith, z, c.if-branch-eq0.false))
    c.read_some.auto.buffer fits taken) c.in_ok-header.ensures.head
