use Rattle.std.proofs.{Common.{arith, ◌≡◌, ◌%◌, length}, lemmas.Result.err_from_is_err_and}
use Rattle.ciborium_ll.{proofs.Advancing.{argument-fails, argument-whole, argument-end}, specs.Refusal.argument_length}
use Rattle.ciborium_ll.proofs.cursor.Cursor.read_argument.Goals as goal

pub returns-in_err-fill-clause-head : goal.returns-in_err-fill-clause-head
returns-in_err-fill-clause-head g c =
    let exit = err_from_is_err_and c.from_residual.result c.from_residual.ensures.1 in
    let len : length c.fill.new.buffer ≡ argument_length (c.args.initial % 32) =
    omega (arith, c.fill.auto.buffer, c.requires.whole) in
    rw (exit.1, exit.2) (argument-fails _ _ c.args.start _ _ c.args.initial c.fill.new.buffer _ c.requires.behind
    (omega arith) len c.in_err-fill.ensures.taken)

pub judge_head-requires : goal.judge_head-requires
judge_head-requires g c =
    let end = argument-end _ _ c.args.start _ _ c.args.initial c.fill.new.buffer c.requires.behind
    c.in_ok-fill.ensures.taken in
    record {
      whole = omega (arith, c.fill.auto.buffer, c.requires.whole);
      between = omega (arith, end);
      parsed = c.parse_head-parsed.ensures;
    }

pub returns-clause-head : goal.returns-clause-head
returns-clause-head g c = argument-whole _ _ c.args.start _ _ c.args.initial c.fill.new.buffer _ _
    c.in_ok-fill.ensures.taken c.judge_head.ensures.head
