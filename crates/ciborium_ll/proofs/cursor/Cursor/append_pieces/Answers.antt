use Rattle.std.proofs.{Common.{rules, arith}, lemmas.Grind.common_steps, lemmas.Result.err_from_is_err_and}
use Rattle.ciborium_ll.proofs.Payloads.{some-appended, some-refused}
use Rattle.ciborium_ll.proofs.cursor.Cursor.append_pieces.Goals as goal

pub returns-in_err-left-clause-bytes : goal.returns-in_err-left-clause-bytes
returns-in_err-left-clause-bytes g c =
    let exit = err_from_is_err_and c.from_residual.result c.from_residual.ensures.1 in
    rw (exit.1, exit.2) (some-refused _ _ _ _ _ _ _ _ _ _ _ _ c.loop-left.invariant.taken c.in_err-left.ensures.some)

pub loop-left-preserved : goal.loop-left-preserved
loop-left-preserved g c =
    let some = c.in_ok-left.ensures.some in record {
      same = search rules;
      room = grind (arith, common_steps);
      below = grind (arith, common_steps, some.2, some.3.0, some.3.1, some.3.2);
      taken = some-appended g.row.K-Kept.Denot _ _ _ _ _ _ _ _ _ _ _ _ c.loop-left.invariant.taken some;
    }
