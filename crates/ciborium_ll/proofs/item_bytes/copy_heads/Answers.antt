use Rattle.std.proofs.{Common.arith, lemmas.Grind.common_steps}
use Rattle.std.proofs.{Common.rules, lemmas.Result.err_from_is_err_and}
use Rattle.ciborium_ll.proofs.CopiedItems.{more-copied, more-ended}
use Rattle.ciborium_ll.proofs.item_bytes.copy_heads.Goals as goal

pub returns-in_err-count-clause-copied : goal.returns-in_err-count-clause-copied
returns-in_err-count-clause-copied g c = more-copied _ _ _ _ _ _ c.pieces.invariant.copied c.in_err-count.ensures.copied

pub returns-in_err-count-clause-end : goal.returns-in_err-count-clause-end
returns-in_err-count-clause-end g c =
    let exit = err_from_is_err_and c.from_residual.result c.from_residual.ensures.1 in
    rw (exit.1, exit.2) c.in_err-count.ensures.end

pub returns-then-count-eq0-clause-copied : goal.returns-then-count-eq0-clause-copied
returns-then-count-eq0-clause-copied g c = more-copied _ _ _ _ _ _ c.pieces.invariant.copied
    c.in_ok-count.ensures.copied

pub returns-then-count-eq0-clause-end : goal.returns-then-count-eq0-clause-end
returns-then-count-eq0-clause-end g c t = more-ended _ _ _ c.pieces.invariant.copied.0 c.pieces.invariant.copied.1
    (c.in_ok-count.ensures.end c.if-count-eq0.true c.pieces.invariant.some)

pub returns-then-missing-eq0-clause-copied : goal.returns-then-missing-eq0-clause-copied
returns-then-missing-eq0-clause-copied g c = more-copied _ _ _ _ _ _ c.pieces.invariant.copied
    c.in_ok-count.ensures.copied

pub pieces-preserved : goal.pieces-preserved
pieces-preserved g c = record {
  copied = more-copied _ _ _ _ _ _ c.pieces.invariant.copied c.in_ok-count.ensures.copied;
  some = search rules;
}

pub slice_bounds-find_missing-count : goal.slice_bounds-find_missing-count
slice_bounds-find_missing-count g c = grind (arith, common_steps)

pub slice_bounds-find_missing-start : goal.slice_bounds-find_missing-start
slice_bounds-find_missing-start g c = grind (arith, common_steps)
