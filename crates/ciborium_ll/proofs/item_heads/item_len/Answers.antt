use Rattle.std.proofs.{Common.arith, lemmas.Grind.common_steps}
use Rattle.std.proofs.{Common.subst, lemmas.Result.err_from_is_err_and}
use Rattle.ciborium_ll.specs.ItemLengths.{IsNoItem}
use Rattle.ciborium_ll.proofs.item_heads.item_len.Goals as goal

pub returns-in_err-next : goal.returns-in_err-next
returns-in_err-next c =
    let exit = err_from_is_err_and c.from_residual.result c.from_residual.ensures.1 in
    let refused = c.in_err-next.ensures c.loop.invariant.read in
    rw (exit.1, exit.2) (subst (λ b. IsNoItem b c.in_err-next.field-0.0) c.loop.invariant.same refused.0)

pub loop-smaller : goal.loop-smaller
loop-smaller c = grind (arith, common_steps)
