use Rattle.std.proofs.{Common.arith, lemmas.Grind.common_steps}
use Rattle.ciborium.proofs.Readers.Loading.{differ-byte}
use Rattle.ciborium.proofs.de.loading.first_difference.Goals as goal

pub returns-then-left-at : goal.returns-then-left-at
returns-then-left-at c = differ-byte c.args.left.now c.args.right.now c.loop-at.at c.loop-at.invariant.same
    c.loop-at-test.true c.if-at-right.true c.if-left-at.true

pub loop-at-preserved : goal.loop-at-preserved
loop-at-preserved c = grind (arith, common_steps)
