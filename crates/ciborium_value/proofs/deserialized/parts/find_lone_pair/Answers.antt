-- Behind the first pair another one stands.
use Rattle.std.proofs.Common.{arith}
use Rattle.std.proofs.lemmas.Grind.{common_steps}
use Rattle.std.proofs.Common.{sym}
use Rattle.ciborium_value.proofs.Sources.TreeLevels.{more_pairs}
use Rattle.ciborium_value.proofs.deserialized.parts.find_lone_pair.Goals as goal

pub returns-else-is_empty-clause-none : goal.returns-else-is_empty-clause-none
returns-else-is_empty-clause-none c = more_pairs c.args.pairs.now c.in_ok-key.field-0-0.now c.in_ok-key.rest.now
    c.in_ok-key.ensures.cases.0 (sym c.if-is_empty.ensures)

pub returns-then-is_empty-clause-some : goal.returns-then-is_empty-clause-some
returns-then-is_empty-clause-some c = grind (arith, common_steps)

pub returns-in_err-key-clause-none : goal.returns-in_err-key-clause-none
returns-in_err-key-clause-none c = grind (arith, common_steps)
