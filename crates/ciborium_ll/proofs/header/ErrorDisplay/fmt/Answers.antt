use Rattle.std.proofs.{Common.arith, lemmas.Grind.common_steps}
use Rattle.ciborium_ll.proofs.header.ErrorDisplay.fmt.Goals as goal

pub returns-in-Syntax-clause-writes : goal.returns-in-Syntax-clause-writes
returns-in-Syntax-clause-writes g c = grind (arith, common_steps)
