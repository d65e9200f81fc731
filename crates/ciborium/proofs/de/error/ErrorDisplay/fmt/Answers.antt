use Rattle.std.proofs.{Common.arith, lemmas.Grind.common_steps}
use Rattle.ciborium.proofs.de.error.ErrorDisplay.fmt.Goals as goal

pub returns-in-Syntax-clause-writes : goal.returns-in-Syntax-clause-writes
returns-in-Syntax-clause-writes g c = grind (arith, common_steps)

pub returns-in-Semantic-Some-default-clause-writes : goal.returns-in-Semantic-Some-default-clause-writes
returns-in-Semantic-Some-default-clause-writes g c = grind (arith, common_steps)
