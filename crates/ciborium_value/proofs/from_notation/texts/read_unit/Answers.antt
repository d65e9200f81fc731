use Rattle.std.proofs.{Common.arith, lemmas.Grind.common_steps}
use Rattle.ciborium_value.proofs.from_notation.texts.read_unit.Goals as goal

pub returns-clause-unit : goal.returns-clause-unit
returns-clause-unit c = grind (arith, common_steps)
