use Rattle.std.proofs.{Common.arith, lemmas.Grind.common_steps}
use Rattle.ciborium_value.proofs.from_notation.byte_strings.read_hex.Goals as goal

pub digits-preserved-in_ok-push-in-Some-Some : goal.digits-preserved-in_ok-push-in-Some-Some
digits-preserved-in_ok-push-in-Some-Some c = grind (arith, common_steps)

pub digits-preserved-in-Some-None : goal.digits-preserved-in-Some-None
digits-preserved-in-Some-None c = grind (arith, common_steps)

pub digits-preserved : goal.digits-preserved
digits-preserved c = grind (arith, common_steps)

pub returns-in-None-None-clause-found : goal.returns-in-None-None-clause-found
returns-in-None-None-clause-found c = grind (arith, common_steps)
