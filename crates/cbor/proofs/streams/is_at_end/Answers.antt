use Rattle.std.proofs.{Common.arith, lemmas.Grind.common_steps}
use Rattle.cbor.proofs.streams.is_at_end.Goals as goal

pub returns-in-Ok-clause-end : goal.returns-in-Ok-clause-end
returns-in-Ok-clause-end g c = grind (arith, common_steps)
