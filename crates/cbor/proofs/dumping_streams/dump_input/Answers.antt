use Rattle.std.proofs.{Common.arith, lemmas.Grind.common_steps}
use Rattle.cbor.proofs.dumping_streams.dump_input.Goals as goal

pub returns : goal.returns
returns g c = grind (arith, common_steps)
