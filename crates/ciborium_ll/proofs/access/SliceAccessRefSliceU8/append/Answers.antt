use Rattle.std.proofs.{Common.arith, lemmas.Grind.common_steps}
use Rattle.ciborium_ll.proofs.access.SliceAccessRefSliceU8.append.Goals as goal

pub returns : goal.returns
returns g c = grind (arith, common_steps)
