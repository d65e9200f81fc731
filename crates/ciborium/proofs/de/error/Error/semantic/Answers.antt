use Rattle.std.proofs.Common.{refl}
use Rattle.ciborium.proofs.de.error.Error.semantic.Goals as goal

pub returns : goal.returns
returns g c = refl
