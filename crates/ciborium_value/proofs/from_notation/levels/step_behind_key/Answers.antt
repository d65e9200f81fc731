use Rattle.std.proofs.Common.{refl}
use Rattle.ciborium_value.proofs.Denoting.BegunLevels.{key_colon, key_other}
use Rattle.ciborium_value.proofs.from_notation.levels.step_behind_key.Goals as goal

pub returns-in-Colon : goal.returns-in-Colon
returns-in-Colon c = key_colon c.args.pairs.items c.args.value c.args.pairs c.args.token.now c.in-Colon.is refl

pub returns-in_default : goal.returns-in_default
returns-in_default c = key_other _ _ c.args.place c.args.token.now c.in_default.not-Colon
