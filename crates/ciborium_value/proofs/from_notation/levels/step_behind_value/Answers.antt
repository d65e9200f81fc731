use Rattle.ciborium_value.proofs.Denoting.BegunLevels.{map_end, value_comma, value_other}
use Rattle.ciborium_value.proofs.from_notation.levels.step_behind_value.Goals as goal

pub returns-in_ok-push-in-Comma : goal.returns-in_ok-push-in-Comma
returns-in_ok-push-in-Comma c = value_comma c.args.pairs.items c.args.pair.0 c.args.pair.1 c.push.new.self
    c.args.token.now c.in-Comma.is c.in_ok-push-in-Comma.ensures.items

pub returns-in_ok-push-in-EndMap : goal.returns-in_ok-push-in-EndMap
returns-in_ok-push-in-EndMap c = map_end c.args.pairs.items c.args.pair.0 c.args.pair.1 c.push-in-EndMap.new.self
    c.args.token.now c.in-EndMap.is c.in_ok-push-in-EndMap.ensures.items

pub returns-in_default : goal.returns-in_default
returns-in_default c =
    value_other _ _ _ c.args.place c.args.token.now c.in_default.not-Comma c.in_default.not-EndMap
