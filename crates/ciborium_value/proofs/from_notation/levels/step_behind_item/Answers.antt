use Rattle.ciborium_value.proofs.Denoting.BegunLevels.{array_comma, array_end, array_other}
use Rattle.ciborium_value.proofs.from_notation.levels.step_behind_item.Goals as goal

pub returns-in_ok-push-in-Comma : goal.returns-in_ok-push-in-Comma
returns-in_ok-push-in-Comma c = array_comma c.args.items.items c.args.value c.push.new.self c.args.token.now
    c.in-Comma.is c.in_ok-push-in-Comma.ensures.items

pub returns-in_ok-push-in-EndArray : goal.returns-in_ok-push-in-EndArray
returns-in_ok-push-in-EndArray c = array_end c.args.items.items c.args.value c.push-in-EndArray.new.self
    c.args.token.now c.in-EndArray.is c.in_ok-push-in-EndArray.ensures.items

pub returns-in_default : goal.returns-in_default
returns-in_default c =
    array_other _ _ c.args.place c.args.token.now c.in_default.not-Comma c.in_default.not-EndArray
