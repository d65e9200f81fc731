use Rattle.std.proofs.Common.{rules}
use Rattle.ciborium_value.proofs.Denoting.BegunLevels.{content_end, content_other}
use Rattle.ciborium_value.proofs.from_notation.levels.step_behind_content.Goals as goal

pub returns-in_ok-new-in-EndTag : goal.returns-in_ok-new-in-EndTag
returns-in_ok-new-in-EndTag c = content_end c.args.tag c.args.value c.in_ok-new-in-EndTag.field-0 c.args.token.now
    c.in-EndTag.is (search rules)

pub returns-in_default : goal.returns-in_default
returns-in_default c = content_other c.args.tag _ c.args.place c.args.token.now c.in_default.not-EndTag
