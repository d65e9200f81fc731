use Rattle.std.proofs.Common.{arith}
use Rattle.ciborium_value.proofs.Denoting.BegunLevels.{array_ended, first_taken}
use Rattle.ciborium_value.proofs.from_notation.levels.Levels.take_array_part.Goals as goal

pub returns-in-EndArray-clause-taken : goal.returns-in-EndArray-clause-taken
returns-in-EndArray-clause-taken c = (
  array_ended _ c.new-items.result c.args.token c.in-EndArray.is c.new-items.ensures.items,
  λ room. omega (arith, room),
)

pub returns-clause-taken : goal.returns-clause-taken
returns-clause-taken c = first_taken c.args.self.now.limit c.args.self.now.levels.items c.push.new.self.items
    c.take_item.new.self.levels.items c.new-items.result c.args.token c.take_item.result c.in_default.not-EndArray
    c.new-items.ensures.items c.in_ok-push.ensures.items c.take_item.ensures.taken
