use Rattle.std.proofs.Common.{arith}
use Rattle.ciborium_value.proofs.Denoting.BegunLevels.{key_taken, map_ended}
use Rattle.ciborium_value.proofs.from_notation.levels.Levels.take_map_part.Goals as goal

pub returns-in-EndMap-clause-taken : goal.returns-in-EndMap-clause-taken
returns-in-EndMap-clause-taken c = (
  map_ended _ c.new-pairs.result c.args.token c.in-EndMap.is c.new-pairs.ensures.items,
  λ room. omega (arith, room),
)

pub returns-clause-taken : goal.returns-clause-taken
returns-clause-taken c = key_taken c.args.self.now.limit c.args.self.now.levels.items c.push.new.self.items
    c.take_item.new.self.levels.items c.new-pairs.result c.args.token c.take_item.result c.in_default.not-EndMap
    c.new-pairs.ensures.items c.in_ok-push.ensures.items c.take_item.ensures.taken
