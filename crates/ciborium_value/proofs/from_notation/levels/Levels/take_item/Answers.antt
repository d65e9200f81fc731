use Rattle.std.proofs.Common.{rules, arith}
use Rattle.std.proofs.lemmas.Grind.{common_steps}
use Rattle.ciborium_value.proofs.Denoting.BegunLevels.{array_begun, leaf_read, map_begun, no_item_begun, tag_begun}
use Rattle.ciborium_value.{proofs.Denoting.{BegunLevels.too_deep, Steps.begun}, specs.inner.ReadTokens.token_read}
use Rattle.ciborium_value.proofs.from_notation.levels.Levels.take_item.Goals as goal

pub returns-in-Leaf-clause-taken : goal.returns-in-Leaf-clause-taken
returns-in-Leaf-clause-taken c = (leaf_read _ _ c.args.token c.in-Leaf.is, λ room. room)

pub returns-in_ok-push-in-BeginTag-clause-taken : goal.returns-in_ok-push-in-BeginTag-clause-taken
returns-in_ok-push-in-BeginTag-clause-taken c = (
  tag_begun c.args.self.now.levels.items c.push.new.self.items c.in-BeginTag.tag c.args.token c.in-BeginTag.is
      c.in_ok-push-in-BeginTag.ensures.items,
  λ room. grind (arith, common_steps, room),
)

pub returns-in-BeginArray-clause-taken : goal.returns-in-BeginArray-clause-taken
returns-in-BeginArray-clause-taken c =
    (array_begun _ c.args.token c.in-BeginArray.is, λ room. grind (arith, common_steps, room))

pub returns-in-BeginMap-clause-taken : goal.returns-in-BeginMap-clause-taken
returns-in-BeginMap-clause-taken c =
    (map_begun _ c.args.token c.in-BeginMap.is, λ room. grind (arith, common_steps, room))

pub returns-then-is_full-clause-taken : goal.returns-then-is_full-clause-taken
returns-then-is_full-clause-taken c = too_deep c.args.self.now.levels.items c.args.token c.args.self.now.limit
    c.args.place (search rules) (search rules)

pub returns-in_default-clause-taken : goal.returns-in_default-clause-taken
returns-in_default-clause-taken c = λ l t r v at (m, i, w, z, d, more).
    no_item_begun c.args.token c.in_default.not-Leaf c.in_default.not-BeginTag c.in_default.not-BeginArray
    c.in_default.not-BeginMap m r z w (begun (token_read c.args.token) m t r z w at d)
