use Rattle.std.proofs.{Common.arith, lemmas.Grind.common_steps}
use Rattle.std.proofs.Common.{rules, ◌∙◌, ◌-◌, ap, map, slice_set, zero, suc, Some, None}
use Rattle.std.specs.Vec.{vec_len, with_item}
use Rattle.ciborium_value.{proofs.Trees.{Stacked.waiting-filled, Views.tree_of-Map}, specs.ValueLists.pair_trees}
use Rattle.ciborium_value.specs.{View.tree_of, inner.Frames.{still, whole}}
use Rattle.ciborium_value.specs.declared.tree.Value.TheViews as value
use Rattle.ciborium_value.specs.inner.Frames as frames
use Rattle.ciborium_value.proofs.stack.fill_map.Goals as goal

pub returns-in-Some-eq0 : goal.returns-in-Some-eq0
returns-in-Some-eq0 c =
    ap whole (ap (λ ps. tree_of (value.Map ps)) c.take_parts.ensures ∙ tree_of-Map (with_item c.args.pairs.now
    (vec_len c.args.pairs.now - 1) (c.in-Some.pair.now.0, c.args.value))) ∙
    waiting-filled c.args.pairs.now.items (vec_len c.args.pairs.now) c.in-Some.pair.now c.args.value
    c.args.behind.now (Some zero) _ (search rules) (search rules) c.in-Some.ensures.value c.if-waits.true (search rules)

pub returns-in-Some-behind : goal.returns-in-Some-behind
returns-in-Some-behind c = waiting-filled c.args.pairs.now.items _ c.in-Some.pair.now c.args.value c.args.behind.now
    (Some (suc (c.in-Some-behind.n - 1))) _
    (search rules) (search rules) c.in-Some.ensures.value c.if-waits.true (search rules)

pub returns-in-None : goal.returns-in-None
returns-in-None c =
    ap (λ b. still (frames.map (map pair_trees (slice_set c.args.pairs.now.items (vec_len c.args.pairs.now - 1)
    (c.in-Some.pair.now.0, c.args.value))) b None)) c.in-None.is ∙
    waiting-filled c.args.pairs.now.items _ c.in-Some.pair.now c.args.value c.args.behind.now None _
    (search rules) (search rules) c.in-Some.ensures.value c.if-waits.true c.in-None.is

pub returns-else-waits : goal.returns-else-waits
returns-else-waits c = grind (arith, common_steps)
