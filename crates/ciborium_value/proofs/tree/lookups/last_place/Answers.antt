use Rattle.std.proofs.lemmas.Grind.{common_steps}
use Rattle.std.proofs.Common.{◌≡◌, ◌∙◌, ◌<◌, ◌-◌, suc, None, length, drop, sym, subst, arith, ap}
use Rattle.std.proofs.lemmas.List.{get_or_default}
use Rattle.ciborium_value.{proofs.Trees.LookedUp.last_found, specs.{Labels.is_label, Lookups.{last_with, tree_label}}}
use Rattle.ciborium_value.specs.{ValueLists.tree_pairs_of, View.tree_of}
use Rattle.ciborium_value.proofs.tree.lookups.last_place.Goals as goal

pub returns-then-is_under : goal.returns-then-is_under
returns-then-is_under g c = let i = c.loop-end.end - 1 in let ps = c.args.pairs.now in
    let h : i < length ps = omega (arith, c.loop-end.invariant.0, c.loop-end-test.true) in
    let l = g.L.SoughtLabel.label c.args.label.now in
    let next : c.loop-end.end ≡ suc i = omega (arith, c.loop-end-test.true) in
    let none = subst (λ n. last_with l (tree_pairs_of (drop n ps)) ≡ None) next c.loop-end.invariant.1 in
    let p = c.index-pairs-end.result in let is_it = sym c.is_under.ensures ∙ c.if-is_under.true in record {
      value = (h, last_found l ps i p h none is_it);
      label = λ d. ap (λ q. is_label (tree_label (tree_of q.0)) l) (sym (get_or_default ps i p d h)) ∙ is_it;
      none_behind = none;
    }

pub loop-end-preserved : goal.loop-end-preserved
loop-end-preserved g c = grind (arith, common_steps)
