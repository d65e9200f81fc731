use Rattle.std.proofs.Common.{ap, sym, ◌∙◌}
use Rattle.ciborium_value.{proofs.Trees.{LookedUp.nth_got, Views.tree_of-Array}, specs.Lookups.{tree_at, nth_tree}}
use Rattle.ciborium_value.specs.{ValueLists.trees_of, View.tree_of}
use Rattle.ciborium_value.proofs.tree.Value.at.Goals as goal

pub returns-in-Array : goal.returns-in-Array
returns-in-Array c = nth_got c.args.index c.deref.result.now c.get.result c.get.ensures.lookup ∙
    ap (λ vs. nth_tree c.args.index (trees_of vs)) c.deref.ensures.value ∙
    sym (ap (tree_at c.args.index) (ap tree_of c.in-Array.is ∙ tree_of-Array c.in-Array.items))
