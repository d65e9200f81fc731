use Rattle.std.proofs.{Common.{refl, inl, inr, sym, ap, ◌∙◌, rules}, lemmas.Result.err_from_is_err_and}
use Rattle.ciborium.specs.ValueLists.{trees_of}
use Rattle.ciborium_examples.specs.NumberTrees.{are_number_trees, is_number_tree, shape_of}
use Rattle.ciborium_value.proofs.Trees.MadeOfValues.{one_made, one_right, one_wrong}
use Rattle.ciborium_examples.proofs.tree_types.+grow.Goals as goal

pub grow_each-returns-in_err-tree-clause-refused : goal.grow_each-returns-in_err-tree-clause-refused
grow_each-returns-in_err-tree-clause-refused t c =
    let exit = err_from_is_err_and c.from_residual.result c.from_residual.ensures.1 in
    rw (exit.1, exit.2) (elim c.in_err-tree.ensures.refused [
      | inl memory ↦ inl memory
      | inr other ↦ inr (
        other.0,
        ap (λ vs. are_number_trees (trees_of vs)) (sym c.deref-value-items.ensures.value) ∙
            one_wrong is_number_tree are_number_trees refl (λ v vs. refl) c.loop-value.value-index
            c.deref-value-items.result.now c.value-item.result c.loop-value-test.true c.value-item.is other.1,
      )
    ])

pub grow_each-loop-value-preserved : goal.grow_each-loop-value-preserved
grow_each-loop-value-preserved t c = record {
  right = one_right is_number_tree are_number_trees refl (λ v vs. refl) c.loop-value.value-index
      c.deref-value-items.result.now c.value-item.result c.loop-value-test.true c.value-item.is
      c.loop-value.invariant.right c.in_ok-tree.ensures.ok.0;
  same = one_made shape_of c.loop-value.value-index c.deref-value-items.result.now c.value-item.result
      c.loop-value.trees.items c.push.new.self.items c.in_ok-tree.tree c.loop-value-test.true c.value-item.is
      c.loop-value.invariant.same (search rules) c.in_ok-tree.ensures.ok.1;
}
