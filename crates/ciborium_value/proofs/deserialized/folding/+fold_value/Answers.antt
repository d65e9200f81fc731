use Rattle.std.proofs.{Common.{Some, ap, inl, inr, option_map, sym, ◌∙◌}, lemmas.List.{Elements.all_zip_more, take_all}}
use Rattle.ciborium_value.proofs.FoldedTrees.FoldedCopies.{IsFoldedCopy, IsFoldedPair, all_folded, all_pairs_folded}
use Rattle.ciborium_value.proofs.FoldedTrees.FoldedCopies.{leaf_folded, one_pair_unfolded, one_unfolded, refused_as}
use Rattle.ciborium_value.{proofs.Trees.Views.tree_of-Map, proofs.Writing.Progress.exits, specs.Folded.folded}
use Rattle.ciborium_value.specs.{Folded.{tree_pairs_folded, trees_folded}, View.tree_of}
use Rattle.ciborium_value.specs.{ValueLists.{tree_pairs_of, trees_of}, inner.FoldedCopies.RefusesFolding}
use Rattle.ciborium_value.specs.Tree as trees
use Rattle.ciborium_value.proofs.deserialized.folding.+fold_value.Goals as goal

pub fold_value-returns-in_ok-clone-in_default : goal.fold_value-returns-in_ok-clone-in_default
fold_value-returns-in_ok-clone-in_default t c = record {
  ok = leaf_folded c.args.value.now (c.in_default.not-Tag, c.in_default.not-Array, c.in_default.not-Map) ∙
      ap Some (sym c.in_ok-clone-in_default.ensures.cases);
  refused = tt;
}

pub fold_value-returns-in_ok-fold_pairs-in-Map-clause-ok : goal.fold_value-returns-in_ok-fold_pairs-in-Map-clause-ok
fold_value-returns-in_ok-fold_pairs-in-Map-clause-ok t c =
    ap (λ v. folded (tree_of v)) c.in-Map.is ∙ ap folded (tree_of-Map _) ∙
    ap (option_map trees.map) (rw c.deref-in-Map.ensures.value at c.in_ok-fold_pairs-in-Map.ensures.ok) ∙
    ap Some (sym (tree_of-Map _))

pub fold_value-returns-in_err-fold_pairs-in-Map-clause-refused :
    goal.fold_value-returns-in_err-fold_pairs-in-Map-clause-refused
fold_value-returns-in_err-fold_pairs-in-Map-clause-refused t c =
    let e = c.in_err-fold_pairs-in-Map.field-0.0 in
    exits _ e (λ x. RefusesFolding x (folded (tree_of c.args.value.now)))
    c.from_residual-in_err-fold_pairs-in-Map.ensures.1
    (refused_as e (λ none. ap (λ v. folded (tree_of v)) c.in-Map.is ∙ ap folded (tree_of-Map _) ∙
    ap (option_map trees.map) none)
    (rw c.deref-in-Map.ensures.value at c.in_err-fold_pairs-in-Map.ensures.refused))

pub fold_values-loop-value-preserved : goal.fold_values-loop-value-preserved
fold_values-loop-value-preserved t c = rw c.in_ok-push.ensures.items
    (all_zip_more IsFoldedCopy c.args.values.now c.loop-value.copies.items c.loop-value.value-index
    c.value-item.result c.in_ok-fold_value.field-0 c.loop-value-test.true c.value-item.is c.loop-value.invariant
    c.in_ok-fold_value.ensures.ok)

pub fold_values-returns-in_err-fold_value-clause-refused : goal.fold_values-returns-in_err-fold_value-clause-refused
fold_values-returns-in_err-fold_value-clause-refused t c =
    let e = c.in_err-fold_value.field-0.0 in
    exits _ e (λ x. RefusesFolding x (trees_folded (trees_of c.args.values.now))) c.from_residual.ensures.1
    (refused_as e (λ none. one_unfolded c.args.values.now c.loop-value.value-index c.value-item.result
    c.loop-value-test.true (rw (sym c.value-item.is) none)) c.in_err-fold_value.ensures.refused)

pub fold_values-returns-clause-ok : goal.fold_values-returns-clause-ok
fold_values-returns-clause-ok t c = all_folded c.args.values.now c.loop-value.copies.items
    (rw (take_all c.loop-value.value-index c.args.values.now c.loop-value-test.false) at c.loop-value.invariant)

pub fold_pairs-loop-pair-preserved : goal.fold_pairs-loop-pair-preserved
fold_pairs-loop-pair-preserved t c = rw c.in_ok-push.ensures.items
    (all_zip_more IsFoldedPair c.args.pairs.now c.loop-pair.copies.items c.loop-pair.pair-index
    c.pair-item.result (c.in_ok-key.key, c.in-Ok.value) c.loop-pair-test.true c.pair-item.is c.loop-pair.invariant
    (c.in_ok-key.ensures.ok, c.in-Ok.ensures.ok))

pub fold_pairs-returns-in_err-key-clause-refused : goal.fold_pairs-returns-in_err-key-clause-refused
fold_pairs-returns-in_err-key-clause-refused t c =
    let e = c.in_err-key.field-0.0 in
    exits _ e (λ x. RefusesFolding x (tree_pairs_folded (tree_pairs_of c.args.pairs.now))) c.from_residual.ensures.1
    (refused_as e (λ none. one_pair_unfolded c.args.pairs.now c.loop-pair.pair-index c.pair-item.result
    c.loop-pair-test.true (inl (rw (sym c.pair-item.is) none))) c.in_err-key.ensures.refused)

pub fold_pairs-returns-in-Err-clause-refused : goal.fold_pairs-returns-in-Err-clause-refused
fold_pairs-returns-in-Err-clause-refused t c =
    refused_as c.in-Err.e (λ none. one_pair_unfolded c.args.pairs.now c.loop-pair.pair-index c.pair-item.result
    c.loop-pair-test.true (inr (rw (sym c.pair-item.is) none))) c.in-Err.ensures.refused

pub fold_pairs-returns-clause-ok : goal.fold_pairs-returns-clause-ok
fold_pairs-returns-clause-ok t c = all_pairs_folded c.args.pairs.now c.loop-pair.copies.items
    (rw (take_all c.loop-pair.pair-index c.args.pairs.now c.loop-pair-test.false) at c.loop-pair.invariant)
