use Rattle.std.proofs.{Common.{◌≡◌, sym, ap, ◌∙◌}, lemmas.List.{Elements.{all_zip_more, same_from_all_zip}, take_all}}
use Rattle.ciborium_value.proofs.Trees.Copies.{ArePairsCopied, IsCopied, tree_pairs_copied, trees_copied}
use Rattle.ciborium_value.{proofs.Trees.Views.{tree_of-Bytes, tree_of-Map}, specs.ValueLists.tree_pairs_of}
use Rattle.ciborium_value.specs.View.{tree_of}
use Rattle.ciborium_value.specs.Tree as trees
use Rattle.ciborium_value.proofs.clone.+copy.Goals as goal

pub copy-returns-in_ok-clone-in-Bytes : goal.copy-returns-in_ok-clone-in-Bytes
copy-returns-in_ok-clone-in-Bytes t c =
    let same : c.in_ok-clone-in-Bytes.field-0.items ≡ c.in-Bytes.bytes.items =
    same_from_all_zip _ _ _ c.in_ok-clone-in-Bytes.ensures.cases.0 (λ x y e. e) in
    tree_of-Bytes _ ∙ ap trees.bytes same ∙ sym (tree_of-Bytes _) ∙ sym (ap tree_of c.in-Bytes.is)

pub copy-returns-in_ok-copy_pairs-in-Map : goal.copy-returns-in_ok-copy_pairs-in-Map
copy-returns-in_ok-copy_pairs-in-Map t c =
    let same = c.in_ok-copy_pairs-in-Map.ensures ∙ ap tree_pairs_of c.deref-in-Map.ensures.value in
    tree_of-Map _ ∙ ap trees.map same ∙ sym (tree_of-Map _) ∙ sym (ap tree_of c.in-Map.is)

pub copy_values-loop-value-preserved : goal.copy_values-loop-value-preserved
copy_values-loop-value-preserved t c = rw c.in_ok-push.ensures.items
    (all_zip_more IsCopied c.args.values.now c.loop-value.copies.items c.loop-value.value-index c.value-item.result
    c.in_ok-copy.field-0 c.loop-value-test.true c.value-item.is c.loop-value.invariant c.in_ok-copy.ensures)

pub copy_values-returns : goal.copy_values-returns
copy_values-returns t c = trees_copied c.args.values.now c.loop-value.copies.items
    (rw (take_all c.loop-value.value-index c.args.values.now c.loop-value-test.false) at c.loop-value.invariant)

pub copy_pairs-loop-pair-preserved : goal.copy_pairs-loop-pair-preserved
copy_pairs-loop-pair-preserved t c = rw c.in_ok-push.ensures.items
    (all_zip_more ArePairsCopied c.args.pairs.now c.loop-pair.copies.items c.loop-pair.pair-index c.pair-item.result
    (c.in_ok-key.key, c.in-Ok.value) c.loop-pair-test.true c.pair-item.is c.loop-pair.invariant
    (c.in_ok-key.ensures, c.in-Ok.ensures))

pub copy_pairs-returns : goal.copy_pairs-returns
copy_pairs-returns t c = tree_pairs_copied c.args.pairs.now c.loop-pair.copies.items
    (rw (take_all c.loop-pair.pair-index c.args.pairs.now c.loop-pair-test.false) at c.loop-pair.invariant)
