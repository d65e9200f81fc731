-- The pairs of the map are ahead.
use Rattle.std.proofs.Common.{◌≡◌, ◌+◌, sym, ap, ◌∙◌, subst, arith}
use Rattle.ciborium_value.{proofs.Sources.TreeReading.{map_of, begun, pairs_weigh_less}, specs.Ahead.counted}
use Rattle.ciborium_value.specs.{Counts.{tree_pairs_node_count, tree_pairs_payload_size}, Given.{given_pairs, untagged}}
use Rattle.ciborium_value.specs.{TreeAnswers.value_item, ValueLists.tree_pairs_of, inner.TreeSources.IsPending}
use Rattle.ciborium_value.specs.inner.TreeSources.{pair_items, value_weight, pending_tree_weight, pending_due}
use Rattle.ciborium_value.specs.inner.TreeSources.{due_weight, left_weight}
use Rattle.ciborium_value.specs.declared.deserialized.Left.TheVariants as left
use Rattle.ciborium_value.proofs.deserialized.TreeSourceSource.begin_map.Goals as goal

pub returns-in-Map-clause-ok : goal.returns-in-Map-clause-ok
returns-in-Map-clause-ok c l i f st =
    let here : value_item c.in-Whole.value.now ≡ i = subst (λ o. IsPending o i) (sym c.in-Whole.ensures.ahead) st.1.0 in
    begun given_pairs counted pair_items c.in-Map.pairs.items _ c.deref.ensures.value _ _ c.take-due.ensures.value l i
    f st.0 st.1.1 (map_of c.skip_tags.result.now c.in-Map.pairs i c.in-Map.is
    (c.skip_tags.ensures.item ∙ ap untagged here))

pub returns-in-Map-clause-less : goal.returns-in-Map-clause-less
returns-in-Map-clause-less c =
    let whole = pairs_weigh_less c.skip_tags.result.now c.in-Map.pairs (value_weight c.in-Whole.value.now) c.in-Map.is
    c.skip_tags.ensures.less in
    let parts : left_weight (left.Pairs c.deref.result) ≡ tree_pairs_node_count (tree_pairs_of c.in-Map.pairs.items) +
    tree_pairs_payload_size (tree_pairs_of c.in-Map.pairs.items) =
    ap (λ qs. tree_pairs_node_count (tree_pairs_of qs) + tree_pairs_payload_size (tree_pairs_of qs))
    c.deref.ensures.value in
    let here : pending_tree_weight c.args.self.now.ahead ≡ value_weight c.in-Whole.value.now =
    ap pending_tree_weight (sym c.in-Whole.ensures.ahead) in
    let due : due_weight c.take-due.result ≡ due_weight c.args.self.now.due = ap due_weight c.take-due.ensures.value in
    let emptied : pending_tree_weight c.take.new.self.ahead ≡ 0 =
    ap pending_tree_weight (c.take.ensures.next ∙ ap pending_due c.take-due.ensures.after) in
    let none_due : due_weight c.take.new.self.due ≡ 0 = ap due_weight c.take.ensures.due in
    omega (arith, whole, parts, here, due, emptied, none_due)
