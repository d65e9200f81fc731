-- A map of one pair is a variant, its key a name.
use Rattle.std.proofs.Common.{◌≡◌, ◌+◌, None, refl, sym, ap, ◌∙◌, subst, arith}
use Rattle.ciborium_value.proofs.Sources.{Sequences.fault_map, TreeFaults.fault_error, TreeLevels.variant_of_map}
use Rattle.ciborium_value.{proofs.{Sources.TreeReading.pairs_weigh_less, Writing.Progress.exits}, specs.Ahead.end_of}
use Rattle.ciborium_value.specs.{Counts.{tree_pairs_node_count, tree_pairs_payload_size}, Given.given_variant}
use Rattle.ciborium_value.specs.{Given.{given_name, untagged, deeper, outcome, outcome_map}, Sources.RefusesAhead}
use Rattle.ciborium_value.specs.{Sources.IsFaultOf, TreeAnswers.{tree_fault, value_item}, ValueLists.tree_pairs_of}
use Rattle.ciborium_value.specs.inner.TreeSources.{IsTreeAt, IsPending, IsDueValue, value_weight, pending_tree_weight}
use Rattle.ciborium_value.specs.inner.TreeSources.{due_weight}
use Rattle.ciborium_value.proofs.deserialized.TreeSourceSource.begin_variant.Goals as goal

pub returns-in_err-name-in-Some-clause-refused : goal.returns-in_err-name-in-Some-clause-refused
returns-in_err-name-in-Some-clause-refused c =
    let e = c.in_err-name-in-Some.field-0.0 in
    exits _ e (λ x. RefusesAhead IsTreeAt c.args.self.now given_variant (tree_fault x))
    c.from_residual-in_err-name-in-Some.ensures.1
    (λ l i f st.
    let here : value_item c.in-Whole.value.now ≡ i = subst (λ o. IsPending o i) c.in-Whole.is st.1.0 in
    subst (IsFaultOf (end_of f) (tree_fault e))
    (sym (ap (λ x. outcome x (given_variant i)) st.0 ∙ variant_of_map c.skip_tags.result.now c.in-Map.pairs
    c.deref-in-Map.result.now i c.in-Map.is (c.skip_tags.ensures.item ∙ ap untagged here)
    c.deref-in-Map.ensures.value ∙ c.in-Some.ensures.some))
    (fault_map _ (tree_fault e) (λ n. (n, value_item c.in-Some.data.now))
    (outcome None (given_name (value_item c.in-Some.key.now)))
    (fault_error e _ (end_of f) c.in_err-name-in-Some.ensures.refused)))

pub returns-in_ok-name-in-Some-clause-ok : goal.returns-in_ok-name-in-Some-clause-ok
returns-in_ok-name-in-Some-clause-ok c l i f st =
    let here : value_item c.in-Whole.value.now ≡ i = subst (λ o. IsPending o i) c.in-Whole.is st.1.0 in (
      value_item c.in-Some.data.now,
      ap (λ x. outcome x (given_variant i)) st.0 ∙ variant_of_map c.skip_tags.result.now c.in-Map.pairs
          c.deref-in-Map.result.now
          i c.in-Map.is (c.skip_tags.ensures.item ∙ ap untagged here) c.deref-in-Map.ensures.value ∙
          c.in-Some.ensures.some
          ∙ ap (outcome_map (λ n. (n, value_item c.in-Some.data.now))) c.in_ok-name-in-Some.ensures.ok,
      (ap deeper st.0, (refl, tt)),
      (st.0, subst (λ o. IsDueValue o f) (sym c.take.ensures.value) st.1.1),
    )

pub returns-in-None-clause-refused : goal.returns-in-None-clause-refused
returns-in-None-clause-refused c l i f st =
    let here : value_item c.in-Whole.value.now ≡ i = subst (λ o. IsPending o i) c.in-Whole.is st.1.0 in
    ap (λ x. outcome x (given_variant i)) st.0 ∙ variant_of_map c.skip_tags.result.now c.in-Map.pairs
    c.deref-in-Map.result.now i
    c.in-Map.is (c.skip_tags.ensures.item ∙ ap untagged here) c.deref-in-Map.ensures.value ∙ c.in-None.ensures.none

pub returns-in_ok-name-in-Some-clause-less : goal.returns-in_ok-name-in-Some-clause-less
returns-in_ok-name-in-Some-clause-less c =
    let whole = pairs_weigh_less c.skip_tags.result.now c.in-Map.pairs (value_weight c.in-Whole.value.now) c.in-Map.is
    c.skip_tags.ensures.less in
    let parts : tree_pairs_node_count (tree_pairs_of c.deref-in-Map.result.now) + tree_pairs_payload_size
    (tree_pairs_of c.deref-in-Map.result.now) ≡ tree_pairs_node_count (tree_pairs_of c.in-Map.pairs.items) +
    tree_pairs_payload_size (tree_pairs_of c.in-Map.pairs.items) =
    ap (λ qs. tree_pairs_node_count (tree_pairs_of qs) + tree_pairs_payload_size (tree_pairs_of qs))
    c.deref-in-Map.ensures.value in
    let below = c.in-Some.ensures.less in
    let here : pending_tree_weight c.args.self.now.ahead ≡ value_weight c.in-Whole.value.now =
    ap pending_tree_weight c.in-Whole.is in
    let due : due_weight c.take.result ≡ due_weight c.args.self.now.due = ap due_weight c.take.ensures.value in
    let none_due : due_weight c.take.new.self ≡ 0 = ap due_weight c.take.ensures.after in
    omega (arith, whole, parts, below, here, due, none_due)
