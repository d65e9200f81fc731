use Rattle.std.proofs.lemmas.Grind.{common_steps}
use Rattle.std.proofs.Common.{length, add-one, refl, sym, ap, ◌∙◌, arith}
use Rattle.ciborium_value.proofs.Orders.TreeEncodings.{encoded_size-is, encoded_size-head, content_bytes-none}
use Rattle.ciborium_value.proofs.Orders.TreeEncodings.{content_bytes-Array, content_bytes-Map}
use Rattle.ciborium_value.proofs.Orders.{Encodings.{encodings-more-length, pair_encodings-more-length}}
use Rattle.ciborium_value.proofs.{Orders.VisitCounts.AddsVisits-then, Trees.Elements.at}
use Rattle.ciborium_value.proofs.Orders.VisitCounts.{trees_node_count-more, tree_pairs_node_count-more}
use Rattle.ciborium_value.proofs.Trees.ProperValues.{AreProperTrees-more, AreProperTreePairs-more, is_proper-Bytes}
use Rattle.ciborium_value.{proofs.Trees.ProperValues.is_proper-Text, specs.Visits.saturated}
use Rattle.ciborium_value.proofs.canonical.+measure.Goals as goal

pub measure-returns-in-Bytes-clause-proper : goal.measure-returns-in-Bytes-clause-proper
measure-returns-in-Bytes-clause-proper t c = is_proper-Bytes _ _ _ c.in-Bytes.is c.deref.ensures.value
    c.payload_size.ensures.bytes c.deref.type_inv.0

pub measure-returns-in-Text-clause-proper : goal.measure-returns-in-Text-clause-proper
measure-returns-in-Text-clause-proper t c = is_proper-Text _ _ _ c.in-Text.is c.as_bytes.ensures.value
    c.payload_size-in-Text.ensures.bytes c.as_bytes.type_inv.0

pub measure-returns-in-Integer-2-clause-size : goal.measure-returns-in-Integer-2-clause-size
measure-returns-in-Integer-2-clause-size t c = encoded_size-head _ _ _ _ c.visit.ensures.major c.visit.ensures.argument
    (c.head_size-head.ensures c.visit.result.major) c.head_size-head.type_inv (content_bytes-none _ c.in-Integer.is)

pub measure-returns-in-Integer-3-clause-size : goal.measure-returns-in-Integer-3-clause-size
measure-returns-in-Integer-3-clause-size t c = encoded_size-head _ _ _ _ c.visit.ensures.major c.visit.ensures.argument
    (c.head_size-head.ensures c.visit.result.major) c.head_size-head.type_inv (content_bytes-none _ c.in-Integer.is)

pub measure-returns-in-Array-clause-size : goal.measure-returns-in-Array-clause-size
measure-returns-in-Array-clause-size t c =
    let behind = ap (λ b. saturated (length b)) (content_bytes-Array _ _ c.in-Array.is) in
    encoded_size-is _ _ _ _ _ _ c.visit.ensures.major c.visit.ensures.argument
    (c.head_size-head.ensures c.visit.result.major) (c.measure_items.ensures.size ∙ sym behind)
    c.saturating_add-in-Array.ensures

pub measure-returns-in-Map-clause-size : goal.measure-returns-in-Map-clause-size
measure-returns-in-Map-clause-size t c =
    let behind = ap (λ b. saturated (length b)) (content_bytes-Map _ _ c.in-Map.is) in
    encoded_size-is _ _ _ _ _ _ c.visit.ensures.major c.visit.ensures.argument
    (c.head_size-head.ensures c.visit.result.major) (c.measure_pairs.ensures.size ∙ sym behind)
    c.saturating_add-in-Map.ensures

pub measure_items-loop-item-preserved : goal.measure_items-loop-item-preserved
measure_items-loop-item-preserved t c =
    let a = at c.loop-item-test.true c.item-item.is in
    let longer = encodings-more-length a in
    rw add-one (record {
      size = omega (arith, longer, c.loop-item.invariant.size, c.measure.ensures.size, c.saturating_add-size.ensures);
      visits = AddsVisits-then _ _ _ _ _ _ (trees_node_count-more a) c.loop-item.invariant.visits
          c.measure.ensures.visits;
      proper = AreProperTrees-more a c.loop-item.invariant.proper c.measure.ensures.proper;
    })

pub measure_pairs-loop-pair-preserved : goal.measure_pairs-loop-pair-preserved
measure_pairs-loop-pair-preserved t c =
    let a = at c.loop-pair-test.true c.pair-item.is in
    let longer = pair_encodings-more-length a in
    rw add-one (record {
      size = omega (
        arith,
        longer,
        c.loop-pair.invariant.size,
        c.measure.ensures.size,
        c.saturating_add-size.ensures,
        c.measure-in-loop-pair.ensures.size,
        c.saturating_add-size-in-loop-pair.ensures,
      );
      visits = AddsVisits-then _ _ _ _ _ _ (tree_pairs_node_count-more a) c.loop-pair.invariant.visits
          (AddsVisits-then _ _ _ _ _ _ refl c.measure.ensures.visits c.measure-in-loop-pair.ensures.visits);
      proper = AreProperTreePairs-more a c.loop-pair.invariant.proper c.measure.ensures.proper
          c.measure-in-loop-pair.ensures.proper;
    })

pub measure_items-returns : goal.measure_items-returns
measure_items-returns t c = grind (arith, common_steps)

pub measure_pairs-returns : goal.measure_pairs-returns
measure_pairs-returns t c = grind (arith, common_steps)
