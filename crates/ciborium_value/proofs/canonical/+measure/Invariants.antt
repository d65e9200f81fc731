use Rattle.std.proofs.Common.{◌≡◌, length, take}
use Rattle.ciborium_value.specs.{Counts.{trees_node_count, tree_pairs_node_count}, ProperTrees.AreProperTrees}
use Rattle.ciborium_value.specs.{ProperTrees.AreProperTreePairs, ValueLists.{trees_of, tree_pairs_of}}
use Rattle.ciborium_value.specs.{Visits.{AddsVisits, saturated}, inner.EncodedLists.{encodings, pair_encodings}}
use Rattle.ciborium_value.proofs.canonical.+measure.Given as goal

-- the items so far are measured
abbrev pub invariant-measure_items-loop-item : goal.invariant-measure_items-loop-item
invariant-measure_items-loop-item l = record {
  size : l.size ≡ saturated (length (encodings (take l.item-index l.item-items)));
  visits : AddsVisits (trees_node_count (trees_of (take l.item-index l.item-items))) l.fn.visits.count l.visits.count;
  proper : AreProperTrees (trees_of (take l.item-index l.item-items));
}

-- the pairs so far are measured
abbrev pub invariant-measure_pairs-loop-pair : goal.invariant-measure_pairs-loop-pair
invariant-measure_pairs-loop-pair l = record {
  size : l.size ≡ saturated (length (pair_encodings (take l.pair-index l.pair-items)));
  visits : AddsVisits (tree_pairs_node_count (tree_pairs_of (take l.pair-index l.pair-items))) l.fn.visits.count
      l.visits.count;
  proper : AreProperTreePairs (tree_pairs_of (take l.pair-index l.pair-items));
}
