use Rattle.std.proofs.Common.{◌≡◌, ◌+◌, take, map}
use Rattle.ciborium_value.specs.{Counts.{trees_node_count, tree_pairs_node_count}, ValueLists.{pair_trees, trees_of}}
use Rattle.ciborium_value.specs.{ValueLists.tree_pairs_of, View.tree_of, Visits.AddsVisits}
use Rattle.ciborium_value.proofs.canonical.+compare.Given as goal

-- the items so far are the same
abbrev pub invariant-compare_items-loop-index : goal.invariant-compare_items-loop-index
invariant-compare_items-loop-index l = record {
  same : map tree_of (take l.index l.left.items) ≡ map tree_of (take l.index l.right.items);
  visits : AddsVisits (trees_node_count (trees_of (take l.index l.left.items)) + trees_node_count
      (trees_of (take l.index l.right.items))) l.fn.visits.count l.visits.count;
}

-- the pairs so far are the same
abbrev pub invariant-compare_pairs-loop-index : goal.invariant-compare_pairs-loop-index
invariant-compare_pairs-loop-index l = record {
  same : map pair_trees (take l.index l.left.items) ≡ map pair_trees (take l.index l.right.items);
  visits : AddsVisits (tree_pairs_node_count (tree_pairs_of (take l.index l.left.items)) + tree_pairs_node_count
      (tree_pairs_of (take l.index l.right.items))) l.fn.visits.count l.visits.count;
}
