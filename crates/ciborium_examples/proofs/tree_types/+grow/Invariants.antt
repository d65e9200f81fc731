use Rattle.std.proofs.Common.{◌≡◌, map, take, true}
use Rattle.ciborium.specs.{ValueLists.trees_of, View.tree_of}
use Rattle.ciborium_examples.specs.NumberTrees.{are_number_trees, shape_of}
use Rattle.ciborium_examples.proofs.tree_types.+grow.Given as goal

-- the values so far are trees
abbrev pub invariant-grow_each-loop-value : goal.invariant-grow_each-loop-value
invariant-grow_each-loop-value l = record {
  right : are_number_trees (trees_of (take l.value-index l.value-items)) ≡ true;
  same : map shape_of l.trees.items ≡ map tree_of (take l.value-index l.value-items);
}
