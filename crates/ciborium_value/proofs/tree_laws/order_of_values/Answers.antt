use Rattle.ciborium_value.proofs.Orders.{Derived.{value_cmp_total, value_eq_equivalence}, OrderedTrees.equal_as_trees}
use Rattle.ciborium_value.proofs.Orders.OrderedTrees.{ordered_as_trees, partly_ordered_as_trees, tied_where_equal}
use Rattle.ciborium_value.proofs.tree_laws.order_of_values.Goals as goal

pub returns : goal.returns
returns c = record {
  equal = equal_as_trees;
  equivalence = value_eq_equivalence;
  ordered = ordered_as_trees;
  partly_ordered = partly_ordered_as_trees;
  total = value_cmp_total;
  tied = tied_where_equal;
}
