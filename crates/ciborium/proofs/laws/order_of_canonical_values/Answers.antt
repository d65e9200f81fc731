use Rattle.ciborium_value.specs.declared.key_order.KeyOrder.TheVariants.{LengthFirst}
use Rattle.ciborium_value.proofs.Orders.TotalOrders.{ordered_value_cmp_total}
use Rattle.ciborium.proofs.Encodings.OrderedValues.{is_order_of_trees, ties_equal_ones}
use Rattle.ciborium.proofs.laws.order_of_canonical_values.Goals as goal

pub returns : goal.returns
returns c = record {
  canonical = is_order_of_trees LengthFirst;
  total = ordered_value_cmp_total LengthFirst;
  ties = ties_equal_ones LengthFirst;
}
