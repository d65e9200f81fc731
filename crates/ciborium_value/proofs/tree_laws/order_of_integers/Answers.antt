use Rattle.ciborium_value.proofs.Orders.OrderedIntegers.{integers_as_trees}
use Rattle.ciborium_value.proofs.tree_laws.order_of_integers.Goals as goal

pub returns : goal.returns
returns c = integers_as_trees
