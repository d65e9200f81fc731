use Rattle.ciborium_value.specs.{Encoding.encoding, View.tree_of}
use Rattle.ciborium_value.proofs.{Orders.SideBySide.{decided_alone, equal_where_same}, Orders.VisitCounts.one_walk-all}
use Rattle.ciborium_value.proofs.canonical.cmp_bytewise_counted.Goals as goal

pub returns-clause-order : goal.returns-clause-order
returns-clause-order c = decided_alone c.compare-order.result (encoding (tree_of c.args.left.now))
    (encoding (tree_of c.args.right.now)) c.compare-order.ensures.decides

pub returns-clause-once_where_equal : goal.returns-clause-once_where_equal
returns-clause-once_where_equal c e =
    one_walk-all _ _ _ _ c.compare-order.ensures.visits (equal_where_same _ _ _ c.compare-order.ensures.decides e)
