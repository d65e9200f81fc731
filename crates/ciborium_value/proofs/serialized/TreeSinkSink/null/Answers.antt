use Rattle.ciborium_ll.specs.Item.{simple}
use Rattle.ciborium_value.proofs.{Writing.TreeSinkSteps.put_adds, Trees.Views.tree_of-Null}
use Rattle.ciborium_value.proofs.serialized.TreeSinkSink.null.Goals as goal

pub returns-clause-ok : goal.returns-clause-ok
returns-clause-ok c = put_adds c.put.result c.args.self.now c.put.new.self (simple 22) _ tree_of-Null c.put.ensures.ok
