use Rattle.std.proofs.Common.{◌≡◌, ◌∙◌, rules}
use Rattle.ciborium_value.specs.{Number.number_tree, Sinks.number_item, View.tree_of}
use Rattle.ciborium_value.proofs.Writing.TreeSinkSteps.{put_adds, number-tree}
use Rattle.ciborium_value.proofs.serialized.TreeSinkSink.integer.Goals as goal

pub returns-clause-ok : goal.returns-clause-ok
returns-clause-ok c =
    let same : tree_of c.in_ok-value.value ≡ number_tree c.args.number = search rules in
    put_adds c.put.result c.args.self.now c.put.new.self (number_item c.args.number) _
    (same ∙ number-tree c.args.number) c.put.ensures.ok
