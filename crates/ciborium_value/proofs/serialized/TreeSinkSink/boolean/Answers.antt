use Rattle.std.proofs.Common.{◌∙◌}
use Rattle.ciborium_value.specs.Encoding.{boolean_item}
use Rattle.ciborium_value.proofs.{Writing.TreeSinkSteps.{put_adds, boolean-tree}, Trees.Views.tree_of-Bool}
use Rattle.ciborium_value.proofs.serialized.TreeSinkSink.boolean.Goals as goal

pub returns-clause-ok : goal.returns-clause-ok
returns-clause-ok c = put_adds c.put.result c.args.self.now c.put.new.self (boolean_item c.args.boolean) _
    (tree_of-Bool c.args.boolean ∙ boolean-tree c.args.boolean) c.put.ensures.ok
