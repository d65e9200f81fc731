use Rattle.std.proofs.Common.{◌∙◌, pos}
use Rattle.ciborium_value.{proofs.Writing.TreeSinkSteps.{put_adds, number-tree}, specs.Sinks.number_item}
use Rattle.ciborium_value.proofs.serialized.TreeSinkSink.unsigned.Goals as goal

pub returns-clause-ok : goal.returns-clause-ok
returns-clause-ok c = put_adds c.put.result c.args.self.now c.put.new.self (number_item (pos c.args.number)) _
    (c.in_ok-value.ensures.number ∙ number-tree (pos c.args.number)) c.put.ensures.ok
