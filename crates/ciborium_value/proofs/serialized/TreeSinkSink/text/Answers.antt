use Rattle.std.proofs.Common.{false}
use Rattle.ciborium_ll.specs.Item.{text}
use Rattle.ciborium_value.proofs.Writing.TreeSinkSteps.{put_adds}
use Rattle.ciborium_value.proofs.serialized.TreeSinkSink.text.Goals as goal

pub returns-clause-ok : goal.returns-clause-ok
returns-clause-ok c = put_adds c.put.result c.args.self.now c.put.new.self (text false c.args.text.now) _
    c.in_ok-value.ensures.text c.put.ensures.ok
