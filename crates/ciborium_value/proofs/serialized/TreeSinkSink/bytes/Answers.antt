use Rattle.std.proofs.Common.{false}
use Rattle.ciborium_ll.specs.Item.{bytes}
use Rattle.ciborium_value.proofs.Writing.TreeSinkSteps.{put_adds}
use Rattle.ciborium_value.proofs.serialized.TreeSinkSink.bytes.Goals as goal

pub returns-clause-ok : goal.returns-clause-ok
returns-clause-ok c = put_adds c.put.result c.args.self.now c.put.new.self (bytes false c.args.bytes.now) _
    c.in_ok-value.ensures.bytes c.put.ensures.ok
