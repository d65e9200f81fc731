use Rattle.std.proofs.Common.{lit<, lit≤}
use Rattle.ciborium_ll.specs.Item.{simple}
use Rattle.ciborium_value.specs.WrittenItems.{IsWritten}
use Rattle.ciborium.proofs.{Writing.ByteSinks.{adds, breaks}, Writing.WritingSteps.OnOk-always}
use Rattle.ciborium.proofs.ser.byte_sink.ByteSinkSink.null.Goals as goal

pub returns-clause-ok : goal.returns-clause-ok
returns-clause-ok g c = adds g.W.Write.contents c.args.self.now c.push.new.self c.push.ensures.same_writer c.push.result
    (simple 22) c.push.ensures.bytes (OnOk-always _ (IsWritten (simple 22)) (lit≤ tt, lit< tt))

pub returns-clause-err : goal.returns-clause-err
returns-clause-err g c = breaks g.W.Write.contents c.args.self.now c.push.new.self c.push.ensures.same_writer
    c.push.result (simple 22) c.push.ensures.bytes
