use Rattle.std.proofs.Common.{false, rules}
use Rattle.ciborium_ll.specs.Item.{bytes}
use Rattle.ciborium.proofs.Writing.ByteSinks.{adds, breaks}
use Rattle.ciborium.proofs.ser.byte_sink.ByteSinkSink.bytes.Goals as goal

pub returns-clause-ok : goal.returns-clause-ok
returns-clause-ok g c = adds g.W.Write.contents c.args.self.now c.write_string.new.self
    c.write_string.ensures.same_writer c.write_string.result (bytes false c.args.bytes.now) c.write_string.ensures.bytes
    (search rules)

pub returns-clause-err : goal.returns-clause-err
returns-clause-err g c = breaks g.W.Write.contents c.args.self.now c.write_string.new.self
    c.write_string.ensures.same_writer c.write_string.result (bytes false c.args.bytes.now) c.write_string.ensures.bytes
