use Rattle.std.proofs.Common.{false, rules}
use Rattle.ciborium_ll.specs.Item.{text}
use Rattle.ciborium.proofs.Writing.ByteSinks.{adds, breaks}
use Rattle.ciborium.proofs.ser.byte_sink.ByteSinkSink.text.Goals as goal

pub returns-clause-ok : goal.returns-clause-ok
returns-clause-ok g c = adds g.W.Write.contents c.args.self.now c.write_string.new.self
    c.write_string.ensures.same_writer c.write_string.result (text false c.args.text.now) (search rules) (search rules)

pub returns-clause-err : goal.returns-clause-err
returns-clause-err g c = breaks g.W.Write.contents c.args.self.now c.write_string.new.self
    c.write_string.ensures.same_writer c.write_string.result (text false c.args.text.now) (search rules)
