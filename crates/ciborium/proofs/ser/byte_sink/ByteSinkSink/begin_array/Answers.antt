use Rattle.std.proofs.Common.{rules}
use Rattle.ciborium_value.specs.Places.{an_array}
use Rattle.ciborium.proofs.Writing.ByteSinks.{begins, breaks_begin}
use Rattle.ciborium.proofs.ser.byte_sink.ByteSinkSink.begin_array.Goals as goal

pub returns-clause-ok : goal.returns-clause-ok
returns-clause-ok g c = begins g.W.Write.contents c.args.self.now c.push.new.self c.push.ensures.same_writer
    c.push.result an_array c.args.items c.push.ensures.bytes (search rules)

pub returns-clause-err : goal.returns-clause-err
returns-clause-err g c = breaks_begin g.W.Write.contents c.args.self.now c.push.new.self c.push.ensures.same_writer
    c.push.result an_array c.args.items c.push.ensures.bytes
