use Rattle.ciborium.proofs.Writing.ByteSinks.{ends, breaks_end, ends_silently}
use Rattle.ciborium.proofs.ser.byte_sink.ByteSinkSink.end.Goals as goal

pub returns-in-Some-clause-ok : goal.returns-in-Some-clause-ok
returns-in-Some-clause-ok g c = ends_silently g.W.Write.contents c.args.self.now c.args.count c.in-Some.field-0
    c.in-Some.is

pub returns-in-None-clause-ok : goal.returns-in-None-clause-ok
returns-in-None-clause-ok g c = ends g.W.Write.contents c.args.self.now c.push.new.self c.push.ensures.same_writer
    c.push.result c.args.count (rw c.in-None.is c.push.ensures.bytes)

pub returns-in-None-clause-err : goal.returns-in-None-clause-err
returns-in-None-clause-err g c = breaks_end g.W.Write.contents c.args.self.now c.push.new.self
    c.push.ensures.same_writer c.push.result c.args.count (rw c.in-None.is c.push.ensures.bytes)
