use Rattle.ciborium.proofs.Writing.ByteSinks.{tags, breaks_tag}
use Rattle.ciborium.proofs.ser.byte_sink.ByteSinkSink.tag.Goals as goal

pub returns-clause-ok : goal.returns-clause-ok
returns-clause-ok g c = tags g.W.Write.contents c.args.self.now c.push.new.self c.push.ensures.same_writer c.push.result
    c.args.tag c.push.ensures.bytes c.ranges.tag.fits

pub returns-clause-err : goal.returns-clause-err
returns-clause-err g c = breaks_tag g.W.Write.contents c.args.self.now c.push.new.self c.push.ensures.same_writer
    c.push.result c.args.tag c.push.ensures.bytes
