use Rattle.std.proofs.Common.{rules, subst}
use Rattle.ciborium_value.specs.{Encoding.boolean_item, WrittenItems.IsWritten}
use Rattle.ciborium.{proofs.Writing.{ByteSinks.{adds_as, breaks_as}, WritingSteps.OnOk-always}, specs.Writes.PutsOut}
use Rattle.ciborium.proofs.ser.byte_sink.ByteSinkSink.boolean.Goals as goal

pub returns-clause-ok : goal.returns-clause-ok
returns-clause-ok g c =
    let bytes = subst (PutsOut g.W.Write.contents c.args.self.now c.push.new.self c.push.result)
    c.boolean_head.ensures.head c.push.ensures.bytes in
    adds_as g.W.Write.contents c.args.self.now c.push.new.self c.push.ensures.same_writer c.push.result
    (boolean_item c.args.boolean) _ bytes (OnOk-always _ (IsWritten (boolean_item c.args.boolean))
    c.boolean_head.ensures.written) (search rules)

pub returns-clause-err : goal.returns-clause-err
returns-clause-err g c =
    let bytes = subst (PutsOut g.W.Write.contents c.args.self.now c.push.new.self c.push.result)
    c.boolean_head.ensures.head c.push.ensures.bytes in
    breaks_as g.W.Write.contents c.args.self.now c.push.new.self c.push.ensures.same_writer c.push.result
    (boolean_item c.args.boolean) _ bytes (search rules)
