use Rattle.std.proofs.Common.{rules}
use Rattle.ciborium_value.specs.{Encoding.integer_item, Sinks.{bignum_item, number_item}}
use Rattle.ciborium.proofs.Writing.ByteSinks.{adds_as, breaks_as}
use Rattle.ciborium.proofs.ser.byte_sink.ByteSinkSink.integer.Goals as goal

pub returns-in-Ok-clause-ok : goal.returns-in-Ok-clause-ok
returns-in-Ok-clause-ok g c = adds_as g.W.Write.contents c.args.self.now c.write_integer.new.self
    c.write_integer.ensures.same_writer c.write_integer.result (integer_item c.in-Ok.number) (number_item c.args.number)
    c.write_integer.ensures.bytes c.write_integer.ensures.written (search rules)

pub returns-in-Ok-clause-err : goal.returns-in-Ok-clause-err
returns-in-Ok-clause-err g c = breaks_as g.W.Write.contents c.args.self.now c.write_integer.new.self
    c.write_integer.ensures.same_writer c.write_integer.result (integer_item c.in-Ok.number) (number_item c.args.number)
    c.write_integer.ensures.bytes (search rules)

pub returns-in-Err-clause-ok : goal.returns-in-Err-clause-ok
returns-in-Err-clause-ok g c = adds_as g.W.Write.contents c.args.self.now c.write_bignum.new.self
    c.write_bignum.ensures.same_writer c.write_bignum.result (bignum_item _ _) (number_item c.args.number)
    c.write_bignum.ensures.bytes c.write_bignum.ensures.written (search rules)

pub returns-in-Err-clause-err : goal.returns-in-Err-clause-err
returns-in-Err-clause-err g c = breaks_as g.W.Write.contents c.args.self.now c.write_bignum.new.self
    c.write_bignum.ensures.same_writer c.write_bignum.result (bignum_item _ _) (number_item c.args.number)
    c.write_bignum.ensures.bytes (search rules)

pub returns-in-Err-2-clause-ok : goal.returns-in-Err-2-clause-ok
returns-in-Err-2-clause-ok g c = adds_as g.W.Write.contents c.args.self.now c.write_bignum-in-Err-2.new.self
    c.write_bignum-in-Err-2.ensures.same_writer c.write_bignum-in-Err-2.result (bignum_item _ _)
    (number_item c.args.number) c.write_bignum-in-Err-2.ensures.bytes c.write_bignum-in-Err-2.ensures.written
    (search rules)

pub returns-in-Err-2-clause-err : goal.returns-in-Err-2-clause-err
returns-in-Err-2-clause-err g c = breaks_as g.W.Write.contents c.args.self.now c.write_bignum-in-Err-2.new.self
    c.write_bignum-in-Err-2.ensures.same_writer c.write_bignum-in-Err-2.result (bignum_item _ _)
    (number_item c.args.number) c.write_bignum-in-Err-2.ensures.bytes (search rules)
