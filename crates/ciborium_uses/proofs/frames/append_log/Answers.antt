-- What is written message by message is written in turn.
use Rattle.std.{proofs.lemmas.Result.err_from_is_err_and, specs.declared.io.Error.{Error as IoError}}
use Rattle.ciborium.proofs.Writing.WrittenSequences.{all-out, all-written, no-part-written, none-written}
use Rattle.ciborium.proofs.Writing.WrittenSequences.{one-more-written, part-out, part-written}
use Rattle.ciborium.specs.declared.ser.error.Error.{Error}
use Rattle.ciborium_uses.proofs.frames.append_log.Goals as goal

pub loop-message-init : goal.loop-message-init
loop-message-init g c = none-written

pub loop-message-preserved : goal.loop-message-preserved
loop-message-preserved g c = one-more-written (Error IoError) c.in_ok-into_writer.field-0
    (part-written g.T.Serialize.written _ _ c.loop-message-test.true c.message-item.is c.loop-message.invariant)
    c.in_ok-into_writer.ensures.bytes c.in_ok-into_writer.ensures.written

pub returns-in_err-into_writer-clause-bytes : goal.returns-in_err-into_writer-clause-bytes
returns-in_err-into_writer-clause-bytes g c =
    let exit = err_from_is_err_and c.from_residual.result c.from_residual.ensures.1 in
    rw (exit.1, exit.2) (part-out (Error IoError) _ c.in_err-into_writer.field-0.0
    (part-written g.T.Serialize.written _ _ c.loop-message-test.true c.message-item.is c.loop-message.invariant)
    c.in_err-into_writer.ensures.bytes)

pub returns : goal.returns
returns g c =
    let all = no-part-written g.T.Serialize.written _ _ c.loop-message-test.false c.loop-message.invariant in
    record { bytes = all-out (Error IoError) tt all; written = all-written all }
