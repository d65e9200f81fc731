-- A sequence is written value by value.
use Rattle.ciborium_value.{proofs.Writing.Progress.exits, specs.Progress.IsOwedAmong}
use Rattle.ciborium.proofs.{Exits.passed_on, Writing.WrittenSequences.{all-out, all-written, no-part-written}}
use Rattle.ciborium.proofs.Writing.WrittenSequences.{none-written, owed-among, one-more-written, part-out, part-written}
use Rattle.ciborium.specs.{Writes.cause_of, declared.ser.error.Error.Error}
use Rattle.std.proofs.Common.{map}
use Rattle.std.specs.declared.io.Error.{Error as IoError}
use Rattle.ciborium.proofs.ser.sequence.write_sequence.Goals as goal

pub loop-value-init : goal.loop-value-init
loop-value-init g c = none-written

pub loop-value-preserved : goal.loop-value-preserved
loop-value-preserved g c = one-more-written (Error IoError) c.in_ok-into_writer.field-0
    (part-written g.T.Serialize.written _ _ c.loop-value-test.true c.value-item.is c.loop-value.invariant)
    c.in_ok-into_writer.ensures.bytes c.in_ok-into_writer.ensures.written

pub returns-in_err-into_writer-clause-bytes : goal.returns-in_err-into_writer-clause-bytes
returns-in_err-into_writer-clause-bytes g c =
    rw (passed_on c.from_residual.result _ c.from_residual.ensures.1)
    (part-out (Error IoError) _ c.in_err-into_writer.field-0.0
    (part-written g.T.Serialize.written _ _ c.loop-value-test.true c.value-item.is c.loop-value.invariant)
    c.in_err-into_writer.ensures.bytes)

pub returns-in_err-into_writer-clause-refused : goal.returns-in_err-into_writer-clause-refused
returns-in_err-into_writer-clause-refused g c =
    exits _ c.in_err-into_writer.field-0.0
    (λ e. IsOwedAmong (cause_of e) (map g.T.Serialize.written c.args.values.now)) c.from_residual.ensures.1
    (owed-among _ (part-written g.T.Serialize.written _ _ c.loop-value-test.true c.value-item.is c.loop-value.invariant)
    c.in_err-into_writer.ensures.refused)

pub returns-clause-bytes : goal.returns-clause-bytes
returns-clause-bytes g c = all-out (Error IoError) tt
    (no-part-written g.T.Serialize.written _ _ c.loop-value-test.false c.loop-value.invariant)

pub returns-clause-written : goal.returns-clause-written
returns-clause-written g c =
    all-written (no-part-written g.T.Serialize.written _ _ c.loop-value-test.false c.loop-value.invariant)
