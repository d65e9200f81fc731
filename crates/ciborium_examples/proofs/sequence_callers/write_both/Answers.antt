use Rattle.std.specs.declared.io.Error.{Error as IoError}
use Rattle.ciborium.specs.declared.ser.error.Error.{Error}
use Rattle.ciborium_examples.proofs.WrittenInRow.{both-written, named-appends}
use Rattle.ciborium_examples.proofs.sequence_callers.write_both.Goals as goal

pub returns : goal.returns
returns g c = both-written _ _ _ _ _ c.in_ok-into_writer.ensures.written c.in_ok-into_writer-2.ensures.written
    (named-appends (Error IoError) _ _ c.in_ok-into_writer.field-0 _ c.in_ok-into_writer.ensures.bytes)
    (named-appends (Error IoError) _ _ c.in_ok-into_writer-2.field-0 _ c.in_ok-into_writer-2.ensures.bytes)
