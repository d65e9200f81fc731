use Rattle.std.proofs.{Common.arith, lemmas.Grind.common_steps}
use Rattle.ciborium.proofs.{Writing.WritingSteps.{Writes-after, OnOk-always}, Writing.ByteSinks.fitting_bytes}
use Rattle.ciborium.proofs.ser.byte_sink.ByteSink.write_string.Goals as goal

pub returns-clause-bytes : goal.returns-clause-bytes
returns-clause-bytes g c = Writes-after _ _ _ _ _ _ c.in_ok-push.ensures.bytes c.write_all.ensures.bytes

pub returns-clause-payload : goal.returns-clause-payload
returns-clause-payload g c = OnOk-always _ _ (fitting_bytes _ c.type_inv.payload)

pub returns-in_err-push-clause-bytes : goal.returns-in_err-push-clause-bytes
returns-in_err-push-clause-bytes g c = grind (arith, common_steps)
