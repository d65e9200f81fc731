use Rattle.std.proofs.Common.{inr, refl}
use Rattle.cbor.{proofs.AnsweredLines.line-held, specs.Lines.memory_text}
use Rattle.cbor.proofs.answering.write_answer.Goals as goal

pub returns-in_ok-put_text-in-Ok-2 : goal.returns-in_ok-put_text-in-Ok-2
returns-in_ok-put_text-in-Ok-2 g c w e =
    line-held c.args.reading c.args.line.now c.in-Ok.is_ok c.answer_reading.new.buffers.text.items _ w _ _ _
    c.in-Ok.ensures refl (rw c.deref.ensures.value at c.in_ok-put_text-in-Ok.ensures) c.in_ok-put_text-in-Ok-2.ensures e

pub returns-in_ok-put_text-in-Err : goal.returns-in_ok-put_text-in-Err
returns-in_ok-put_text-in-Err g c w e = (memory_text, inr (refl, refl), c.in_ok-put_text-in-Err.ensures w e)
