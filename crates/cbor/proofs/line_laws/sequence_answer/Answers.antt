use Rattle.cbor.proofs.OneSequenceAnswer.{is_sequence_answered, one_sequence_answer}
use Rattle.cbor.proofs.line_laws.sequence_answer.Goals as goal

pub returns : goal.returns
returns c =
    record { answered = is_sequence_answered; one = one_sequence_answer }
