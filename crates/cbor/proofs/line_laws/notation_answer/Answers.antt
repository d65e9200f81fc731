use Rattle.cbor.proofs.OneTextAnswer.{is_notation_answered, one_notation_answer}
use Rattle.cbor.proofs.line_laws.notation_answer.Goals as goal

pub returns : goal.returns
returns c =
    record { answered = is_notation_answered; one = one_notation_answer }
