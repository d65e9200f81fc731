use Rattle.cbor.proofs.OneTextAnswer.{is_form_answered, one_form_answer}
use Rattle.cbor.proofs.line_laws.form_answer.Goals as goal

pub returns : goal.returns
returns c =
    record { answered = is_form_answered; one = one_form_answer }
