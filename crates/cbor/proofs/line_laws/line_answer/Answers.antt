use Rattle.cbor.proofs.JudgedLines.{item_is_answered, refusal_is_answered, refused_means_nothing}
use Rattle.cbor.proofs.OneLineAnswer.{is_answered, one_answer}
use Rattle.cbor.proofs.line_laws.line_answer.Goals as goal

pub returns : goal.returns
returns c =
    record {
      answered = is_answered;
      one = one_answer;
      item = item_is_answered;
      refusal = refusal_is_answered;
      nothing = refused_means_nothing;
    }
