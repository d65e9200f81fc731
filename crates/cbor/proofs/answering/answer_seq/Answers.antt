use Rattle.std.proofs.lemmas.Result.{IfOk-weaker}
use Rattle.cbor.proofs.JudgedAnswers.{sequence-answers}
use Rattle.cbor.proofs.answering.answer_seq.Goals as goal

pub returns : goal.returns
returns c =
    let answers = sequence-answers c.args.line.now _ _ c.in_ok-answer_sequence.ensures in
    IfOk-weaker c.into_answer.result _ _ (λ text same. rw same answers) c.into_answer.ensures
