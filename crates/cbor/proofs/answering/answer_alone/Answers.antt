use Rattle.std.proofs.lemmas.Result.{IfOk-weaker}
use Rattle.cbor.proofs.JudgedAnswers.{item-answers}
use Rattle.cbor.proofs.answering.answer_alone.Goals as goal

pub returns : goal.returns
returns c =
    let answers = item-answers c.args.spelling c.args.line.now c.args.limit _ _ c.in_ok-answer_item.ensures in
    IfOk-weaker c.into_answer.result _ _ (λ text same. rw same answers) c.into_answer.ensures
