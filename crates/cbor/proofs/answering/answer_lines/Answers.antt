use Rattle.cbor.{proofs.AnsweredLines.{answered-still, begins-with, held-empty, sent-each}, specs.Lines.AreAnswered}
use Rattle.cbor.proofs.answering.answer_lines.Goals as goal

pub returns : goal.returns
returns g c b w e f =
    let begun = begins-with (λ r. g.R.Read.remaining r.now) c.in-Ok.reader _ b c.in-Ok.ensures.inner
    c.in-Ok.ensures.empty c.in-Ok.ensures.capacity e in
    sent-each (λ all. AreAnswered c.args.reading b w all _) (λ all. AreAnswered c.args.reading b w all _)
    c.put_answers-answered.result
    (λ all. answered-still c.args.reading b w all _ _ c.in_ok-send_waiting.ensures.written)
    (c.put_answers-answered.ensures b w begun (held-empty w _ _ f c.new-waiting.ensures.items))
