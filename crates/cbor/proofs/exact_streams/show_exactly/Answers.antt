use Rattle.std.proofs.Common.{ap, ◌∙◌}
use Rattle.cbor.specs.ExactStreams.{IsShownExactly}
use Rattle.cbor.proofs.{AnsweredLines.{begins-with, held-empty, sent-each}, ExactlyStreamed.shown-still}
use Rattle.cbor.proofs.exact_streams.show_exactly.Goals as goal

pub returns : goal.returns
returns g c b w e f =
    let begun = begins-with (λ r. g.R.Read.remaining r.device.now) c.in-Ok.reader _ b c.in-Ok.ensures.inner
    c.in-Ok.ensures.empty c.in-Ok.ensures.capacity (ap (λ d. g.R.Read.remaining d.now) c.new.ensures ∙ e) in
    sent-each (λ all. IsShownExactly c.args.place.now b w all _) (λ all. IsShownExactly c.args.place.now b w all _)
    c.show_stream-shown.result (shown-still c.args.place.now b w _ _ c.in_ok-send_lines.ensures.written)
    (c.show_stream-shown.ensures b w begun (held-empty w _ _ f c.new-waiting.ensures.items))
