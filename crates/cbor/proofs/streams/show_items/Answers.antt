use Rattle.std.proofs.Common.{ap, ◌∙◌}
use Rattle.cbor.specs.Streams.{IsStreamShown}
use Rattle.cbor.proofs.{AnsweredLines.{begins-with, held-empty, sent-each}, StreamedItems.shown-sent}
use Rattle.cbor.proofs.streams.show_items.Goals as goal

pub returns : goal.returns
returns g c b w e f =
    let begun = begins-with (λ r. g.R.Read.remaining r.device.now) c.in-Ok.reader _ b c.in-Ok.ensures.inner
    c.in-Ok.ensures.empty c.in-Ok.ensures.capacity (ap (λ d. g.R.Read.remaining d.now) c.new.ensures ∙ e) in
    sent-each (λ all. IsStreamShown c.args.place.now c.args.showing b c.args.limit w all _)
    (λ all. IsStreamShown c.args.place.now c.args.showing b c.args.limit w all _) c.show_stream-shown.result
    (shown-sent c.args.place.now c.args.showing b c.args.limit w _ _ c.in_ok-send_lines.ensures.written)
    (c.show_stream-shown.ensures b w begun (held-empty w _ _ f c.new-waiting.ensures.items))
