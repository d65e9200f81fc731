use Rattle.cbor.specs.EncodedLines.{AreEncoded}
use Rattle.cbor.proofs.{AnsweredLines.{begins-with, held-empty, sent-each}, EncodedLines.encoded-still}
use Rattle.cbor.proofs.encoding.encode_lines.Goals as goal

pub returns : goal.returns
returns g c b w e f =
    let begun = begins-with (λ r. g.R.Read.remaining r.now) c.in-Ok.reader _ b c.in-Ok.ensures.inner
    c.in-Ok.ensures.empty c.in-Ok.ensures.capacity e in
    sent-each (λ all. AreEncoded c.args.limit b w all _ _) (λ all. AreEncoded c.args.limit b w all _ _)
    c.put_encodings-encoded.result
    (λ all. encoded-still c.args.limit b w all _ _ _ c.in_ok-send_waiting.ensures.written)
    (c.put_encodings-encoded.ensures b w begun (held-empty w _ _ f c.new-waiting.ensures.items))
