use Rattle.cbor.proofs.{AnsweredLines.held-empty, WrittenLines.sent-lines}
use Rattle.cbor.proofs.sorting.write_values.Goals as goal

pub returns : goal.returns
returns g c w f = sent-lines c.args.values.now w _ _ c.put_values-put.result
    (c.put_values-put.ensures w (held-empty w _ _ f c.new-waiting.ensures.items)) c.in_ok-send_waiting.ensures.written
