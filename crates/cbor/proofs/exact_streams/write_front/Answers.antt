use Rattle.cbor.proofs.ExactlyStreamed.{front-shown}
use Rattle.cbor.proofs.exact_streams.write_front.Goals as goal

pub returns : goal.returns
returns c =
    front-shown c.args.held.now c.clear.new.self.items c.push_exact.new.text.items c.in-Ok.count c.clear.ensures.items
    c.in-Ok.ensures.shown
