use Rattle.ciborium_uses.proofs.WholeMessages.{one-envelope}
use Rattle.ciborium_uses.proofs.envelopes.one_envelope.Goals as goal

pub returns : goal.returns
returns c = one-envelope
