use Rattle.ciborium_uses.proofs.WholeMessages.{spelled-is-read}
use Rattle.ciborium_uses.proofs.envelopes.spelled_is_read.Goals as goal

pub returns : goal.returns
returns c = spelled-is-read
