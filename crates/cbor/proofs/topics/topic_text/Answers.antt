use Rattle.std.proofs.Common.{refl}
use Rattle.cbor.proofs.topics.topic_text.Goals as goal

pub returns-in-Help : goal.returns-in-Help
returns-in-Help c = rw c.in-Help.is refl
