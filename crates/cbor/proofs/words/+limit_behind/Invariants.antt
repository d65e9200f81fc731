use Rattle.std.proofs.Common.{length}
use Rattle.cbor.proofs.words.+limit_behind.Given as goal

-- proposed from what the function passes where it calls itself
abbrev pub decreases-limit_behind : goal.decreases-limit_behind
decreases-limit_behind l = length l.words.now
