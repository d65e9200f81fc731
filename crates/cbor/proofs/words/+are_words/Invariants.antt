use Rattle.std.proofs.Common.{length}
use Rattle.cbor.proofs.words.+are_words.Given as goal

-- proposed from what the function passes where it calls itself
abbrev pub decreases-are_words : goal.decreases-are_words
decreases-are_words l = length l.words.now
