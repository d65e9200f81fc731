use Rattle.std.proofs.Common.{◌≡◌, ◌+◌, length}
use Rattle.ciborium_value.specs.Tokens.{behind}
use Rattle.ciborium_value.proofs.from_notation.tokens.skip_word.Given as goal

-- what is wanted stands in the rest
abbrev pub invariant-bytes : goal.invariant-bytes
invariant-bytes l = (behind l.word l.text ≡ behind l.wanted l.rest) ×
    (length l.rest + length l.word ≡ length l.text + length l.wanted)

abbrev pub decreases-bytes : goal.decreases-bytes
decreases-bytes l = length l.rest
