use Rattle.std.proofs.Common.{◌≡◌, ◌≤◌, length}
use Rattle.ciborium_value.specs.Tokens.{behind_comment}
use Rattle.ciborium_value.proofs.from_notation.blanks.skip_comment.Given as goal

-- the comment goes on in the rest
abbrev pub invariant-comment : goal.invariant-comment
invariant-comment l = (behind_comment l.text ≡ behind_comment l.rest) × (length l.rest ≤ length l.text)

abbrev pub decreases-comment : goal.decreases-comment
decreases-comment l = length l.rest
