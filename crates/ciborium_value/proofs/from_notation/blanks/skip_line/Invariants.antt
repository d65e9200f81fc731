use Rattle.std.proofs.Common.{◌≡◌, ◌≤◌, length}
use Rattle.ciborium_value.specs.Tokens.{behind_line}
use Rattle.ciborium_value.proofs.from_notation.blanks.skip_line.Given as goal

-- the comment goes on in the rest
abbrev pub invariant-line : goal.invariant-line
invariant-line l = (behind_line l.text ≡ behind_line l.rest) × (length l.rest ≤ length l.text)

abbrev pub decreases-line : goal.decreases-line
decreases-line l = length l.rest
