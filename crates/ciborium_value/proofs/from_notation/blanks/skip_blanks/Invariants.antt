use Rattle.std.proofs.Common.{◌≡◌, ◌≤◌, length}
use Rattle.ciborium_value.specs.Tokens.{behind_blanks}
use Rattle.ciborium_value.proofs.from_notation.blanks.skip_blanks.Given as goal

-- blanks may stand in the rest
abbrev pub invariant-blanks : goal.invariant-blanks
invariant-blanks l = (behind_blanks l.text ≡ behind_blanks l.rest) × (length l.rest ≤ length l.text)

abbrev pub decreases-blanks : goal.decreases-blanks
decreases-blanks l = length l.rest
