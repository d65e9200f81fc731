use Rattle.std.proofs.Common.{◌≡◌, length}
use Rattle.ciborium_value.specs.inner.ReadTokens.{IsReached, IsRoom, await_of, around_in}
use Rattle.ciborium_value.proofs.from_notation.read_tree.Given as goal

-- what the rest completes is what the text denotes, and no more levels are unfinished than may be
abbrev pub invariant-tokens : goal.invariant-tokens
invariant-tokens l = IsReached l.text l.limit (around_in l.levels) (await_of l.due) l.rest ×
    (l.levels.limit ≡ l.limit) × IsRoom l.limit (length (around_in l.levels)) (await_of l.due)

abbrev pub decreases-tokens : goal.decreases-tokens
decreases-tokens l = length l.rest
