use Rattle.std.proofs.Common.{◌≡◌, ◌+◌, ◌∷◌, ◌≤◌, List, length}
use Rattle.ciborium_ll.specs.{ItemHeads.{levels_of, unread}, declared.levels.Level.Level}
use Rattle.cbor.{proofs.ExactNotation.AreChunksBegun, specs.Exact.chunk_level}
use Rattle.cbor.proofs.exact.push_chunks.Given as goal

-- the parts so far were shown, each of a byte at least, and the string is unfinished
abbrev pub invariant-chunks : goal.invariant-chunks
invariant-chunks l =
    AreChunksBegun l.string l.place l.initial.heads l.heads l.initial.text.items l.text.items ×
    ((around : List Level) → levels_of l.initial.heads ≡ chunk_level l.string ∷ around →
    levels_of l.heads ≡ chunk_level l.string ∷ around) ×
    (l.place + length (unread l.heads) ≤ length (unread l.initial.heads))

abbrev pub decreases-chunks : goal.decreases-chunks
decreases-chunks l = length (unread l.heads)
