use Rattle.std.proofs.Common.{◌≡◌, ◌+◌, ◌<◌, ◌≤◌, ◌++◌, length}
use Rattle.ciborium_ll.specs.{Bytes.greatest_offset, inner.Cursors.{IsSameCursor, Moves, count_at}}
use Rattle.ciborium_ll.proofs.cursor.Cursor.append_pieces.Given as goal

-- what was taken was appended, and with what is left it makes n
abbrev pub invariant-loop-left : goal.invariant-loop-left
invariant-loop-left g l = record {
  same : IsSameCursor l.fn.self l.self;
  room : 0 < length l.scratch;
  below : count_at l.self + l.left ≤ greatest_offset;
  taken : Moves g.A.Access.remaining l.fn.self l.self (λ b. (l.out.items ≡ l.fn.out.items ++ b) ×
      (length b + l.left ≡ l.n));
}

abbrev pub decreases-loop-left : goal.decreases-loop-left
decreases-loop-left g l = l.left
