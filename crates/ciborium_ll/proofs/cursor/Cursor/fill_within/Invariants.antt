use Rattle.std.{proofs.Common.{length, take, ◌+◌, ◌-◌, ◌≡◌, ◌≤◌}, specs.Io.KnownBytes.Consumes}
use Rattle.ciborium_ll.specs.{Bytes.AreBytes, inner.Cursors.{IsSameCursor, count_at, left_at}}
use Rattle.ciborium_ll.proofs.cursor.Cursor.fill_within.Given as goal

-- the bytes taken stand at the front of the buffer
abbrev pub invariant-loop-filled : goal.invariant-loop-filled
invariant-loop-filled g l = record {
  same : IsSameCursor l.fn.self l.self;
  within : l.filled ≤ length l.buffer;
  counted : count_at l.self ≡ count_at l.fn.self + l.filled;
  taken : Consumes (left_at g.A.Access.remaining l.fn.self) (left_at g.A.Access.remaining l.self)
      (take l.filled l.buffer);
  bytes : AreBytes (take l.filled l.buffer);
}

abbrev pub decreases-loop-filled : goal.decreases-loop-filled
decreases-loop-filled g l = length l.initial.buffer - l.filled
