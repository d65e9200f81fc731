use Rattle.std.proofs.Common.{◌≡◌, ◌-◌}
use Rattle.ciborium_ll.{proofs.OpenStrings.GoodParts, specs.Bytes.greatest_offset}
use Rattle.ciborium_ll.specs.inner.Cursors.{IsSameCursor, count_at, left_at}
use Rattle.ciborium_ll.proofs.cursor.Cursor.append_chunks.Given as goal

-- good chunks were taken, and their payloads appended
abbrev pub invariant-chunks : goal.invariant-chunks
invariant-chunks g l = record {
  same : IsSameCursor l.fn.self l.self;
  head : l.head ≡ count_at l.self;
  good : GoodParts l.string_type (left_at g.A.Access.remaining l.fn.self)
      (left_at g.A.Access.remaining l.self)
      (count_at l.fn.self) (count_at l.self) l.fn.out.items l.out.items;
}

abbrev pub decreases-chunks : goal.decreases-chunks
decreases-chunks g l = greatest_offset - count_at l.self
