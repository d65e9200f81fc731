use Rattle.std.proofs.Common.{◌≡◌, ◌+◌, ◌++◌, List, ℕ, length}
use Rattle.ciborium_ll.specs.Bytes.{AreBytes}
use Rattle.ciborium.specs.{inner.ByteSources.{IsUnread, KeepsSource}, inner.StringContents.digits_of}
use Rattle.ciborium.proofs.de.byte_source.ByteSource.read_digits.Given as goal

abbrev pub invariant-loop-left : goal.invariant-loop-left
invariant-loop-left g l = record {
  kept : KeepsSource g.A.Access.remaining l.fn.self l.self;
  took : (y : List ℕ) → IsUnread g.A.Access.remaining l.fn.self y → (c : List ℕ) × (z : List ℕ) ×
      (length c + l.left ≡ l.len) × AreBytes c × (l.number ≡ digits_of l.fn.start c) × (y ≡ c ++ z) ×
      IsUnread g.A.Access.remaining l.self z;
}

abbrev pub decreases-loop-left : goal.decreases-loop-left
decreases-loop-left g l = l.left
