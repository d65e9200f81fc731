use Rattle.std.proofs.Common.{length}
use Rattle.ciborium_ll.specs.ItemHeads.{unread}
use Rattle.cbor.proofs.DumpedHeads.{IsDumpedSoFar}
use Rattle.cbor.proofs.dumping.push_heads.Given as goal

-- some heads were read, and their lines stand in the text
abbrev pub invariant-heads : goal.invariant-heads
invariant-heads l = IsDumpedSoFar l.bytes l.heads l.text.items

abbrev pub decreases-heads : goal.decreases-heads
decreases-heads l = length (unread l.heads)
