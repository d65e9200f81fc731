use Rattle.std.proofs.Common.{◌≡◌, length}
use Rattle.ciborium_ll.specs.ItemHeads.{HasRead, unread}
use Rattle.ciborium_ll.proofs.item_heads.item_len.Given as goal

-- some heads of these bytes were read
abbrev pub invariant-loop : goal.invariant-loop
invariant-loop l = record {
  same : l.heads.bytes.now ≡ l.bytes;
  read : HasRead l.heads;
}

abbrev pub decreases-loop : goal.decreases-loop
decreases-loop l = length (unread l.heads)
