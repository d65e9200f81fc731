use Rattle.std.proofs.Common.{◌≡◌, ◌+◌, length, take}
use Rattle.ciborium_value.specs.inner.EncodedLists.{encodings, pair_encodings}
use Rattle.ciborium_value.proofs.canonical.+spend.Given as goal

-- the room held the items so far
abbrev pub invariant-spend_items-loop-item : goal.invariant-spend_items-loop-item
invariant-spend_items-loop-item l = l.left + length (encodings (take l.item-index l.item-items)) ≡ l.fn.room

-- the room held the pairs so far
abbrev pub invariant-spend_pairs-loop-pair : goal.invariant-spend_pairs-loop-pair
invariant-spend_pairs-loop-pair l = l.left + length (pair_encodings (take l.pair-index l.pair-items)) ≡ l.fn.room
