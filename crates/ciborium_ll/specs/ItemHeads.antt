-- What a reader of an item's heads has read, and what it answers next (RFC 8949, section 3).
use Rattle.std.specs.Prelude.{◌≡◌, ℕ, ◌-◌, ◌≤◌, List, [], ◌++◌, length, take, drop, Option, Some, None, Result, Ok, Err}
use Rattle.ciborium_ll.specs.{declared.item_heads.ItemHead.ItemHead, declared.item_heads.ItemHeads.ItemHeads}
use Rattle.ciborium_ll.specs.{declared.item_heads.NoItem.NoItem, declared.item_heads.NoItem.TheVariants.Incomplete}
use Rattle.ciborium_ll.specs.{declared.item_heads.NoItem.TheVariants.{Malformed, TooDeep}, declared.levels.Level.Level}
use Rattle.ciborium_ll.specs.{Header.SpellsHeader, ItemLengths.{EndInside, IsNoItem}, Levels.{AreItem, AreLeftBehind}}
use Rattle.ciborium_ll.specs.{Levels.{IsPayloadOf, behind_head, incomplete}, inner.KeptLevels.levels_in}

-- what was read, and what is unread
abbrev pub was_read : ItemHeads → List ℕ
was_read heads = take heads.offset heads.bytes.now

abbrev pub unread : ItemHeads → List ℕ
unread heads = drop heads.offset heads.bytes.now

-- the levels that are unfinished, the innermost first
abbrev pub levels_of : ItemHeads → List Level
levels_of heads = levels_in heads.levels

-- what was read is the beginning of an item, or all of one where no level is unfinished
pub record HasRead (heads : ItemHeads) : Type 0 where
  pub within : heads.offset ≤ length heads.bytes.now
  pub levels : AreLeftBehind (was_read heads) (levels_of heads)
  pub incomplete : incomplete (levels_of heads) ≡ levels_of heads

-- this head was read, which stood at the front of what was unread, with its payload
pub record IsHeadRead (old new : ItemHeads) (head : ItemHead) : Type 0 where
  pub same : new.bytes.now ≡ old.bytes.now
  pub spelled : SpellsHeader head.bytes.now head.header
  pub payload : IsPayloadOf head.header head.payload.now
  pub front : unread old ≡ head.bytes.now ++ (head.payload.now ++ unread new)
  pub offset : head.offset ≡ old.offset
  pub depth : head.depth ≡ length (levels_of old) - 1
  pub levels : (more : List Level) × (behind_head head.header (levels_of old) ≡ Some more) ×
      (levels_of new ≡ incomplete more)

-- the reason shows right behind what was read
abbrev pub ShowsAt : ItemHeads → NoItem → Type 0
ShowsAt heads Incomplete = EndInside (unread heads)
ShowsAt heads (Malformed p) = p ≡ heads.offset
ShowsAt heads (TooDeep p) = p ≡ heads.offset

-- the next head is answered so: none where what was read is an item
abbrev pub IsNext : ItemHeads → ItemHeads → Result (Option ItemHead) NoItem → Type 0
IsNext old new (Ok None) = AreItem (was_read old) × (levels_of old ≡ []) × (new ≡ old)
IsNext old new (Ok (Some head)) = HasRead new × IsHeadRead old new head
IsNext old new (Err e) = IsNoItem old.bytes.now e × ShowsAt old e
