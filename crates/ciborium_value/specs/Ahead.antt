-- Where a source stands: before an item or after one, and what follows in the containers that are
-- unfinished around it.
use Rattle.std.specs.{Prelude.{ℕ, Bool, true, false, List}, Borrow.GName}
use Rattle.ciborium_ll.specs.Item.{Item}
use Rattle.ciborium_value.specs.{Nesting.Limit, Given.deeper_if}

-- how the parts of a container come: so many, up to a break, or as the bytes of a byte string
pub data Span : Type 0 where
  counted : Span
  until_break : Span
  of_bytes : Span

-- what follows an item
pub data Rest : Type 0 where
  -- what the reader of this name has left, from this offset on
  bottom : GName × ℕ → List ℕ → Rest
  -- the items left of an array or byte string
  parts : Span → List Item → Rest → Rest
  -- the pairs left of a map: a key or the end is due
  pairs : Span → List (Item × Item) → Rest → Rest
  -- a value is due, and then these pairs
  entry : Item → Span → List (Item × Item) → Rest → Rest
  -- a level is to be given back: that of a tag or a variant
  level_due : Rest → Rest

-- the offset at which the outermost item ends
abbrev pub end_of : Rest → ℕ
end_of (bottom reader b) = reader.1
end_of (parts span is f) = end_of f
end_of (pairs span ps f) = end_of f
end_of (entry v span ps f) = end_of f
end_of (level_due f) = end_of f

-- a source stands before an item, or after one
pub data Ahead : Type 0 where
  item : Item → Rest → Ahead
  after : Rest → Ahead

-- where it stands once an item was read: before the value that is due, if one is
abbrev pub past : Rest → Ahead
past (bottom reader b) = after (bottom reader b)
past (parts span is f) = after (parts span is f)
past (pairs span ps f) = after (pairs span ps f)
past (entry v span ps f) = item v (pairs span ps f)
past (level_due f) = after (level_due f)

-- whether a container of this span takes a level: a byte string takes none
abbrev pub takes_level : Span → Bool
takes_level counted = true
takes_level until_break = true
takes_level of_bytes = false

-- the levels left inside it
abbrev pub inside : Span → Limit → Limit
inside span l = deeper_if (takes_level span) l
