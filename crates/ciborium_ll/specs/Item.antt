-- Data items (RFC 8949, sections 3.1 to 3.3). The flag says that an item is open: it has no length,
-- and a break ends it.
use Rattle.std.specs.Prelude.{ℕ, suc, List, Bool}

mutual
  pub data Item : Type 0 where
    -- the number n
    unsigned : ℕ → Item
    -- the number -1 - n
    negative : ℕ → Item
    -- a byte string; an open one holds its chunks joined
    bytes : Bool → List ℕ → Item
    -- a text by the bytes of its UTF-8; an open one holds its chunks joined
    text : Bool → List ℕ → Item
    array : Bool → Items → Item
    map : Bool → Pairs → Item
    tag : ℕ → Item → Item
    -- a simple value: false is 20, true 21, null 22, undefined 23
    simple : ℕ → Item
    -- its raw bytes
    float : List ℕ → Item

  pub data Items : Type 0 where
    no_items : Items
    item : Item → Items → Items

  -- a key, its value, and the pairs after them
  pub data Pairs : Type 0 where
    no_pairs : Pairs
    pair : Item → Item → Pairs → Pairs

-- how many items
abbrev pub items_count : Items → ℕ
items_count no_items = 0
items_count (item i is) = suc (items_count is)

-- how many pairs
abbrev pub pairs_count : Pairs → ℕ
pairs_count no_pairs = 0
pairs_count (pair k v ps) = suc (pairs_count ps)
