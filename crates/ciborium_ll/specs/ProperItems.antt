-- Items that memory can hold: the numbers of a head are below 2^64, and no length or count passes
-- the greatest `usize`.
use Rattle.std.specs.Prelude.{◌≡◌, ℕ, ◌^◌, ◌<◌, ◌≤◌, ◌⊎◌, List, length, IsUtf8}
use Rattle.ciborium_ll.specs.{Bytes.{AreBytes, greatest_offset}, Item.{Item, unsigned, negative, bytes, text, array}}
use Rattle.ciborium_ll.specs.Item.{map, tag, simple, float, Items, no_items, item, Pairs, no_pairs, pair, items_count}
use Rattle.ciborium_ll.specs.Item.{pairs_count}

-- a number that a head holds (RFC 8949, section 3)
abbrev pub IsArgument : ℕ → Type 0
IsArgument n = n < 2 ^ 64

-- a byte string that fits into memory
abbrev pub IsProperBytes : List ℕ → Type 0
IsProperBytes b = AreBytes b × (length b ≤ greatest_offset)

-- a text that fits into memory, by the bytes of its UTF-8
abbrev pub IsProperText : List ℕ → Type 0
IsProperText b = IsUtf8 b × IsProperBytes b

abbrev mutual
  -- an item that memory can hold (section 3)
  pub IsProperItem : Item → Type 0
  IsProperItem (unsigned n) = IsArgument n
  IsProperItem (negative n) = IsArgument n
  IsProperItem (bytes open_ b) = IsProperBytes b
  IsProperItem (text open_ b) = IsProperText b
  IsProperItem (array open_ is) = (items_count is ≤ greatest_offset) × AreProperItems is
  IsProperItem (map open_ ps) = (pairs_count ps ≤ greatest_offset) × AreProperPairs ps
  IsProperItem (tag n i) = IsArgument n × IsProperItem i
  IsProperItem (simple n) = (n < 24) ⊎ ((32 ≤ n) × (n < 256))
  IsProperItem (float raw) = AreBytes raw × ((length raw ≡ 2) ⊎ (length raw ≡ 4) ⊎ (length raw ≡ 8))

  -- each item
  pub AreProperItems : Items → Type 0
  AreProperItems no_items = Unit {0}
  AreProperItems (item i is) = IsProperItem i × AreProperItems is

  -- each key and each value
  pub AreProperPairs : Pairs → Type 0
  AreProperPairs no_pairs = Unit {0}
  AreProperPairs (pair k v ps) = IsProperItem k × IsProperItem v × AreProperPairs ps
