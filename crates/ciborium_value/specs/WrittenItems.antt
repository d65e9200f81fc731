-- The items that typed writing writes, and what holds of their bytes (RFC 8949, sections 3.1 to 3.3
-- and 4.1).
use Rattle.std.specs.Prelude.{◌≡◌, ℕ, ◌≤◌, ◌<◌, Bool, true, false}
use Rattle.ciborium_ll.specs.{Bytes.greatest_offset, Item.{Item, unsigned, negative, bytes, text, array, map, tag}}
use Rattle.ciborium_ll.specs.Item.{simple, float, Items, no_items, item, Pairs, no_pairs, pair, items_count}
use Rattle.ciborium_ll.specs.{Item.pairs_count, ProperItems.{IsArgument, IsProperBytes, IsProperText}, Spells.Spells}
use Rattle.ciborium_value.specs.{Encoding.{item_of, written_bytes}, Folded.folded, Meaning.meaning}
use Rattle.ciborium_value.specs.{ProperTrees.IsProperTree, Tree.Tree, WrittenTrees.written_tree}

-- a count that a head announces; an open container announces none
abbrev pub IsAnnounced : Bool → ℕ → Type 0
IsAnnounced false count = count ≤ greatest_offset
IsAnnounced true count = Unit {0}

abbrev mutual
  -- strings are definite, of the simple values there are false, true and null, and there is no
  -- float; arrays and maps may be open
  pub IsWritten : Item → Type 0
  IsWritten (unsigned n) = IsArgument n
  IsWritten (negative n) = IsArgument n
  IsWritten (bytes open_ b) = (open_ ≡ false) × IsProperBytes b
  IsWritten (text open_ b) = (open_ ≡ false) × IsProperText b
  IsWritten (array open_ is) = IsAnnounced open_ (items_count is) × AreWritten is
  IsWritten (map open_ ps) = IsAnnounced open_ (pairs_count ps) × PairsAreWritten ps
  IsWritten (tag t i) = IsArgument t × IsWritten i
  IsWritten (simple n) = (20 ≤ n) × (n < 23)
  IsWritten (float raw) = ⊥

  -- each item
  pub AreWritten : Items → Type 0
  AreWritten no_items = Unit {0}
  AreWritten (item i is) = IsWritten i × AreWritten is

  -- each key and each value
  pub PairsAreWritten : Pairs → Type 0
  PairsAreWritten no_pairs = Unit {0}
  PairsAreWritten (pair k v ps) = IsWritten k × IsWritten v × PairsAreWritten ps

-- the bytes of a written item spell it
abbrev pub WrittenSpells : Type 0
WrittenSpells = (i : Item) → IsWritten i → Spells (written_bytes i) i

-- and it means the folding of its tree
abbrev pub WrittenTreeFolds : Type 0
WrittenTreeFolds = (i : Item) → IsWritten i → meaning i ≡ folded (written_tree i)

-- the tree of a tree's item is that tree
abbrev pub TreeIsWrittenAsItself : Type 0
TreeIsWrittenAsItself = (v : Tree) → written_tree (item_of v) ≡ v

-- and a tree whose item can be written is one that a program can hold
abbrev pub WrittenTreeIsProper : Type 0
WrittenTreeIsProper = (v : Tree) → IsWritten (item_of v) → IsProperTree v
