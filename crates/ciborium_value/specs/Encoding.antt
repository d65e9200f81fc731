-- What writing puts out (RFC 8949, section 4.1; lengths: section 4.2.1).
use Rattle.std.specs.Prelude.{ℕ, ◌-◌, ◌^◌, min, ℤ, pos, negsuc, List, [], ◌∷◌, ◌++◌, length, Bool, true, false}
use Rattle.std.specs.Prelude.{if◌then◌else◌, nat_lt}
use Rattle.ciborium_ll.specs.{Head.{shortest_head, simple_bytes, open_byte, break_byte}, Item.{Item, unsigned}}
use Rattle.ciborium_ll.specs.Item.{negative, bytes, text, array, map, tag, simple, float, Items, no_items, item, Pairs}
use Rattle.ciborium_ll.specs.Item.{no_pairs, pair, items_count, pairs_count}
use Rattle.ciborium_value.specs.Tree.{Tree, Trees, TreePairs}
use Rattle.ciborium_value.specs.Tree as tree

-- ---- the item of a tree

-- major type 0 or 1 (section 3.1)
abbrev pub integer_item : ℤ → Item
integer_item (pos n) = unsigned n
integer_item (negsuc n) = negative n

-- the simple values of false and true (section 3.3)
abbrev pub boolean_item : Bool → Item
boolean_item false = simple 20
boolean_item true = simple 21

abbrev mutual
  -- every string, array and map is definite, and nothing is folded
  pub item_of : Tree → Item
  item_of (tree.integer z) = integer_item z
  item_of (tree.bytes b) = bytes false b
  item_of (tree.text b) = text false b
  item_of (tree.boolean b) = boolean_item b
  item_of tree.null = simple 22
  item_of (tree.tag t v) = tag t (item_of v)
  item_of (tree.array vs) = array false (items_of vs)
  item_of (tree.map ps) = map false (pairs_of ps)

  -- of each tree, in order
  pub items_of : Trees → Items
  items_of tree.no_trees = no_items
  items_of (tree.tree v vs) = item (item_of v) (items_of vs)

  -- of each key and value, in order
  pub pairs_of : TreePairs → Pairs
  pairs_of tree.no_tree_pairs = no_pairs
  pairs_of (tree.tree_pair k v ps) = pair (item_of k) (item_of v) (pairs_of ps)

-- ---- the bytes of an item

-- the parts of an array or map: behind the shortest head with their count, or between an open
-- initial byte and the break
abbrev pub enclosed : Bool → ℕ → ℕ → List ℕ → List ℕ
enclosed false major count r = shortest_head major count ++ r
enclosed true major count r = open_byte major ∷ (r ++ (break_byte ∷ []))

-- a string; an open one as a single part
abbrev pub written_string : Bool → ℕ → List ℕ → List ℕ
written_string false major b = shortest_head major (length b) ++ b
written_string true major b = open_byte major ∷ ((shortest_head major (length b) ++ b) ++ (break_byte ∷ []))

-- a float by its raw bytes
abbrev pub float_bytes : List ℕ → List ℕ
float_bytes raw = if nat_lt (length raw) 3 then 0xf9 ∷ raw else if nat_lt (length raw) 5 then 0xfa ∷ raw else 0xfb ∷ raw

abbrev mutual
  -- the spelling in which every head is the shortest
  pub written_bytes : Item → List ℕ
  written_bytes (unsigned n) = shortest_head 0 n
  written_bytes (negative n) = shortest_head 1 n
  written_bytes (bytes open_ b) = written_string open_ 2 b
  written_bytes (text open_ b) = written_string open_ 3 b
  written_bytes (array open_ is) = enclosed open_ 4 (items_count is) (items_bytes is)
  written_bytes (map open_ ps) = enclosed open_ 5 (pairs_count ps) (pairs_bytes ps)
  written_bytes (tag t i) = shortest_head 6 t ++ written_bytes i
  written_bytes (simple n) = simple_bytes n
  written_bytes (float raw) = float_bytes raw

  -- of each item, in order
  pub items_bytes : Items → List ℕ
  items_bytes no_items = []
  items_bytes (item i is) = written_bytes i ++ items_bytes is

  -- of each pair, a key before its value
  pub pairs_bytes : Pairs → List ℕ
  pairs_bytes no_pairs = []
  pairs_bytes (pair k v ps) = written_bytes k ++ (written_bytes v ++ pairs_bytes ps)

-- the one shortest definite encoding of a tree
abbrev pub encoding : Tree → List ℕ
encoding v = written_bytes (item_of v)

-- the length of the encoding, counted up to the greatest `u64`
abbrev pub encoded_size : Tree → ℕ
encoded_size v = min (length (encoding v)) (2 ^ 64 - 1)
