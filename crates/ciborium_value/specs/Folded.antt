-- The folding of bignums at every place of a tree, as reading its encoding folds them (RFC 8949,
-- section 3.4.3).
use Rattle.std.specs.Prelude.{ℕ, List, Option}
use Rattle.ciborium_value.specs.{Encoding.{item_of, items_of, pairs_of}, Meaning.{folding_bytes, items_meaning}}
use Rattle.ciborium_value.specs.{Meaning.{meaning, pairs_meaning, short_string}, Tree.{Tree, Trees, TreePairs}}

-- what the item of a tree means: none where a folding tag 3 has no meaning
abbrev pub folded : Tree → Option Tree
folded v = meaning (item_of v)

-- each tree, where each has one
abbrev pub trees_folded : Trees → Option Trees
trees_folded vs = items_meaning (items_of vs)

-- each key and value, where each has one
abbrev pub tree_pairs_folded : TreePairs → Option TreePairs
tree_pairs_folded ps = pairs_meaning (pairs_of ps)

-- the byte string of at most 16 bytes that a tree is
abbrev pub short_bytes : Tree → Option (List ℕ)
short_bytes v = short_string (item_of v)

-- the bytes over which a tag in a tree folds
abbrev pub tree_folding_bytes : ℕ → Tree → Option (List ℕ)
tree_folding_bytes t v = folding_bytes t (item_of v)
