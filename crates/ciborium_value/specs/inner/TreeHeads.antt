-- The head of a tree's encoding, and what stands behind it (RFC 8949, section 3).
use Rattle.std.specs.{Prelude.{ℕ, pos, negsuc, List, [], length, true, false}, declared.cmp.Ordering.Ordering}
use Rattle.std.specs.Ordering.{nat_cmp, then_cmp, on}
use Rattle.ciborium_value.specs.{Counts.{trees_count, tree_pairs_count}, Encoding.{encoding, items_of, pairs_of}}
use Rattle.ciborium_value.specs.{Encoding.{items_bytes, pairs_bytes}, Tree.{Tree, integer, bytes, text, boolean, null}}
use Rattle.ciborium_value.specs.Tree.{tag, array, map}

-- the major type (section 3.1)
abbrev pub tree_major : Tree → ℕ
tree_major (integer (pos n)) = 0
tree_major (integer (negsuc n)) = 1
tree_major (bytes b) = 2
tree_major (text b) = 3
tree_major (array vs) = 4
tree_major (map ps) = 5
tree_major (tag t v) = 6
tree_major (boolean b) = 7
tree_major null = 7

-- the argument: the number, the length, the count, the tag's number, or the simple value
abbrev pub argument_of : Tree → ℕ
argument_of (integer (pos n)) = n
argument_of (integer (negsuc n)) = n
argument_of (bytes b) = length b
argument_of (text b) = length b
argument_of (array vs) = trees_count vs
argument_of (map ps) = tree_pairs_count ps
argument_of (tag t v) = t
argument_of (boolean false) = 20
argument_of (boolean true) = 21
argument_of null = 22

-- the bytes behind the head: a payload, or the encodings of the parts
abbrev pub content_bytes : Tree → List ℕ
content_bytes (integer z) = []
content_bytes (bytes b) = b
content_bytes (text b) = b
content_bytes (array vs) = items_bytes (items_of vs)
content_bytes (map ps) = pairs_bytes (pairs_of ps)
content_bytes (tag t v) = encoding v
content_bytes (boolean b) = []
content_bytes null = []

-- the order of two heads, which is that of their bytes
abbrev pub head_order : Tree → Tree → Ordering
head_order = then_cmp (on tree_major nat_cmp) (on argument_of nat_cmp)
