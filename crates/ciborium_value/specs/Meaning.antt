-- The tree that an item means, or none (RFC 8949, sections 3.1 to 3.4; bignums: section 3.4.3).
use Rattle.std.specs.Prelude.{ℕ, ◌+◌, ◌*◌, ◌^◌, List, [], ◌∷◌, length, Bool, true, false, if◌then◌else◌, ◌||◌, ◌==◌}
use Rattle.std.specs.Prelude.{nat_lt, nat_le, pos, negsuc, Option, Some, None, option_map}
use Rattle.ciborium_ll.specs.Item.{Item, Items, Pairs}
use Rattle.ciborium_value.specs.Tree.{Tree, integer, bytes, text, boolean, null, tag, array, map, Trees, no_trees, tree}
use Rattle.ciborium_value.specs.Tree.{TreePairs, no_tree_pairs, tree_pair}
use Rattle.ciborium_ll.specs.Item as item

-- the number that bytes are behind the digits of n, in base 256, the most significant first
unfoldable pub big_endian_behind : ℕ → List ℕ → ℕ
big_endian_behind n [] = n
big_endian_behind n (b ∷ bs) = big_endian_behind (256 * n + b) bs

-- the number that a bignum's bytes are (section 3.4.3)
abbrev pub big_endian : List ℕ → ℕ
big_endian bs = big_endian_behind 0 bs

-- the bytes behind the leading zeros
abbrev pub without_zeros : List ℕ → List ℕ
without_zeros [] = []
without_zeros (b ∷ bs) = if b == 0 then without_zeros bs else b ∷ bs

-- an unsigned bignum n whose bytes without leading zeros are b
abbrev pub unsigned_bignum : ℕ → List ℕ → Option Tree
unsigned_bignum n b = if nat_lt n (2 ^ 64) then Some (integer (pos n)) else Some (tag 2 (bytes b))

-- a negative bignum, -1 - n; from n = 2^127 on an `i128` does not hold it, and it has no meaning
abbrev pub negative_bignum : ℕ → List ℕ → Option Tree
negative_bignum n b =
    if nat_lt n (2 ^ 64) then Some (integer (negsuc n)) else if nat_lt n (2 ^ 127) then Some (tag 3 (bytes b)) else None

-- what a folding tag over these bytes means
unfoldable pub bignum_meaning : ℕ → List ℕ → Option Tree
bignum_meaning t b = if t == 2 then unsigned_bignum (big_endian b) (without_zeros b) else negative_bignum
    (big_endian b) (without_zeros b)

-- the tags of bignums
abbrev pub is_bignum_tag : ℕ → Bool
is_bignum_tag t = (t == 2) || (t == 3)

-- the definite byte string of at most 16 bytes that an item is
abbrev pub short_string : Item → Option (List ℕ)
short_string (item.unsigned n) = None
short_string (item.negative n) = None
short_string (item.bytes false b) = if nat_le (length b) 16 then Some b else None
short_string (item.bytes true b) = None
short_string (item.text open_ b) = None
short_string (item.array open_ is) = None
short_string (item.map open_ ps) = None
short_string (item.tag n i) = None
short_string (item.simple n) = None
short_string (item.float raw) = None

-- the bytes over which a tag folds: tag 2 or 3 over a definite byte string of at most 16 bytes
abbrev pub folding_bytes : ℕ → Item → Option (List ℕ)
folding_bytes t i = if is_bignum_tag t then short_string i else None

-- what a tag means: what its bytes mean where it folds, else the tag over what its item means
abbrev pub tag_meaning : ℕ → Option (List ℕ) → Option Tree → Option Tree
tag_meaning t (Some b) content = bignum_meaning t b
tag_meaning t None content = option_map (tag t) content

-- what a simple value means (section 3.3); that undefined is null is ciborium's own rule
unfoldable pub simple_meaning : ℕ → Option Tree
simple_meaning n = if n == 20 then Some (boolean false)
    else if n == 21 then Some (boolean true) else if (n == 22) || (n == 23) then Some null else None

-- the trees of a list's parts, where each part has one
abbrev pub trees_more : Option Tree → Option Trees → Option Trees
trees_more None vs = None
trees_more (Some v) vs = option_map (tree v) vs

-- the same for pairs
abbrev pub tree_pairs_more : Option Tree → Option Tree → Option TreePairs → Option TreePairs
tree_pairs_more None v ps = None
tree_pairs_more (Some k) None ps = None
tree_pairs_more (Some k) (Some v) ps = option_map (tree_pair k v) ps

abbrev mutual
  -- of an item
  pub meaning : Item → Option Tree
  meaning (item.unsigned n) = Some (integer (pos n))
  meaning (item.negative n) = Some (integer (negsuc n))
  meaning (item.bytes open_ b) = Some (bytes b)
  meaning (item.text open_ b) = Some (text b)
  meaning (item.array open_ is) = option_map array (items_meaning is)
  meaning (item.map open_ ps) = option_map map (pairs_meaning ps)
  meaning (item.tag t i) = tag_meaning t (folding_bytes t i) (meaning i)
  meaning (item.simple n) = simple_meaning n
  meaning (item.float raw) = None

  -- of each item, where each has one
  pub items_meaning : Items → Option Trees
  items_meaning item.no_items = Some no_trees
  items_meaning (item.item i is) = trees_more (meaning i) (items_meaning is)

  -- of each key and value, where each has one
  pub pairs_meaning : Pairs → Option TreePairs
  pairs_meaning item.no_pairs = Some no_tree_pairs
  pairs_meaning (item.pair k v ps) = tree_pairs_more (meaning k) (meaning v) (pairs_meaning ps)
