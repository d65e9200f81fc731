-- The order of values: by variant, in the order of its declaration, and then by content. Texts and
-- bytes are ordered bytewise, lists by their first parts that differ.
use Rattle.std.specs.{Cmp.Lexicographic.slice_cmp, Ordering.{nat_cmp, int_cmp, bool_cmp, ordering_then}, Prelude.ℕ}
use Rattle.std.specs.declared.cmp.Ordering.{Ordering, TheVariants.{Less, Equal, Greater}}
use Rattle.ciborium_value.specs.Tree.{Tree, integer, bytes, text, boolean, null, tag, array, map, Trees, no_trees, tree}
use Rattle.ciborium_value.specs.Tree.{TreePairs, no_tree_pairs, tree_pair}

-- the place of a variant in the declaration
abbrev pub variant_place : Tree → ℕ
variant_place (integer z) = 0
variant_place (bytes b) = 1
variant_place (text b) = 2
variant_place (boolean b) = 3
variant_place null = 4
variant_place (tag t v) = 5
variant_place (array vs) = 6
variant_place (map ps) = 7

abbrev mutual
  pub tree_cmp : Tree → Tree → Ordering
  tree_cmp (integer x) (integer y) = int_cmp x y
  tree_cmp (bytes x) (bytes y) = slice_cmp nat_cmp x y
  tree_cmp (text x) (text y) = slice_cmp nat_cmp x y
  tree_cmp (boolean x) (boolean y) = bool_cmp x y
  tree_cmp (tag t v) (tag u w) = ordering_then (nat_cmp t u) (tree_cmp v w)
  tree_cmp (array vs) (array ws) = trees_cmp vs ws
  tree_cmp (map ps) (map qs) = tree_pairs_cmp ps qs
  tree_cmp v w = nat_cmp (variant_place v) (variant_place w)

  -- the first trees that differ decide, and else the shorter list is less
  pub trees_cmp : Trees → Trees → Ordering
  trees_cmp no_trees no_trees = Equal
  trees_cmp no_trees (tree w ws) = Less
  trees_cmp (tree v vs) no_trees = Greater
  trees_cmp (tree v vs) (tree w ws) = ordering_then (tree_cmp v w) (trees_cmp vs ws)

  -- the same for pairs, a key before its value
  pub tree_pairs_cmp : TreePairs → TreePairs → Ordering
  tree_pairs_cmp no_tree_pairs no_tree_pairs = Equal
  tree_pairs_cmp no_tree_pairs (tree_pair k v ps) = Less
  tree_pairs_cmp (tree_pair k v ps) no_tree_pairs = Greater
  tree_pairs_cmp (tree_pair k v ps) (tree_pair l w qs) =
      ordering_then (ordering_then (tree_cmp k l) (tree_cmp v w)) (tree_pairs_cmp ps qs)
