-- Trees that a program can hold: Integers within CBOR's range, bytes below 256, UTF-8, and no
-- length or count past the greatest `usize`.
use Rattle.std.specs.Prelude.{◌≤◌}
use Rattle.ciborium_ll.specs.{Bytes.greatest_offset, Integer.IsInRange, ProperItems.{IsArgument, IsProperBytes}}
use Rattle.ciborium_ll.specs.ProperItems.{IsProperText}
use Rattle.ciborium_value.specs.{Counts.{trees_count, tree_pairs_count}, Tree.{Tree, integer, bytes, text, boolean}}
use Rattle.ciborium_value.specs.Tree.{null, tag, array, map, Trees, no_trees, tree, TreePairs, no_tree_pairs, tree_pair}

abbrev mutual
  -- a tree that a program can hold
  pub IsProperTree : Tree → Type 0
  IsProperTree (integer z) = IsInRange z
  IsProperTree (bytes b) = IsProperBytes b
  IsProperTree (text b) = IsProperText b
  IsProperTree (boolean b) = Unit {0}
  IsProperTree null = Unit {0}
  IsProperTree (tag t v) = IsArgument t × IsProperTree v
  IsProperTree (array vs) = (trees_count vs ≤ greatest_offset) × AreProperTrees vs
  IsProperTree (map ps) = (tree_pairs_count ps ≤ greatest_offset) × AreProperTreePairs ps

  -- each tree
  pub AreProperTrees : Trees → Type 0
  AreProperTrees no_trees = Unit {0}
  AreProperTrees (tree v vs) = IsProperTree v × AreProperTrees vs

  -- each key and each value
  pub AreProperTreePairs : TreePairs → Type 0
  AreProperTreePairs no_tree_pairs = Unit {0}
  AreProperTreePairs (tree_pair k v ps) = IsProperTree k × IsProperTree v × AreProperTreePairs ps
