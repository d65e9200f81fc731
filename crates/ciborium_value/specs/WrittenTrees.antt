-- The tree of an item that was written (RFC 8949, sections 3.1 to 3.4).
use Rattle.std.specs.Prelude.{ℕ, pos, negsuc, if◌then◌else◌, nat_lt, true, false}
use Rattle.ciborium_ll.specs.Item.{Item, unsigned, negative, bytes, text, array, map, tag, simple, float, Items}
use Rattle.ciborium_ll.specs.Item.{no_items, item, Pairs, no_pairs, pair}
use Rattle.ciborium_value.specs.Tree.{Tree, Trees, TreePairs}
use Rattle.ciborium_value.specs.Tree as tree

-- false up to 20, true for 21, and null for every other one; only 20, 21 and 22 are ever written
abbrev pub simple_tree : ℕ → Tree
simple_tree n = if nat_lt n 21 then tree.boolean false else if nat_lt n 22 then tree.boolean true else tree.null

abbrev mutual
  -- the tree of a written item, nothing folded
  pub written_tree : Item → Tree
  written_tree (unsigned n) = tree.integer (pos n)
  written_tree (negative n) = tree.integer (negsuc n)
  written_tree (bytes open_ b) = tree.bytes b
  written_tree (text open_ b) = tree.text b
  written_tree (array open_ is) = tree.array (written_trees is)
  written_tree (map open_ ps) = tree.map (written_pairs ps)
  written_tree (tag t i) = tree.tag t (written_tree i)
  written_tree (simple n) = simple_tree n
  written_tree (float raw) = tree.null

  -- of each item, in order
  pub written_trees : Items → Trees
  written_trees no_items = tree.no_trees
  written_trees (item i is) = tree.tree (written_tree i) (written_trees is)

  -- of each key and value, in order
  pub written_pairs : Pairs → TreePairs
  written_pairs no_pairs = tree.no_tree_pairs
  written_pairs (pair k v ps) = tree.tree_pair (written_tree k) (written_tree v) (written_pairs ps)
