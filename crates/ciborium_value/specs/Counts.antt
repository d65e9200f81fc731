-- How many values a tree holds, and how many bytes of strings: what reading it may take of memory;
-- how many trees a list has.
use Rattle.std.specs.Prelude.{ℕ, suc, ◌+◌, length}
use Rattle.ciborium_value.specs.Tree.{Tree, integer, bytes, text, boolean, null, tag, array, map}
use Rattle.ciborium_value.specs.Tree.{Trees, no_trees, tree, TreePairs, no_tree_pairs, tree_pair}

abbrev mutual
  -- the tree itself, keys and the contents of tags included
  pub node_count : Tree → ℕ
  node_count (integer z) = 1
  node_count (bytes b) = 1
  node_count (text b) = 1
  node_count (boolean b) = 1
  node_count null = 1
  node_count (tag t v) = suc (node_count v)
  node_count (array vs) = suc (trees_node_count vs)
  node_count (map ps) = suc (tree_pairs_node_count ps)

  -- of all of them together
  pub trees_node_count : Trees → ℕ
  trees_node_count no_trees = 0
  trees_node_count (tree v vs) = node_count v + trees_node_count vs

  -- of all keys and values together
  pub tree_pairs_node_count : TreePairs → ℕ
  tree_pairs_node_count no_tree_pairs = 0
  tree_pairs_node_count (tree_pair k v ps) = node_count k + node_count v + tree_pairs_node_count ps

abbrev mutual
  -- the bytes of all texts and byte strings
  pub payload_size : Tree → ℕ
  payload_size (integer z) = 0
  payload_size (bytes b) = length b
  payload_size (text b) = length b
  payload_size (boolean b) = 0
  payload_size null = 0
  payload_size (tag t v) = payload_size v
  payload_size (array vs) = trees_payload_size vs
  payload_size (map ps) = tree_pairs_payload_size ps

  -- of all of them together
  pub trees_payload_size : Trees → ℕ
  trees_payload_size no_trees = 0
  trees_payload_size (tree v vs) = payload_size v + trees_payload_size vs

  -- of all keys and values together
  pub tree_pairs_payload_size : TreePairs → ℕ
  tree_pairs_payload_size no_tree_pairs = 0
  tree_pairs_payload_size (tree_pair k v ps) = payload_size k + payload_size v + tree_pairs_payload_size ps

-- how many trees
abbrev pub trees_count : Trees → ℕ
trees_count no_trees = 0
trees_count (tree v vs) = suc (trees_count vs)

-- how many pairs
abbrev pub tree_pairs_count : TreePairs → ℕ
tree_pairs_count no_tree_pairs = 0
tree_pairs_count (tree_pair k v ps) = suc (tree_pairs_count ps)
