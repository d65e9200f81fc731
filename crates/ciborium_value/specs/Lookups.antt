-- What is looked up in a tree: a value by its label, an item by its index, a number by its width;
-- and the tree with another value where one is found.
use Rattle.std.specs.{Option.option_or, Prelude.{ℕ, zero, suc, ◌^◌, ℤ, pos, negsuc, Option, Some, None, ◌&&◌}}
use Rattle.std.specs.Prelude.{if◌then◌else◌, is_none, nat_lt}
use Rattle.ciborium_value.specs.{Counts.{trees_count, tree_pairs_count}, Labels.{Label, named, numbered, other}}
use Rattle.ciborium_value.specs.{Labels.is_label, Tree.{Tree, Trees, TreePairs, integer, text, array, map, no_trees}}
use Rattle.ciborium_value.specs.Tree.{tree, no_tree_pairs, tree_pair}

-- the label that a key is
abbrev pub tree_label : Tree → Label
tree_label (text b) = named b
tree_label (integer z) = numbered z
tree_label _ = other

-- the value of the last pair whose key is this label
abbrev pub last_with : Label → TreePairs → Option Tree
last_with l no_tree_pairs = None
last_with l (tree_pair k v ps) = option_or (last_with l ps) (if is_label (tree_label k) l then Some v else None)

-- the value under a label, where the tree is a map
abbrev pub tree_under : Label → Tree → Option Tree
tree_under l (map ps) = last_with l ps
tree_under l _ = None

-- the pairs, with a new value in the last one whose key is this label
abbrev pub replaced_last : Label → Tree → TreePairs → TreePairs
replaced_last l new no_tree_pairs = no_tree_pairs
replaced_last l new (tree_pair k v ps) = if is_none (last_with l ps) && is_label (tree_label k) l
    then tree_pair k new ps else tree_pair k v (replaced_last l new ps)

-- the tree, with a new value under a label, where it is a map that has one there
abbrev pub replaced_under : Label → Tree → Tree → Tree
replaced_under l new (map ps) = map (replaced_last l new ps)
replaced_under l new v = v

-- the tree at an index, from 0
abbrev pub nth_tree : ℕ → Trees → Option Tree
nth_tree i no_trees = None
nth_tree zero (tree v vs) = Some v
nth_tree (suc i) (tree v vs) = nth_tree i vs

-- the item at an index, where the tree is an array
abbrev pub tree_at : ℕ → Tree → Option Tree
tree_at i (array vs) = nth_tree i vs
tree_at i _ = None

-- the trees, with a new one at an index
abbrev pub replaced_nth : ℕ → Tree → Trees → Trees
replaced_nth i new no_trees = no_trees
replaced_nth zero new (tree v vs) = tree new vs
replaced_nth (suc i) new (tree v vs) = tree v (replaced_nth i new vs)

-- the tree, with a new item at an index, where it is an array that has one there
abbrev pub replaced_at : ℕ → Tree → Tree → Tree
replaced_at i new (array vs) = array (replaced_nth i new vs)
replaced_at i new v = v

-- how many items an array has, or pairs a map
abbrev pub parts_of : Tree → Option ℕ
parts_of (array vs) = Some (trees_count vs)
parts_of (map ps) = Some (tree_pairs_count ps)
parts_of _ = None

-- the number from 0 that a tree is
abbrev pub unsigned_of : Tree → Option ℕ
unsigned_of (integer (pos n)) = Some n
unsigned_of _ = None

-- the number of 64 bits with its sign that a tree is
abbrev pub signed_of : Tree → Option ℤ
signed_of (integer (pos n)) = if nat_lt n (2 ^ 63) then Some (pos n) else None
signed_of (integer (negsuc n)) = if nat_lt n (2 ^ 63) then Some (negsuc n) else None
signed_of _ = None
