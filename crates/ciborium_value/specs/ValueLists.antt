-- The trees of lists of values, and of keys with their values.
use Rattle.std.specs.Prelude.{List, map}
use Rattle.ciborium_value.specs.{Tree.{Tree, Trees, TreePairs}, View.{tree_of, trees_from, tree_pairs_from}}
use Rattle.ciborium_value.specs.declared.tree.Value.{Value}

-- the trees of a list of values
abbrev pub trees_of : List Value → Trees
trees_of vs = trees_from (map tree_of vs)

-- the trees of a key and its value
abbrev pub pair_trees : Value × Value → Tree × Tree
pair_trees p = (tree_of p.0, tree_of p.1)

-- the trees of a list of pairs
abbrev pub tree_pairs_of : List (Value × Value) → TreePairs
tree_pairs_of ps = tree_pairs_from (map pair_trees ps)
