-- The tree of a `Value`: its content, without the capacities of lists and texts.
use Rattle.std.specs.Prelude.{List, [], ◌∷◌, string_bytes, box_value, Result, Ok, Err}
use Rattle.ciborium_value.specs.{Tree.{Tree, Trees, TreePairs}, declared.tree.Value.{Value, fold-Value}}
use Rattle.ciborium_value.specs.declared.tree.Value.TheOpen.{Value-F}
use Rattle.ciborium_value.specs.Tree as trees

-- a list of trees as `Trees`
abbrev pub trees_from : List Tree → Trees
trees_from [] = trees.no_trees
trees_from (v ∷ vs) = trees.tree v (trees_from vs)

-- a list of pairs of trees as `TreePairs`
abbrev pub tree_pairs_from : List (Tree × Tree) → TreePairs
tree_pairs_from [] = trees.no_tree_pairs
tree_pairs_from (p ∷ ps) = trees.tree_pair p.0 p.1 (tree_pairs_from ps)

-- one constructor: `Value-F Tree` is the declared `Value` with trees in place of the values inside;
-- an `Integer` is its number, a list its `items`
abbrev pub level_tree : Value-F Tree → Tree
level_tree (Value-F.Integer z) = trees.integer z
level_tree (Value-F.Bytes b) = trees.bytes b.items
level_tree (Value-F.Text s) = trees.text (string_bytes s)
level_tree (Value-F.Bool b) = trees.boolean b
level_tree Value-F.Null = trees.null
level_tree (Value-F.Tag t v) = trees.tag t (box_value v)
level_tree (Value-F.Array vs) = trees.array (trees_from vs.items)
level_tree (Value-F.Map ps) = trees.map (tree_pairs_from ps.items)

-- the tree of a value: `level_tree` of each constructor, from the innermost outwards
abbrev pub tree_of : Value → Tree
tree_of = fold-Value Tree level_tree

-- f of an answer, and of no error
abbrev pub result_map : {A B E : Type 0} → (A → B) → Result A E → Result B E
result_map f (Ok v) = Ok (f v)
result_map f (Err e) = Err e
