-- What a literal puts together, unless an allocation failed.
use Rattle.std.specs.Prelude.{Bool, true, false, List, [], ◌∷◌, ◌++◌, map, Result, Ok, Err, Vec}
use Rattle.std.specs.declared.alloc.Global.{Global}
use Rattle.ciborium_value.specs.{Sinks.Named, Tree.Tree, ValueLists.pair_trees, View.{tree_of, trees_from}}
use Rattle.ciborium_value.specs.{View.{tree_pairs_from, result_map}, WrittenTrees.written_tree}
use Rattle.ciborium_value.specs.declared.{error.Error.{Error, TheVariants.{Custom, Memory}}, tree.Value.Value}
use Rattle.ciborium_value.specs.Tree as trees

-- no allocation failed
abbrev pub had_memory : {A : Type 0} → Result A Error → Bool
had_memory (Ok x) = true
had_memory (Err (Custom k)) = true
had_memory (Err Memory) = false

-- the tree of a part
abbrev pub part_tree : Result Value Error → Result Tree Error
part_tree = result_map tree_of

-- the trees of items
abbrev pub item_trees : Result (Vec Value Global) Error → Result (List Tree) Error
item_trees = result_map (λ vs. map tree_of vs.items)

-- the trees of pairs
abbrev pub trees_in_pairs : Result (Vec (Value × Value) Global) Error → Result (List (Tree × Tree)) Error
trees_in_pairs = result_map (λ ps. map pair_trees ps.items)

-- the tree of the item that is named
abbrev pub named_tree : Named → Result Tree Error
named_tree (Ok i) = Ok (written_tree i)
named_tree (Err k) = Err (Custom k)

-- an item behind others, or the first refusal
abbrev pub and_item : Result (List Tree) Error → Result Tree Error → Result (List Tree) Error
and_item (Err e) t = Err e
and_item (Ok ts) (Err e) = Err e
and_item (Ok ts) (Ok t) = Ok (ts ++ t ∷ [])

-- a key with its value, or the first refusal
abbrev pub both_trees : Result Tree Error → Result Tree Error → Result (Tree × Tree) Error
both_trees (Err e) v = Err e
both_trees (Ok k) (Err e) = Err e
both_trees (Ok k) (Ok v) = Ok (k, v)

-- a pair behind others, or the first refusal
abbrev pub and_pair : Result (List (Tree × Tree)) Error → Result (Tree × Tree) Error → Result (List (Tree × Tree)) Error
and_pair (Err e) p = Err e
and_pair (Ok ps) (Err e) = Err e
and_pair (Ok ps) (Ok p) = Ok (ps ++ p ∷ [])

-- the array of the items
abbrev pub array_tree : Result (List Tree) Error → Result Tree Error
array_tree = result_map (λ ts. trees.array (trees_from ts))

-- the map of the pairs
abbrev pub map_tree : Result (List (Tree × Tree)) Error → Result Tree Error
map_tree = result_map (λ ps. trees.map (tree_pairs_from ps))
