-- The tree of a value, variant by variant and along its lists.
use Rattle.std.proofs.Common.{◌≡◌, ℕ, suc, List, [], ◌∷◌, length, string_bytes, String, Vec, Box, Global, ℤ, Bool}
use Rattle.std.proofs.Common.{rules, refl, ap}
use Rattle.ciborium_value.specs.Counts.{trees_count, tree_pairs_count}
use Rattle.ciborium_value.specs.{ValueLists.{trees_of, tree_pairs_of}, View.tree_of, declared.tree.Value.Value}
use Rattle.ciborium_value.specs.declared.tree.Value.{the_lemmas}
use Rattle.ciborium_value.specs.Tree as trees
use Rattle.ciborium_value.specs.declared.tree.Value as value

-- ---- each variant

pub tree_of-Integer : (z : ℤ) → tree_of (value.Integer z) ≡ trees.integer z
tree_of-Integer z = search (rules, the_lemmas)

pub tree_of-Bytes : (v : Vec ℕ Global) → tree_of (value.Bytes v) ≡ trees.bytes v.items
tree_of-Bytes v = search (rules, the_lemmas)

pub tree_of-Text : (s : String Global) → tree_of (value.Text s) ≡ trees.text (string_bytes s)
tree_of-Text s = search (rules, the_lemmas)

pub tree_of-Bool : (b : Bool) → tree_of (value.Bool b) ≡ trees.boolean b
tree_of-Bool b = search (rules, the_lemmas)

pub tree_of-Null : tree_of value.Null ≡ trees.null
tree_of-Null = search (rules, the_lemmas)

pub tree_of-Tag : (t : ℕ) (v : Box Value Global) → tree_of (value.Tag t v) ≡ trees.tag t (tree_of v.value)
tree_of-Tag t v = search (rules, the_lemmas)

pub tree_of-Array : (v : Vec Value Global) → tree_of (value.Array v) ≡ trees.array (trees_of v.items)
tree_of-Array v = search (rules, the_lemmas)

pub tree_of-Map : (v : Vec (Value × Value) Global) → tree_of (value.Map v) ≡ trees.map (tree_pairs_of v.items)
tree_of-Map v = search (rules, the_lemmas)

-- ---- lists

pub trees_count-trees_of : (vs : List Value) → trees_count (trees_of vs) ≡ length vs
trees_count-trees_of [] = refl
trees_count-trees_of (v ∷ vs) = ap suc (trees_count-trees_of vs)

pub tree_pairs_count-tree_pairs_of : (ps : List (Value × Value)) → tree_pairs_count (tree_pairs_of ps) ≡ length ps
tree_pairs_count-tree_pairs_of [] = refl
tree_pairs_count-tree_pairs_of (p ∷ ps) = ap suc (tree_pairs_count-tree_pairs_of ps)

-- ---- equal trees
