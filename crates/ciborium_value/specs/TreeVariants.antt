-- Which variant a tree is.
use Rattle.std.specs.Prelude.{◌≡◌, ℕ, ℤ, List, Bool}
use Rattle.ciborium_value.specs.Tree as trees
use Rattle.ciborium_value.specs.Tree.{Tree, Trees, TreePairs}

abbrev pub IsIntegerTree : Tree → Type 0
IsIntegerTree t = (z : ℤ) × (t ≡ trees.integer z)

abbrev pub IsBytesTree : Tree → Type 0
IsBytesTree t = (b : List ℕ) × (t ≡ trees.bytes b)

abbrev pub IsTextTree : Tree → Type 0
IsTextTree t = (b : List ℕ) × (t ≡ trees.text b)

abbrev pub IsBoolTree : Tree → Type 0
IsBoolTree t = (b : Bool) × (t ≡ trees.boolean b)

abbrev pub IsTagTree : Tree → Type 0
IsTagTree t = (n : ℕ) × (content : Tree) × (t ≡ trees.tag n content)

abbrev pub IsArrayTree : Tree → Type 0
IsArrayTree t = (vs : Trees) × (t ≡ trees.array vs)

abbrev pub IsMapTree : Tree → Type 0
IsMapTree t = (ps : TreePairs) × (t ≡ trees.map ps)
