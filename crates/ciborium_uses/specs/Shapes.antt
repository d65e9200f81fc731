-- Shapes of trees, as a small schema language: which trees have a shape.
use Rattle.std.specs.{List.list_all, Prelude.{ℕ, Bool, IsTrue, true, false, ◌&&◌, List, String, bytes_eq, box_value}}
use Rattle.std.specs.{Prelude.{if◌then◌else◌, int_le, not, string_bytes}, declared.alloc.Global.Global}
use Rattle.ciborium.specs.Tree.{Tree, TreePairs, Trees}
use Rattle.ciborium_uses.specs.{declared.schema.Shape.{Shape, fold-Shape}, declared.schema.Shape.TheOpen.Shape-F}
use Rattle.ciborium.specs.Tree as trees

-- ---- arrays

-- each tree passes the test
abbrev pub all_trees : (Tree → Bool) → Trees → Bool
all_trees test trees.no_trees = true
all_trees test (trees.tree v vs) = test v && all_trees test vs

-- ---- maps

-- a key is this text
abbrev pub is_text_of : List ℕ → Tree → Bool
is_text_of name (trees.text b) = bytes_eq b name
is_text_of name _ = false

-- each value under this text passes the test, and there is one, or there need not be
abbrev pub field_fits : Bool → List ℕ → (Tree → Bool) → TreePairs → Bool
field_fits is_complete name test trees.no_tree_pairs = is_complete
field_fits is_complete name test (trees.tree_pair k v ps) =
    if is_text_of name k then (test v && field_fits true name test ps) else field_fits is_complete name test ps

-- a field: its name, whether it is required, and the test of its values
abbrev pub has_field : TreePairs → String Global × Bool × (Tree → Bool) → Bool
has_field ps f = field_fits (not f.1) (string_bytes f.0) f.2 ps

-- ---- shapes

-- one level, where each shape inside is the test of it
abbrev pub level_fits : Shape-F (Tree → Bool) → Tree → Bool
level_fits Shape-F.Any t = true
level_fits Shape-F.Null trees.null = true
level_fits Shape-F.Bool (trees.boolean b) = true
level_fits (Shape-F.Integer least greatest) (trees.integer z) = int_le least z && int_le z greatest
level_fits Shape-F.Text (trees.text b) = true
level_fits Shape-F.Bytes (trees.bytes b) = true
level_fits (Shape-F.Array item) (trees.array vs) = all_trees (box_value item) vs
level_fits (Shape-F.Map fields) (trees.map ps) = list_all (has_field ps) fields.items
level_fits _ _ = false

-- whether a tree fits a shape
abbrev pub fits : Shape → Tree → Bool
fits = fold-Shape (Tree → Bool) level_fits

-- a field, with the test of its shape
abbrev pub field_test : String Global × Bool × Shape → String Global × Bool × (Tree → Bool)
field_test f = (f.0, f.1, fits f.2)

-- a tree has a shape
abbrev pub HasShape : Shape → Tree → Type 0
HasShape shape t = IsTrue (fits shape t)
