-- The orders of values by their encodings, which hold of all trees, those too that no program holds
-- and whose heads cannot be told apart.
use Rattle.std.specs.{Prelude.◌≡◌, declared.cmp.Ordering.Ordering, Ordering.{ordering_then, then_cmp, on}}
use Rattle.ciborium_value.specs.{Canonical.key_order, Derived.value_cmp, lemmas.DerivedOrder.value_cmp-is}
use Rattle.ciborium_value.specs.{Order.tree_cmp, Tree.Tree, View.tree_of, declared.key_order.KeyOrder.KeyOrder}
use Rattle.ciborium_value.specs.declared.tree.Value.{Value}
use mathlib.Core.Path.{ap}

-- that order of the trees, and where it ties, which of proper trees it does where they are equal
-- alone, the order of values
abbrev pub ordered_value_cmp : KeyOrder → Value → Value → Ordering
ordered_value_cmp o = then_cmp (on tree_of (key_order o)) value_cmp

-- the same of their trees
abbrev pub ordered_tree_cmp : KeyOrder → Tree → Tree → Ordering
ordered_tree_cmp o = then_cmp (key_order o) tree_cmp

pub ordered_value_cmp-trees : (o : KeyOrder) (v w : Value) →
    ordered_value_cmp o v w ≡ ordered_tree_cmp o (tree_of v) (tree_of w)
ordered_value_cmp-trees o v w = ap (ordering_then (key_order o (tree_of v) (tree_of w))) (value_cmp-is v w)
