-- What holds of the orders of `CanonicalValue` and `BytewiseValue`: the canonical one (RFC 8949,
-- section 4.2.3; RFC 7049, section 3.9) and the bytewise one (RFC 8949, section 4.2.1).
use Rattle.std.specs.{Prelude.{◌≡◌, ◌↔◌, List, map}, Cmp.IsTotalOrder, List.Sorted.IsStrictlySortedBy, Map.keys_of}
use Rattle.std.specs.declared.cmp.Ordering.TheVariants.{Equal}
use Rattle.ciborium_value.specs.{Canonical.key_order, OrderedValues.ordered_value_cmp, ProperTrees.IsProperTree}
use Rattle.ciborium_value.specs.{View.tree_of, declared.key_order.KeyOrder.KeyOrder, declared.tree.Value.Value}

-- of any two values that a program holds, the order that `Ord` names is the named order of their
-- trees
abbrev pub IsOrderOfTrees : KeyOrder → Type 0
IsOrderOfTrees o = (v w : Value) → IsProperTree (tree_of v) → IsProperTree (tree_of w) →
    ordered_value_cmp o v w ≡ key_order o (tree_of v) (tree_of w)

-- it is total
abbrev pub IsTotal : KeyOrder → Type 0
IsTotal o = IsTotalOrder (ordered_value_cmp o)

-- of values that a program holds it ties equal ones alone
abbrev pub TiesEqualOnes : KeyOrder → Type 0
TiesEqualOnes o = (v w : Value) → IsProperTree (tree_of v) → IsProperTree (tree_of w) →
    (ordered_value_cmp o v w ≡ Equal) ↔ (tree_of v ≡ tree_of w)

-- the keys of entries strictly rise in the named order
abbrev pub KeysRise : {A : Type 0} → KeyOrder → List (Value × A) → Type 0
KeysRise o es = IsStrictlySortedBy (key_order o) (map tree_of (keys_of es))
