-- What holds of the order of values.
use Rattle.std.specs.{Prelude.{◌≡◌, ◌↔◌, ℤ, IsTrue, Some}, declared.cmp.Ordering.TheVariants.Equal, Cmp.IsTotalOrder}
use Rattle.std.specs.Cmp.{IsEquivalence}
use Rattle.ciborium_ll.specs.Integer.{integer_order}
use Rattle.ciborium_value.specs.{Canonical.canonical_order, Tree.{Tree, integer}, View.tree_of, Order.tree_cmp}
use Rattle.ciborium_value.specs.{Derived.{value_eq, value_cmp, value_partial_cmp}, declared.tree.Value.Value}

-- values are equal where their trees are
abbrev pub EqualAsTrees : Type 0
EqualAsTrees = (v w : Value) → IsTrue (value_eq v w) ↔ (tree_of v ≡ tree_of w)

-- and ordered as their trees are
abbrev pub OrderedAsTrees : Type 0
OrderedAsTrees = (v w : Value) → value_cmp v w ≡ tree_cmp (tree_of v) (tree_of w)

abbrev pub PartlyOrderedAsTrees : Type 0
PartlyOrderedAsTrees = (v w : Value) → value_partial_cmp v w ≡ Some (tree_cmp (tree_of v) (tree_of w))

-- the order does not tell two trees apart exactly where they are one
abbrev pub TiedWhereEqual : Type 0
TiedWhereEqual = (v w : Tree) → (tree_cmp v w ≡ Equal) ↔ (v ≡ w)

-- each of two values is less, equal or greater as the other is greater, equal or less; less is
-- transitive; equal values compare alike
abbrev pub ValuesAreOrdered : Type 0
ValuesAreOrdered = IsTotalOrder value_cmp

-- a value is equal to itself; equality goes both ways, and is transitive
abbrev pub EqualityIsEquivalence : Type 0
EqualityIsEquivalence = IsEquivalence value_eq

-- the canonical order of two numbers is that of them as trees
abbrev pub IntegersAsTrees : Type 0
IntegersAsTrees = (z y : ℤ) → integer_order z y ≡ canonical_order (integer z) (integer y)
