-- Of values that a program holds, the order of ordered values is that of their encodings.
use Rattle.std.proofs.{Common.{◌≡◌, refl, sym, ap, ◌∙◌, Ordering, Equal, nat_cmp}, lemmas.Cmp.tied_itself}
use Rattle.std.specs.{Cmp.Lexicographic.slice_cmp, Ordering.ordering_then}
use Rattle.ciborium_value.proofs.Orders.{OrderedTrees.tied_where_equal, TotalOrders.key_order_total}
use Rattle.ciborium_value.{proofs.Orders.TreeEncodings.tied_encodings, specs.{Canonical.key_order, Derived.value_cmp}}
use Rattle.ciborium_value.specs.{Encoding.{encoding, encoded_size}, OrderedValues.ordered_value_cmp}
use Rattle.ciborium_value.specs.{ProperTrees.IsProperTree, Tree.Tree, View.tree_of}
use Rattle.ciborium_value.specs.declared.key_order.KeyOrder.{KeyOrder, TheVariants.{LengthFirst, Bytewise}}
use Rattle.ciborium_value.specs.{declared.tree.Value.Value, lemmas.DerivedOrder.value_cmp-is}
use Rattle.ciborium.{proofs.Encodings.EncodingLaws.one_tree, specs.laws.OrdersOfValues.{IsOrderOfTrees, TiesEqualOnes}}

-- a first order whose ties are those of the second decides
first_decides : (o p : Ordering) → (o ≡ Equal → p ≡ Equal) → o ≡ ordering_then o p
first_decides Equal p h = sym (h refl)
first_decides u p h = refl

second_tied : (o p : Ordering) → ordering_then o p ≡ Equal → p ≡ Equal
second_tied Equal p e = e
second_tied u p e = absurd cc

-- proper trees that it ties are one
key_order-tied : (o : KeyOrder) (v w : Tree) → IsProperTree v → IsProperTree w → key_order o v w ≡ Equal → v ≡ w
key_order-tied LengthFirst v w h k e =
    one_tree v w h k (tied_encodings v w (second_tied (nat_cmp (encoded_size v) (encoded_size w))
    (slice_cmp nat_cmp (encoding v) (encoding w)) e))
key_order-tied Bytewise v w h k e = one_tree v w h k (tied_encodings v w e)

-- where values that are tied are one, it is the order of their trees
pub ordered_value_cmp-is : (k : KeyOrder) (v w : Value) (o : Ordering) → (o ≡ Equal → tree_of v ≡ tree_of w) →
    o ≡ key_order k (tree_of v) (tree_of w) → o ≡ ordered_value_cmp k v w
ordered_value_cmp-is k v w o ties e = e ∙ first_decides (key_order k (tree_of v) (tree_of w)) (value_cmp v w)
    (λ t. value_cmp-is v w ∙ (tied_where_equal (tree_of v) (tree_of w)).1 (ties (e ∙ t)))

pub is_order_of_trees : (o : KeyOrder) → IsOrderOfTrees o
is_order_of_trees o v w h k = sym (ordered_value_cmp-is o v w (key_order o (tree_of v) (tree_of w))
    (key_order-tied o (tree_of v) (tree_of w) h k) refl)

pub ties_equal_ones : (o : KeyOrder) → TiesEqualOnes o
ties_equal_ones o v w h k = (
  λ e. key_order-tied o (tree_of v) (tree_of w) h k (sym (is_order_of_trees o v w h k) ∙ e),
  λ e. is_order_of_trees o v w h k ∙ ap (key_order o (tree_of v)) (sym e) ∙ tied_itself (key_order_total o) (tree_of v),
)
