-- The orders of values by their encodings are total, and tie equal values alone.
use Rattle.std.proofs.{Common.{◌≡◌, refl, sym, ap, ◌∙◌, Ordering, Less, Equal, Greater, is_eq}, lemmas.Cmp.tied_itself}
use Rattle.std.{proofs.lemmas.Cmp.{nat_cmp_total, nat_list_cmp_total, then_total, on_total}, specs.Cmp.IsTotalOrder}
use Rattle.std.specs.Ordering.{ordering_then}
use Rattle.ciborium_value.proofs.Orders.{Derived.value_cmp_total, OrderedTrees.tied_where_equal}
use Rattle.ciborium_value.specs.{Canonical.{bytewise_order, canonical_order, key_order}, Derived.{value_eq, value_cmp}}
use Rattle.ciborium_value.specs.{Encoding.{encoding, encoded_size}, OrderedValues.ordered_value_cmp, Tree.Tree}
use Rattle.ciborium_value.specs.{View.tree_of, contracts.tree.ValueOrd.TheImpl.Laws.matches_eq-law}
use Rattle.ciborium_value.specs.declared.key_order.KeyOrder.{KeyOrder, TheVariants.{LengthFirst, Bytewise}}
use Rattle.ciborium_value.specs.{declared.tree.Value.Value, lemmas.DerivedOrder.value_cmp-is}

pub canonical_order_total : IsTotalOrder canonical_order
canonical_order_total = then_total (on_total encoded_size nat_cmp_total) (on_total encoding nat_list_cmp_total)

pub bytewise_order_total : IsTotalOrder bytewise_order
bytewise_order_total = on_total encoding nat_list_cmp_total

pub key_order_total : (o : KeyOrder) → IsTotalOrder (key_order o)
key_order_total LengthFirst = canonical_order_total
key_order_total Bytewise = bytewise_order_total

pub ordered_value_cmp_total : (o : KeyOrder) → IsTotalOrder (ordered_value_cmp o)
ordered_value_cmp_total o = then_total (on_total tree_of (key_order_total o)) value_cmp_total

-- where the second order ties only what the first does
tests_agree : (o p : Ordering) → (p ≡ Equal → o ≡ Equal) → is_eq p ≡ is_eq (ordering_then o p)
tests_agree Less Equal h = absurd (let no : Less ≡ Equal = h refl in cc)
tests_agree Greater Equal h = absurd (let no : Greater ≡ Equal = h refl in cc)
tests_agree u v h = refl

-- values that the order of values ties have one tree
value_cmp-tied : (v w : Value) → value_cmp v w ≡ Equal → tree_of v ≡ tree_of w
value_cmp-tied v w e = (tied_where_equal (tree_of v) (tree_of w)).0 (sym (value_cmp-is v w) ∙ e)

-- an order by encodings, and then that of values
matches_eq : (order : Tree → Tree → Ordering) → IsTotalOrder order → (v w : Value) →
    value_eq v w ≡ is_eq (ordering_then (order (tree_of v) (tree_of w)) (value_cmp v w))
matches_eq order total v w = matches_eq-law v w ∙ tests_agree (order (tree_of v) (tree_of w)) (value_cmp v w)
    (λ e. ap (order (tree_of v)) (sym (value_cmp-tied v w e)) ∙ tied_itself total (tree_of v))

pub ordered_value_matches_eq : (o : KeyOrder) (v w : Value) → value_eq v w ≡ is_eq (ordered_value_cmp o v w)
ordered_value_matches_eq o = matches_eq (key_order o) (key_order_total o)
