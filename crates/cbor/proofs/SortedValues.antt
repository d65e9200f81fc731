-- What a sort by one of the two orders ensures.
use Rattle.std.proofs.Common.{◌≡◌, ◌<◌, List, [], ◌∷◌, length, get_or, map, Bool, Greater, is_lt, true, false, sym, ap}
use Rattle.std.proofs.{Common.{◌∙◌, arith}, lemmas.List.{get_or-map, length-map, Sorted.{ranks_by, sorted_far}}}
use Rattle.std.specs.{Cmp.IsStrictWeakOrder, List.Sorted.IsSortedBy, Ordering.ordering_reverse}
use Rattle.ciborium_value.{proofs.Orders.TotalOrders.key_order_total, specs.{Canonical.key_order, Tree.Tree}}
use Rattle.ciborium_value.specs.{View.tree_of, declared.{key_order.KeyOrder.KeyOrder, tree.Value.Value}}
use Rattle.cbor.specs.Sorted.{AreSorted}

-- the test by which values are sorted
abbrev pub stands_before : KeyOrder → Value → Value → Bool
stands_before order v w = is_lt (key_order order (tree_of v) (tree_of w))

pub stands_before-orders : (order : KeyOrder) → IsStrictWeakOrder (stands_before order)
stands_before-orders order = ranks_by (key_order_total order) tree_of

-- one that comes after another has the other before it
turned : (order : KeyOrder) (s t : Tree) → key_order order s t ≡ Greater → is_lt (key_order order t s) ≡ true
turned order s t e = ap is_lt ((key_order_total order).antisymm t s ∙ ap ordering_reverse e)

pub sorted-trees : (order : KeyOrder) (vs : List Value) → IsSortedBy (stands_before order) vs →
    AreSorted order (map tree_of vs)
sorted-trees order [] up i j d le below after = absurd (omega arith)
sorted-trees order (v ∷ vs) up i j d le below after =
    let count : length (map tree_of (v ∷ vs)) ≡ length (v ∷ vs) = length-map (v ∷ vs) tree_of in
    let fits : j < length (v ∷ vs) = omega (arith, count, below) in
    let first = get_or-map tree_of (v ∷ vs) i v d (omega (arith, fits, le)) in
    let second = get_or-map tree_of (v ∷ vs) j v d fits in
    let far = sorted_far (stands_before order) (stands_before-orders order) (v ∷ vs) up i j v le fits in
    let back = turned order (tree_of (get_or (v ∷ vs) i v)) (tree_of (get_or (v ∷ vs) j v))
    (sym (λ k. key_order order (first k) (second k)) ∙ after) in
    absurd (let no : true ≡ false = sym back ∙ far in cc)
