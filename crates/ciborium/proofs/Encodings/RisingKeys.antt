-- The keys of a map by ordered values rise in the order of their encodings.
use Rattle.std.proofs.Common.{false, Less, ◌≡◌, List, [], ◌∷◌, map, Result, Ok, Err, refl, sym, ◌∙◌, ap, subst}
use Rattle.std.specs.{List.Sorted.IsStrictlySortedBy, List.AllByRecursion, Map.keys_of}
use Rattle.ciborium_ll.specs.{Item.Item, declared.kind.Kind.Kind}
use Rattle.ciborium_value.specs.{Canonical.key_order, OrderedValues.ordered_value_cmp, Encoding.item_of}
use Rattle.ciborium_value.specs.{Places.{a_map, pairs_from}, ProperTrees.IsProperTree, Sinks.{Named, and_then}}
use Rattle.ciborium_value.specs.{Sinks.{all_named, contained, container_of, in_turn, named_value}, View.tree_of}
use Rattle.ciborium_value.specs.WrittenItems.{IsWritten, PairsAreWritten}
use Rattle.ciborium_value.specs.{declared.key_order.KeyOrder.KeyOrder, declared.tree.Value.Value}
use Rattle.ciborium_value.proofs.{Writing.Progress.and_then_is, Writing.ReadBack.written_tree_is_proper}
use Rattle.ciborium.proofs.Encodings.OrderedValues.{is_order_of_trees}
use Rattle.ciborium.specs.{laws.OrdersOfValues.KeysRise, Writes.IsNamedWritten}

-- the keys of a map that can be written are trees that a program can hold
proper_keys : {A : Type 0} (f : A → Named) (es : List (Value × A)) (is : List Item) →
    all_named (in_turn named_value f es) ≡ Ok is → PairsAreWritten (pairs_from is) →
    AllByRecursion (λ v. IsProperTree (tree_of v)) (keys_of es)
proper_keys f [] is h w = tt
proper_keys f (e ∷ es) is h w =
    let a = and_then_is (named_value e.0) (and_then (f e.1) (all_named (in_turn named_value f es))) is h in
    let b = and_then_is (f e.1) (all_named (in_turn named_value f es)) a.1 a.3 in
    let split : is ≡ a.0 ∷ b.0 ∷ b.1 = a.4 ∙ ap (λ l. a.0 ∷ l) b.4 in
    let parts : PairsAreWritten (pairs_from (a.0 ∷ b.0 ∷ b.1)) = subst (λ l. PairsAreWritten (pairs_from l)) split w in
    let same : item_of (tree_of e.0) ≡ a.0 = ok_is (item_of (tree_of e.0)) a.0 a.2 in
    (written_tree_is_proper (tree_of e.0) (subst IsWritten (sym same) parts.0), proper_keys f es b.1 b.3 parts.2)
  where
    ok_is : (i j : Item) → ◌≡◌ {A = Named} (Ok i) (Ok j) → i ≡ j
    ok_is i j h = cc

module _ (o : KeyOrder) where
  below_all : (v : Value) (ws : List Value) → IsProperTree (tree_of v) →
      AllByRecursion (λ w. IsProperTree (tree_of w)) ws → AllByRecursion (λ w. ordered_value_cmp o v w ≡ Less) ws →
      AllByRecursion (λ t. key_order o (tree_of v) t ≡ Less) (map tree_of ws)
  below_all v [] proper each below = tt
  below_all v (w ∷ ws) proper each below = (
    sym (is_order_of_trees o v w proper each.0) ∙ below.0,
    below_all v ws proper each.1 below.1,
  )

  rising : (vs : List Value) → AllByRecursion (λ v. IsProperTree (tree_of v)) vs →
      IsStrictlySortedBy (ordered_value_cmp o) vs → IsStrictlySortedBy (key_order o) (map tree_of vs)
  unfolding IsStrictlySortedBy
  rising [] proper h = tt
  rising (v ∷ vs) proper h = (below_all v vs proper.0 proper.1 h.0, rising vs proper.1 h.1)

  pub keys-rise : {A : Type 0} (f : A → Named) (es : List (Value × A)) → IsStrictlySortedBy (ordered_value_cmp o)
      (keys_of es) → IsNamedWritten (container_of a_map (in_turn named_value f es)) → KeysRise o es
  keys-rise f es h w = by (all_named (in_turn named_value f es)) refl w
    where
      by : (r : Result (List Item) Kind) → all_named (in_turn named_value f es) ≡ r →
          IsNamedWritten (contained a_map false r) → KeysRise o es
      by (Err k) e w = absurd w
      by (Ok is) e w = rising (keys_of es) (proper_keys f es is e w.1) h
