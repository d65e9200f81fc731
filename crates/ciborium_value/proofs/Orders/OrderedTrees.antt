-- The order of trees ties a tree with itself alone.
use Rattle.std.proofs.Common.{◌≡◌, Bool, true, false, refl, sym, ap, ◌∙◌, Ordering, Equal, is_eq, IsTrue, ◌↔◌}
use Rattle.std.proofs.lemmas.Cmp.{tied_itself, nat_list_cmp_total, nat_cmp_total, int_cmp_total}
use Rattle.std.specs.{Cmp.bool_cmp_total, FinMap.{nat_cmp-IsAntisymmetric, int_cmp-IsAntisymmetric}}
use Rattle.std.specs.{FinMap.slice_cmp-IsAntisymmetric, Ordering.{nat_cmp, bool_cmp, ordering_then}}
use Rattle.ciborium_value.specs.Tree.{Tree, integer, bytes, text, boolean, null, tag, array, map, Trees, no_trees, tree}
use Rattle.ciborium_value.specs.{Tree.{TreePairs, no_tree_pairs, tree_pair}, Order.{tree_cmp, trees_cmp}}
use Rattle.ciborium_value.specs.{Order.tree_pairs_cmp, laws.OrderLaws.{TiedWhereEqual, EqualAsTrees, OrderedAsTrees}}
use Rattle.ciborium_value.specs.{laws.OrderLaws.PartlyOrderedAsTrees, Derived.value_eq, View.tree_of}
use Rattle.ciborium_value.specs.lemmas.DerivedOrder.{value_cmp-is}
use Rattle.ciborium_value.proofs.{Orders.Derived.{value_eq-is, value_partial_cmp-is}, Orders.SideBySide.both_tied}

same_boolean : (x y : Bool) → bool_cmp x y ≡ Equal → x ≡ y
same_boolean true true e = refl
same_boolean false false e = refl
same_boolean u v e = absurd cc

mutual
  same_tree : (v w : Tree) → tree_cmp v w ≡ Equal → v ≡ w
  same_tree (integer x) (integer y) e = ap integer (int_cmp-IsAntisymmetric x y e)
  same_tree (bytes x) (bytes y) e = ap bytes (slice_cmp-IsAntisymmetric nat_cmp-IsAntisymmetric x y e)
  same_tree (text x) (text y) e = ap text (slice_cmp-IsAntisymmetric nat_cmp-IsAntisymmetric x y e)
  same_tree (boolean x) (boolean y) e = ap boolean (same_boolean x y e)
  same_tree null null e = refl
  same_tree (tag t v) (tag u w) e =
      let tied = both_tied (nat_cmp t u) (tree_cmp v w) e in
      ap (λ z. tag z v) (nat_cmp-IsAntisymmetric t u tied.0) ∙ ap (tag u) (same_tree v w tied.1)
  same_tree (array vs) (array ws) e = ap array (same_trees vs ws e)
  same_tree (map ps) (map qs) e = ap map (same_pairs ps qs e)
  same_tree v w e = absurd cc

  same_trees : (vs ws : Trees) → trees_cmp vs ws ≡ Equal → vs ≡ ws
  same_trees no_trees no_trees e = refl
  same_trees (tree v vs) (tree w ws) e =
      let tied = both_tied (tree_cmp v w) (trees_cmp vs ws) e in
      ap (λ z. tree z vs) (same_tree v w tied.0) ∙ ap (tree w) (same_trees vs ws tied.1)
  same_trees u v e = absurd cc

  same_pairs : (ps qs : TreePairs) → tree_pairs_cmp ps qs ≡ Equal → ps ≡ qs
  same_pairs no_tree_pairs no_tree_pairs e = refl
  same_pairs (tree_pair k v ps) (tree_pair l w qs) e =
      let tied = both_tied (ordering_then (tree_cmp k l) (tree_cmp v w)) (tree_pairs_cmp ps qs) e in
      let pair_tied = both_tied (tree_cmp k l) (tree_cmp v w) tied.0 in
      ap (λ z. tree_pair z v ps) (same_tree k l pair_tied.0) ∙ ap (λ z. tree_pair l z ps) (same_tree v w pair_tied.1) ∙
      ap (tree_pair l w) (same_pairs ps qs tied.1)
  same_pairs u v e = absurd cc

mutual
  itself : (v : Tree) → tree_cmp v v ≡ Equal
  itself (integer x) = tied_itself int_cmp_total x
  itself (bytes x) = tied_itself nat_list_cmp_total x
  itself (text x) = tied_itself nat_list_cmp_total x
  itself (boolean x) = tied_itself bool_cmp_total x
  itself null = refl
  itself (tag t v) = ap (λ o. ordering_then o (tree_cmp v v)) (tied_itself nat_cmp_total t) ∙ itself v
  itself (array vs) = trees_itself vs
  itself (map ps) = pairs_itself ps

  trees_itself : (vs : Trees) → trees_cmp vs vs ≡ Equal
  trees_itself no_trees = refl
  trees_itself (tree v vs) = ap (λ o. ordering_then o (trees_cmp vs vs)) (itself v) ∙ trees_itself vs

  pairs_itself : (ps : TreePairs) → tree_pairs_cmp ps ps ≡ Equal
  pairs_itself no_tree_pairs = refl
  pairs_itself (tree_pair k v ps) = ap (λ o. ordering_then (ordering_then o (tree_cmp v v)) (tree_pairs_cmp ps ps))
      (itself k) ∙ ap (λ o. ordering_then o (tree_pairs_cmp ps ps)) (itself v) ∙ pairs_itself ps

pub tied_where_equal : TiedWhereEqual
tied_where_equal v w = (same_tree v w, λ e. ap (tree_cmp v) (sym e) ∙ itself v)

is_tied : (o : Ordering) → is_eq o ≡ true → o ≡ Equal
is_tied Equal e = refl
is_tied u e = absurd cc

-- a test that is the order's is equality
tested : (v w : Tree) (b : Bool) → b ≡ is_eq (tree_cmp v w) → IsTrue b ↔ (v ≡ w)
tested v w b e =
    let tied = tied_where_equal v w in
    (λ t. tied.0 (is_tied (tree_cmp v w) (sym e ∙ t)), λ s. e ∙ ap is_eq (tied.1 s))

pub equal_as_trees : EqualAsTrees
equal_as_trees v w = tested (tree_of v) (tree_of w) (value_eq v w) (value_eq-is v w)

pub ordered_as_trees : OrderedAsTrees
ordered_as_trees = value_cmp-is

pub partly_ordered_as_trees : PartlyOrderedAsTrees
partly_ordered_as_trees = value_partial_cmp-is
