-- A type that holds itself: what its values are as trees, and which trees they are.
use Rattle.std.{proofs.Common.{ap, ◌∙◌}, specs.Prelude.{◌≡◌, pos, negsuc, Bool, true, false, ◌&&◌, nat_lt, Some}}
use Rattle.std.specs.Prelude.{option_map, refl}
use Rattle.ciborium.specs.{DeterministicForms.{deterministic_form, deterministic_forms, one_more}, Encoding.item_of}
use Rattle.ciborium.specs.{Encoding.items_of, Folded.{folded, trees_folded}, Given.{chosen, give, given_value, gives}}
use Rattle.ciborium.specs.{Given.{outcome_map, refuse}, GivenParts.given_then, Meaning.trees_more, Nesting.nesting}
use Rattle.ciborium.specs.{Number.number_tree, ReadsBack.{IsNameRead, Way, met-itself, named}, Tree.{Tree, Trees}}
use Rattle.ciborium.specs.{View.trees_from, WrittenTrees.{written_tree, written_trees}, lemmas.Descriptions.both}
use Rattle.ciborium.specs.{lemmas.ItemsOfTrees.tree_is_written_as_itself, lemmas.ReadsBackParts.such_that_back}
use Rattle.ciborium.specs.lemmas.ReadsBackValues.{value-back}
use Rattle.ciborium_value.specs.declared.key_order.KeyOrder.{KeyOrder}
use Rattle.ciborium_ll.specs.declared.kind.Kind.TheVariants.{Other}
use Rattle.ciborium_examples.specs.declared.tree_types.NumberTree.{NumberTree, fold-NumberTree, TheOpen.NumberTree-F}
use Rattle.ciborium.specs.Tree as trees

-- one level, where each value inside is its tree already
abbrev pub number_level_tree : NumberTree-F Tree → Tree
number_level_tree (NumberTree-F.Leaf n) = number_tree (pos n)
number_level_tree (NumberTree-F.Node parts) = trees.array (trees_from parts.items)

-- a leaf is its number, and a node the array of its parts
abbrev pub shape_of : NumberTree → Tree
shape_of = fold-NumberTree Tree number_level_tree

abbrev mutual
  -- a number below 256, or an array of such trees
  pub is_number_tree : Tree → Bool
  is_number_tree (trees.integer (pos n)) = nat_lt n 256
  is_number_tree (trees.array vs) = are_number_trees vs
  is_number_tree _ = false

  pub are_number_trees : Trees → Bool
  are_number_trees trees.no_trees = true
  are_number_trees (trees.tree v vs) = is_number_tree v && are_number_trees vs

mutual
  folded-number_tree : (t : Tree) → is_number_tree t ≡ true → folded t ≡ Some t
  folded-number_tree (trees.integer (pos n)) h = refl
  folded-number_tree (trees.array vs) h = ap (option_map trees.array) (folded-number_trees vs h)
  folded-number_tree _ h = cc

  folded-number_trees : (vs : Trees) → are_number_trees vs ≡ true → trees_folded vs ≡ Some vs
  folded-number_trees trees.no_trees h = refl
  folded-number_trees (trees.tree v vs) h =
      let parts = both (is_number_tree v) (are_number_trees vs) h in
      ap (λ o. trees_more o (trees_folded vs)) (folded-number_tree v parts.0) ∙
      ap (trees_more (Some v)) (folded-number_trees vs parts.1)

-- no map stands in such a tree, so it is its own form
mutual
  own-number_tree : (o : KeyOrder) (t : Tree) → is_number_tree t ≡ true →
      deterministic_form o (written_tree (item_of t)) ≡ gives (written_tree (item_of t))
  own-number_tree o (trees.integer (pos n)) h = refl
  own-number_tree o (trees.array vs) h = ap (outcome_map trees.array) (own-number_trees o vs h)
  own-number_tree o _ h = cc

  own-number_trees : (o : KeyOrder) (vs : Trees) → are_number_trees vs ≡ true →
      deterministic_forms o (written_trees (items_of vs)) ≡ gives (written_trees (items_of vs))
  own-number_trees o trees.no_trees h = refl
  own-number_trees o (trees.tree v vs) h =
      let parts = both (is_number_tree v) (are_number_trees vs) h in
      ap (λ r. one_more r (deterministic_forms o (written_trees (items_of vs))))
      (own-number_tree o v parts.0) ∙
      ap (one_more (gives (written_tree (item_of v)))) (own-number_trees o vs parts.1)

-- such a tree is read back, and no other one
pub number_tree-back : (way : Way) (t : Tree) → is_number_tree t ≡ true → IsNameRead way (named (item_of t))
    (given_then given_value (λ v. chosen (is_number_tree v) (give v) (refuse Other))) t (nesting (item_of t))
number_tree-back way t h = such_that_back is_number_tree Other
    (value-back t (met-itself (item_of t) (ap item_of (tree_is_written_as_itself t))
    (λ o. own-number_tree o t h) way) (folded-number_tree t h)) h
