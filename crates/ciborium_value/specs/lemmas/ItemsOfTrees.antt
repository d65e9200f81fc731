-- The tree of a tree's item is that tree, and the item of an integer or a boolean means it.
use Rattle.std.{proofs.Common.{ap, ◌∙◌}, specs.Prelude.{◌≡◌, ℤ, pos, negsuc, Bool, false, true, refl, Some}}
use Rattle.ciborium_value.specs.{Encoding.{item_of, items_of, pairs_of}, Folded.folded, Meaning.simple_meaning}
use Rattle.ciborium_value.specs.{Tree.{Tree, Trees, TreePairs}, WrittenItems.TreeIsWrittenAsItself}
use Rattle.ciborium_value.specs.WrittenTrees.{written_tree, written_trees, written_pairs}
use Rattle.ciborium_value.specs.Tree as trees

pub integer-folded : (z : ℤ) → folded (trees.integer z) ≡ Some (trees.integer z)
integer-folded (pos n) = refl
integer-folded (negsuc n) = refl

pub boolean-folded : (b : Bool) → folded (trees.boolean b) ≡ Some (trees.boolean b)
unfolding simple_meaning
boolean-folded false = refl
boolean-folded true = refl

mutual
  itself : (v : Tree) → written_tree (item_of v) ≡ v
  itself (trees.integer (pos n)) = refl
  itself (trees.integer (negsuc n)) = refl
  itself (trees.boolean false) = refl
  itself (trees.boolean true) = refl
  itself (trees.tag t v) = ap (trees.tag t) (itself v)
  itself (trees.array vs) = ap trees.array (all_itself vs)
  itself (trees.map ps) = ap trees.map (pairs_itself ps)
  itself _ = refl

  all_itself : (vs : Trees) → written_trees (items_of vs) ≡ vs
  all_itself trees.no_trees = refl
  all_itself (trees.tree v vs) = ap (λ w. trees.tree w (written_trees (items_of vs))) (itself v) ∙
      ap (trees.tree v) (all_itself vs)

  pairs_itself : (ps : TreePairs) → written_pairs (pairs_of ps) ≡ ps
  pairs_itself trees.no_tree_pairs = refl
  pairs_itself (trees.tree_pair k v ps) =
      ap (λ w. trees.tree_pair w (written_tree (item_of v)) (written_pairs (pairs_of ps))) (itself k) ∙
      ap (λ w. trees.tree_pair k w (written_pairs (pairs_of ps))) (itself v) ∙
      ap (trees.tree_pair k v) (pairs_itself ps)

pub tree_is_written_as_itself : TreeIsWrittenAsItself
tree_is_written_as_itself v = itself v
