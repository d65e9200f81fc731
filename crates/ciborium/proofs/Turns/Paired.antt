-- Keys and values in turn are pairs.
use Rattle.std.proofs.Common.{◌≡◌, List, [], ◌∷◌, ◌++◌, Some, None, refl, ap}
use Rattle.ciborium_value.specs.{Tree.Tree, View.tree_pairs_from, inner.ReadItems.pairs_in}
use Rattle.ciborium.specs.inner.Around.{trees_in_turn}
use Rattle.ciborium_value.specs.Tree as trees

pub in_turn-key : (ps : List (Tree × Tree)) (k : Tree) → trees_in_turn ps None ++ k ∷ [] ≡ trees_in_turn ps (Some k)
in_turn-key [] k = refl
in_turn-key (p ∷ ps) k = ap (λ vs. p.0 ∷ p.1 ∷ vs) (in_turn-key ps k)

pub in_turn-value : (ps : List (Tree × Tree)) (k v : Tree) →
    trees_in_turn ps (Some k) ++ v ∷ [] ≡ trees_in_turn (ps ++ (k, v) ∷ []) None
in_turn-value [] k v = refl
in_turn-value (p ∷ ps) k v = ap (λ vs. p.0 ∷ p.1 ∷ vs) (in_turn-value ps k v)

pub turns-paired : (ps : List (Tree × Tree)) → pairs_in (trees_in_turn ps None) ≡ tree_pairs_from ps
turns-paired [] = refl
turns-paired (p ∷ ps) = ap (trees.tree_pair p.0 p.1) (turns-paired ps)
