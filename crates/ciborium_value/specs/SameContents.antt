-- Trees that are equal but for the order of the pairs of their maps, and for the folding of
-- bignums.
use Rattle.std.specs.Prelude.{◌≡◌, ℕ, List, Some}
use Rattle.ciborium_value.specs.{Folded.tree_folding_bytes, Meaning.bignum_meaning, Tree.{Tree, tag, array, map, Trees}}
use Rattle.ciborium_value.specs.Tree.{no_trees, tree, TreePairs, no_tree_pairs, tree_pair}

mutual
  pub data IsAlike : Tree → Tree → Type 0 where
    itself : {v : Tree} → IsAlike v v
    turned : {v w : Tree} → IsAlike v w → IsAlike w v
    through : {v w u : Tree} → IsAlike v w → IsAlike w u → IsAlike v u
    -- a tag over bytes on which it folds, and what they mean
    folds : {t : ℕ} {v w : Tree} (b : List ℕ) → tree_folding_bytes t v ≡ Some b →
        bignum_meaning t b ≡ Some w → IsAlike (tag t v) w
    in_tag : {t : ℕ} {v w : Tree} → IsAlike v w → IsAlike (tag t v) (tag t w)
    in_array : {vs ws : Trees} → AreAlike vs ws → IsAlike (array vs) (array ws)
    in_map : {ps qs : TreePairs} → PairsAreAlike ps qs → IsAlike (map ps) (map qs)

  -- each tree and the one at its place
  pub data AreAlike : Trees → Trees → Type 0 where
    none : AreAlike no_trees no_trees
    more : {v w : Tree} {vs ws : Trees} → IsAlike v w → AreAlike vs ws → AreAlike (tree v vs) (tree w ws)

  -- each pair and one of the others, in any order
  pub data PairsAreAlike : TreePairs → TreePairs → Type 0 where
    no_pairs : PairsAreAlike no_tree_pairs no_tree_pairs
    more_pairs : {k l v w : Tree} {ps qs : TreePairs} → IsAlike k l → IsAlike v w →
        PairsAreAlike ps qs → PairsAreAlike (tree_pair k v ps) (tree_pair l w qs)
    exchanged : {k l v w : Tree} {ps : TreePairs} →
        PairsAreAlike (tree_pair k v (tree_pair l w ps)) (tree_pair l w (tree_pair k v ps))
    one_after_another : {ps qs rs : TreePairs} → PairsAreAlike ps qs → PairsAreAlike qs rs → PairsAreAlike ps rs
