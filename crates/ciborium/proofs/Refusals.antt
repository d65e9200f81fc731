-- What a literal of two pairs makes, and what it refuses.
use Rattle.std.proofs.Common.{◌≡◌, ◌∷◌, [], Ok, Err, List, Result, IfErr, true, refl}
use Rattle.ciborium_value.specs.{Places.a_map, Sinks.{Named, container_of, IsOwed}, Tree.Tree}
use Rattle.ciborium_value.specs.{TreeAnswers.tree_cause, declared.error.Error.Error}
use Rattle.ciborium_value.specs.{declared.error.Error.TheVariants.Custom, declared.tree.Value.Value}
use Rattle.ciborium.specs.Literals.{and_pair, both_trees, had_memory, map_tree, named_tree, part_tree}

-- unless memory was lacking, a refusal is the one that is named
pub refused-by : (r : Result Value Error) (n : Named) → (had_memory r ≡ true → part_tree r ≡ named_tree n) →
    IfErr r (λ e. IsOwed (tree_cause e) n)
refused-by (Err (Custom k)) (Ok i) made = let e = made refl in absurd cc
refused-by (Err (Custom k)) (Err j) made = let e = made refl in cc
refused-by u n made = tt

-- two pairs make the map of their parts
pub two-pairs : (a b c d : Named) {p0 p1 p2 : Result (List (Tree × Tree)) Error} {k v l w t : Result Tree Error} →
    p0 ≡ Ok [] → k ≡ named_tree a → v ≡ named_tree b → p1 ≡ and_pair p0 (both_trees k v) →
    l ≡ named_tree c → w ≡ named_tree d → p2 ≡ and_pair p1 (both_trees l w) → t ≡ map_tree p2 →
    t ≡ named_tree (container_of a_map (a ∷ b ∷ c ∷ d ∷ []))
two-pairs (Err j) b c d e0 k v e1 l w e2 e = rw (e, e2, e1, e0, k) refl
two-pairs (Ok a) (Err j) c d e0 k v e1 l w e2 e = rw (e, e2, e1, e0, k, v) refl
two-pairs (Ok a) (Ok b) (Err j) d e0 k v e1 l w e2 e = rw (e, e2, e1, e0, k, v, l) refl
two-pairs (Ok a) (Ok b) (Ok c) (Err j) e0 k v e1 l w e2 e = rw (e, e2, e1, e0, k, v, l, w) refl
two-pairs (Ok a) (Ok b) (Ok c) (Ok d) e0 k v e1 l w e2 e = rw (e, e2, e1, e0, k, v, l, w) refl
