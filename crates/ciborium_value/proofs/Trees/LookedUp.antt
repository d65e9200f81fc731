-- What is looked up in a list of values, and in their trees.
use Rattle.std.proofs.Common.{◌≡◌, ◌∙◌, ℕ, zero, suc, ◌<◌, ◌≤◌, List, [], ◌∷◌, ◌++◌, length, get_or, take, drop, Option}
use Rattle.std.proofs.Common.{Some, None, option_map, Bor, true, if◌then◌else◌, refl, sym, ap, arith, take-append-drop}
use Rattle.std.{proofs.{Common.drop-cons, lemmas.List.get_or_default}, specs.{Option.option_or, Slice.IsItemAt}}
use Rattle.ciborium_value.specs.{Labels.{Label, is_label}, Lookups.{last_with, nth_tree, tree_label}, Tree.Tree}
use Rattle.ciborium_value.specs.{ValueLists.{trees_of, tree_pairs_of}, View.tree_of, declared.tree.Value.Value}

-- the item at an index
pub nth_within : (i : ℕ) (vs : List Value) (v : Value) → i < length vs → v ≡ get_or vs i v →
    Some (tree_of v) ≡ nth_tree i (trees_of vs)
nth_within i [] v h e = absurd (omega (arith, h))
nth_within zero (w ∷ vs) v h e = ap (λ x. Some (tree_of x)) e
nth_within (suc i) (w ∷ vs) v h e = nth_within i vs v (omega (arith, h)) e

pub nth_past : (i : ℕ) (vs : List Value) → length vs ≤ i → None ≡ nth_tree i (trees_of vs)
nth_past i [] h = refl
nth_past zero (w ∷ vs) h = absurd (omega (arith, h))
nth_past (suc i) (w ∷ vs) h = nth_past i vs (omega (arith, h))

pub nth_got : (i : ℕ) (vs : List Value) (r : Option (Bor Value)) → IsItemAt vs i r →
    option_map (λ v. tree_of v.now) r ≡ nth_tree i (trees_of vs)
nth_got i vs None h = nth_past i vs h.3
nth_got i vs (Some v) h = nth_within i vs v.now h.3.0 h.1

-- what is last in a list is last behind others
last_behind : (l : Label) (v : Tree) (ps qs : List (Value × Value)) → last_with l (tree_pairs_of qs) ≡ Some v →
    last_with l (tree_pairs_of (ps ++ qs)) ≡ Some v
last_behind l v [] qs e = e
last_behind l v (p ∷ ps) qs e =
    ap (λ o. option_or o (if is_label (tree_label (tree_of p.0)) l then Some (tree_of p.1) else None))
    (last_behind l v ps qs e)

-- a pair of the label is the last one if none behind it is
pub last_found : (l : Label) (ps : List (Value × Value)) (i : ℕ) (p : Value × Value) → i < length ps →
    last_with l (tree_pairs_of (drop (suc i) ps)) ≡ None → is_label (tree_label (tree_of (get_or ps i p).0)) l ≡ true →
    (d : Value × Value) → last_with l (tree_pairs_of ps) ≡ Some (tree_of (get_or ps i d).1)
last_found l ps i p h none is_it d =
    let q = get_or ps i p in
    let here : last_with l (tree_pairs_of (drop i ps)) ≡ Some (tree_of q.1) =
    ap (λ qs. last_with l (tree_pairs_of qs)) (drop-cons ps i p h) ∙
    ap (λ o. option_or o (if is_label (tree_label (tree_of q.0)) l then Some (tree_of q.1) else None)) none ∙
    ap (λ b. if b then Some (tree_of q.1) else None) is_it in
    ap (λ qs. last_with l (tree_pairs_of qs)) (sym (take-append-drop i ps)) ∙
    last_behind l (tree_of q.1) (take i ps) (drop i ps) here ∙
    ap (λ r. Some (tree_of r.1)) (get_or_default ps i p d h)
