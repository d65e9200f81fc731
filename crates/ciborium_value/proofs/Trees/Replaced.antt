-- What is replaced in a list of values, and in their trees.
use Rattle.std.proofs.Common.{◌≡◌, ◌∙◌, ℕ, zero, suc, ◌<◌, List, [], ◌∷◌, length, get_or, set, drop, Some, None, Option}
use Rattle.std.proofs.{Common.{true, if◌then◌else◌, refl, sym, ap, subst, arith}, lemmas.Bool.Decides.Decides-int_eq}
use Rattle.std.proofs.lemmas.{List.{get_or-set_same, length-set}, Slice.Eq.bytes_eq-Decides}
use Rattle.std.specs.{Option.option_or, Prelude.{◌≢◌, ◌&&◌, false, IsTrue, is_none}}
use Rattle.ciborium_value.{proofs.Trees.LookedUp.{last_found, nth_within}, specs.Labels.{Label, named, numbered, other}}
use Rattle.ciborium_value.specs.{Labels.is_label, Lookups.{last_with, nth_tree, replaced_last, replaced_nth}}
use Rattle.ciborium_value.specs.{Lookups.tree_label, Tree.{Tree, TreePairs, no_tree_pairs, tree, tree_pair}}
use Rattle.ciborium_value.specs.{ValueLists.{trees_of, tree_pairs_of}, View.tree_of, declared.tree.Value.Value}

-- a pair of the label has the new value, if none behind it has that label
pub tree_pairs_of-set : (l : Label) (w : Value) (ps : List (Value × Value)) (i : ℕ) (p : Value × Value) →
    i < length ps → last_with l (tree_pairs_of (drop (suc i) ps)) ≡ None →
    is_label (tree_label (tree_of (get_or ps i p).0)) l ≡ true →
    tree_pairs_of (set ps i ((get_or ps i p).0, w)) ≡ replaced_last l (tree_of w) (tree_pairs_of ps)
tree_pairs_of-set l w [] i p h none is_it = absurd (omega (arith, h))
tree_pairs_of-set l w (q ∷ qs) zero p h none is_it =
    let new = tree_pair (tree_of q.0) (tree_of w) (tree_pairs_of qs) in
    let kept = tree_pair (tree_of q.0) (tree_of q.1) (replaced_last l (tree_of w) (tree_pairs_of qs)) in
    sym (ap (λ o. if is_none o && is_label (tree_label (tree_of q.0)) l then new else kept) none ∙
    ap (λ b. if b then new else kept) is_it)
tree_pairs_of-set l w (q ∷ qs) (suc i) p h none is_it =
    let new = tree_pair (tree_of q.0) (tree_of w) (tree_pairs_of qs) in
    let kept = tree_pair (tree_of q.0) (tree_of q.1) (replaced_last l (tree_of w) (tree_pairs_of qs)) in
    ap (tree_pair (tree_of q.0) (tree_of q.1)) (tree_pairs_of-set l w qs i p (omega (arith, h)) none is_it) ∙
    sym (ap (λ o. if is_none o && is_label (tree_label (tree_of q.0)) l then new else kept)
    (last_found l qs i p (omega (arith, h)) none is_it p))

-- and is then what is found
pub replaced-found : (l : Label) (w v : Tree) (ps : TreePairs) → last_with l ps ≡ Some v →
    last_with l (replaced_last l w ps) ≡ Some w
replaced-found l w v no_tree_pairs found = cc
replaced-found l w v (tree_pair k x ps) found = elim (last_with l ps) as (λ o. last_with l ps ≡ o →
    option_or o (if is_label (tree_label k) l then Some x else None) ≡ Some v →
    last_with l (if is_none o && is_label (tree_label k) l then tree_pair k w ps
    else tree_pair k x (replaced_last l w ps)) ≡ Some w) [
      | Some y ↦ λ e h. ap (λ o. option_or o (if is_label (tree_label k) l then Some x else None))
          (replaced-found l w y ps e)
      | None ↦ λ e. elim (is_label (tree_label k) l) as (λ b. is_label (tree_label k) l ≡ b →
          (if b then Some x else None) ≡ Some v → last_with l (if b then tree_pair k w ps
          else tree_pair k x (replaced_last l w ps)) ≡ Some w) [
            | true ↦ λ is h. rw (e, is)
            | false ↦ λ is h. cc
          ] refl
    ] refl found

same_label : (k l : Label) → IsTrue (is_label k l) → k ≡ l
same_label (named a) (named b) e = ap named ((bytes_eq-Decides a b).0 e)
same_label (numbered y) (numbered z) e = ap numbered ((Decides-int_eq y z).0 e)
same_label (named a) (numbered z) e = absurd cc
same_label (named a) other e = absurd cc
same_label (numbered y) (named b) e = absurd cc
same_label (numbered y) other e = absurd cc
same_label other l e = absurd cc

-- no key has two labels
no_other : (m k l : Label) → m ≢ l → is_label k l ≡ true → is_label k m ≡ false
no_other m k l apart e = elim (is_label k m) as (λ b. is_label k m ≡ b → b ≡ false) [
  | false ↦ λ f. refl
  | true ↦ λ f. absurd (apart (sym (same_label k m f) ∙ same_label k l e))
] refl

-- so what is found of another label stays
pub replaced-other : (m l : Label) (w : Tree) (ps : TreePairs) → m ≢ l →
    last_with m (replaced_last l w ps) ≡ last_with m ps
replaced-other m l w no_tree_pairs apart = refl
replaced-other m l w (tree_pair k x ps) apart =
    let same = replaced-other m l w ps apart in let later : Option Tree → Option Tree =
    λ o. option_or o (if is_label (tree_label k) m then Some x else None) in elim (last_with l ps) as (λ o.
    last_with m (if is_none o && is_label (tree_label k) l then tree_pair k w ps
    else tree_pair k x (replaced_last l w ps)) ≡ later (last_with m ps)) [
      | Some y ↦ ap later same
      | None ↦ elim (is_label (tree_label k) l) as (λ b. is_label (tree_label k) l ≡ b → last_with m (if b
          then tree_pair k w ps else tree_pair k x (replaced_last l w ps)) ≡ later (last_with m ps)) [
            | true ↦ λ is. rw (no_other m (tree_label k) l apart is)
            | false ↦ λ is. ap later same
          ] refl
    ]

-- the same of items
pub trees_of-set : (i : ℕ) (w : Value) (vs : List Value) →
    trees_of (set vs i w) ≡ replaced_nth i (tree_of w) (trees_of vs)
trees_of-set i w [] = refl
trees_of-set zero w (v ∷ vs) = refl
trees_of-set (suc i) w (v ∷ vs) = ap (tree (tree_of v)) (trees_of-set i w vs)

pub nth_tree-set : (i : ℕ) (w : Value) (vs : List Value) → i < length vs →
    nth_tree i (trees_of (set vs i w)) ≡ Some (tree_of w)
nth_tree-set i w vs h = sym (nth_within i (set vs i w) w (subst (λ n. i < n) (sym (length-set vs i w)) h)
    (sym (get_or-set_same vs i w w h)))

pub nth_tree-set_other : (j i : ℕ) (w : Value) (vs : List Value) → j ≢ i →
    nth_tree j (trees_of (set vs i w)) ≡ nth_tree j (trees_of vs)
nth_tree-set_other j i w [] apart = refl
nth_tree-set_other zero zero w (v ∷ vs) apart = absurd (apart refl)
nth_tree-set_other zero (suc i) w (v ∷ vs) apart = refl
nth_tree-set_other (suc j) zero w (v ∷ vs) apart = refl
nth_tree-set_other (suc j) (suc i) w (v ∷ vs) apart = nth_tree-set_other j i w vs (λ e. apart (ap suc e))
