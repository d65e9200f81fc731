-- Counts of nodes along lists, and of visits.
use Rattle.std.proofs.Common.{◌≡◌, ℕ, suc, ◌+◌, ◌*◌, ◌^◌, ◌<◌, ◌≤◌, List, take, true, false, refl, sym, ap, ◌∙◌, arith}
use Rattle.std.{proofs.Common.{Ordering, Equal}, specs.Ordering.is_ne}
use Rattle.ciborium_value.{proofs.Trees.Elements.{At, here, behind}, specs.Counts.{node_count, trees_node_count}}
use Rattle.ciborium_value.specs.{Counts.tree_pairs_node_count, Tree.Tree, ValueLists.{trees_of, tree_pairs_of}}
use Rattle.ciborium_value.specs.{View.tree_of, Visits.{AddsVisits, AddsAtMost, both_node_count, saturated}}
use Rattle.ciborium_value.specs.declared.tree.Value.{Value}

-- ---- nodes

-- one more value, and up to it there are no more than in all
pub trees_node_count-more : {i : ℕ} {vs : List Value} {v : Value} → At i vs v →
    trees_node_count (trees_of (take (suc i) vs)) ≡ trees_node_count (trees_of (take i vs)) + node_count (tree_of v)
trees_node_count-more here = omega arith
trees_node_count-more (behind a) = let more = trees_node_count-more a in omega (arith, more)

trees_node_count-next : {i : ℕ} {vs : List Value} {v : Value} → At i vs v →
    trees_node_count (trees_of (take i vs)) + node_count (tree_of v) ≤ trees_node_count (trees_of vs)
trees_node_count-next here = omega arith
trees_node_count-next (behind a) = let next = trees_node_count-next a in omega (arith, next)

-- one more pair, and up to it there are no more than in all
pub tree_pairs_node_count-more : {i : ℕ} {ps : List (Value × Value)} {p : Value × Value} → At i ps p →
    tree_pairs_node_count (tree_pairs_of (take (suc i) ps)) ≡ tree_pairs_node_count (tree_pairs_of (take i ps)) +
    both_node_count (tree_of p.0) (tree_of p.1)
tree_pairs_node_count-more here = omega arith
tree_pairs_node_count-more (behind a) = let more = tree_pairs_node_count-more a in omega (arith, more)

tree_pairs_node_count-next : {i : ℕ} {ps : List (Value × Value)} {p : Value × Value} → At i ps p →
    tree_pairs_node_count (tree_pairs_of (take i ps)) + both_node_count (tree_of p.0) (tree_of p.1) ≤
    tree_pairs_node_count (tree_pairs_of ps)
tree_pairs_node_count-next here = omega arith
tree_pairs_node_count-next (behind a) = let next = tree_pairs_node_count-next a in omega (arith, next)

-- ---- visits

pub AddsVisits-then : (k m n old mid new : ℕ) → k ≡ m + n → AddsVisits m old mid → AddsVisits n mid new →
    AddsVisits k old new
AddsVisits-then k m n old mid new sum h l = omega (arith, sum, h, l)

-- an exact count, and then a walk of some of the rest that found a difference
AddsAtMost-differ : {n old mid new : ℕ} {o : Ordering} (k m : ℕ) → old < 2 ^ 64 → m + n ≤ k → is_ne o ≡ true →
    AddsVisits m old mid → AddsAtMost n o mid new → AddsAtMost k o old new
AddsAtMost-differ k m fits sum ne h l =
    let more = l.more in
    let most = l.most in
    record {
      more = omega (arith, fits, h, more);
      most = omega (arith, sum, h, most);
      all = λ e. absurd (let no : true ≡ false = sym ne ∙ ap is_ne e in cc);
    }

-- ---- along two lists

abbrev items_visits : ℕ → List Value → List Value → ℕ
items_visits i vs ws = trees_node_count (trees_of (take i vs)) + trees_node_count (trees_of (take i ws))

abbrev pairs_visits : ℕ → List (Value × Value) → List (Value × Value) → ℕ
pairs_visits i ps qs = tree_pairs_node_count (tree_pairs_of (take i ps)) + tree_pairs_node_count
    (tree_pairs_of (take i qs))

module _ {i : ℕ} {vs ws : List Value} {v w : Value} {o : Ordering} {mid new : ℕ} (old : ℕ) where
  pub items_visits-differ : At i vs v → At i ws w → old < 2 ^ 64 → is_ne o ≡ true →
      AddsVisits (items_visits i vs ws) old mid → AddsAtMost (both_node_count (tree_of v) (tree_of w)) o mid new →
      AddsAtMost (trees_node_count (trees_of vs) + trees_node_count (trees_of ws)) o old new
  items_visits-differ a b fits ne before now =
      let left = trees_node_count-next a in
      let right = trees_node_count-next b in
      AddsAtMost-differ _ (items_visits i vs ws) fits (omega (arith, left, right)) ne before now

  pub items_visits-same : At i vs v → At i ws w → o ≡ Equal → AddsVisits (items_visits i vs ws) old mid
      → AddsAtMost (both_node_count (tree_of v) (tree_of w)) o mid new
      → AddsVisits (items_visits (suc i) vs ws) old new
  items_visits-same a b e before now =
      let left = trees_node_count-more a in
      let right = trees_node_count-more b in
      AddsVisits-then _ (items_visits i vs ws) _ old mid new (omega (arith, left, right)) before (now.all e)

module _ {i : ℕ} {ps qs : List (Value × Value)} {p q : Value × Value} {o : Ordering} {mid new : ℕ} (old : ℕ) where
  pub keys_visits-differ : At i ps p → At i qs q → old < 2 ^ 64 → is_ne o ≡ true →
      AddsVisits (pairs_visits i ps qs) old mid → AddsAtMost (both_node_count (tree_of p.0) (tree_of q.0)) o mid new →
      AddsAtMost (tree_pairs_node_count (tree_pairs_of ps) + tree_pairs_node_count (tree_pairs_of qs)) o old new
  keys_visits-differ a b fits ne before now =
      let left = tree_pairs_node_count-next a in
      let right = tree_pairs_node_count-next b in
      AddsAtMost-differ _ (pairs_visits i ps qs) fits (omega (arith, left, right)) ne before now

  pub values_visits-differ : {n : Ordering} {key : ℕ} → At i ps p → At i qs q → old < 2 ^ 64 → n ≡ Equal →
      is_ne o ≡ true → AddsVisits (pairs_visits i ps qs) old mid
      → AddsAtMost (both_node_count (tree_of p.0) (tree_of q.0)) n mid key →
      AddsAtMost (both_node_count (tree_of p.1) (tree_of q.1)) o key new
      → AddsAtMost (tree_pairs_node_count (tree_pairs_of ps) + tree_pairs_node_count (tree_pairs_of qs)) o old new
  values_visits-differ a b fits e ne before keys now =
      let left = tree_pairs_node_count-next a in
      let right = tree_pairs_node_count-next b in
      AddsAtMost-differ _ (pairs_visits i ps qs + both_node_count (tree_of p.0) (tree_of q.0)) fits
      (omega (arith, left, right)) ne (AddsVisits-then _ _ _ old _ _ refl before (keys.all e)) now

  pub pairs_visits-same : {n : Ordering} {key : ℕ} → At i ps p → At i qs q → n ≡ Equal → o ≡ Equal →
      AddsVisits (pairs_visits i ps qs) old mid → AddsAtMost (both_node_count (tree_of p.0) (tree_of q.0)) n mid key →
      AddsAtMost (both_node_count (tree_of p.1) (tree_of q.1)) o key new
      → AddsVisits (pairs_visits (suc i) ps qs) old new
  pairs_visits-same a b e f before keys now =
      let left = tree_pairs_node_count-more a in
      let right = tree_pairs_node_count-more b in
      AddsVisits-then _ _ _ old _ new (omega (arith, left, right))
      (AddsVisits-then _ _ _ old _ _ refl before (keys.all e)) (now.all f)

-- ---- both walks

-- a walk over each value, and then one side by side
pub both_walks-most : (v w : Tree) (answer : Ordering) (one two three : ℕ) → three < 2 ^ 64 →
    AddsVisits (node_count v) 0 one → AddsVisits (node_count w) one two
    → AddsAtMost (both_node_count v w) answer two three → three ≤ saturated (2 * both_node_count v w)
both_walks-most v w answer one two three fits h k l = let most = l.most in omega (arith, h, k, most)

pub both_walks-all : (v w : Tree) (answer : Ordering) (one two three : ℕ) → AddsVisits (node_count v) 0 one →
    AddsVisits (node_count w) one two
    → AddsAtMost (both_node_count v w) answer two three → answer ≡ Equal → three ≡ saturated (2 * both_node_count v w)
both_walks-all v w answer one two three h k l e = let all = l.all e in omega (arith, h, k, all)

-- one walk, side by side
pub one_walk-all : (v w : Tree) (answer : Ordering) (new : ℕ) → AddsAtMost (both_node_count v w) answer 0 new →
    answer ≡ Equal → new ≡ saturated (both_node_count v w)
one_walk-all v w answer new l e = let all = l.all e in omega (arith, all)
