-- A text denotes one tree at most.
use Rattle.std.proofs.Common.{◌≡◌, ℕ, Bool, true, false, List, sym, ap, ◌∙◌, subst}
use Rattle.ciborium_value.specs.Denotes.{BeginsTree, BeginsItems, BeginsPairs, IsSeparated, IsToken, alone, item}
use Rattle.ciborium_value.specs.Denotes.{listed, mapped, no_item, no_pair, pair, tagged}
use Rattle.ciborium_value.specs.Tokens.{begin_array, begin_map, begin_tag, colon, comma, end_tag, leaf}
use Rattle.ciborium_value.specs.Tree.{Tree, TreePairs, Trees}
use Rattle.ciborium_value.specs.laws.NotationLaws.{OneTreeIsDenoted}
use Rattle.ciborium_value.proofs.Denoting.Steps.{begun, items-end, one-token, pairs-end}
use Rattle.ciborium_value.specs.Tree as trees

-- where a comma is due or none, what follows it is one text
one-separated : (due : Bool) (t s s' : List ℕ) → IsSeparated due t s → IsSeparated due t s' → s' ≡ s
one-separated false t s s' e f = f ∙ sym e
one-separated true t s s' e f = (one-token t comma comma s' s f e).1

mutual
  -- two trees that the same text begins with, and what follows them
  one-item : (l h : ℕ) (t z z' : List ℕ) (v w : Tree) → BeginsTree l t v z → BeginsTree h t w z' → (v ≡ w) × (z' ≡ z)
  one-item l h t z z' v w (alone _ _ _ _ is) d = let (e, f) = begun (leaf v) h t z z' w is d in (sym e, f)
  one-item l h t z z' v w (tagged m n u _ s x _ is c end) d =
      let (k, j, u', x', e, d', end') = begun (begin_tag n) h t s z' w is d in
      let (same, rest) = one-item m k s x x' u u' c d' in (
        ap (trees.tag n) same ∙ sym e,
        (one-token x end_tag end_tag z' z (subst (λ y. IsToken y end_tag z') rest end') end).1,
      )
  one-item l h t z z' v w (listed m vs _ s _ is b) d =
      let (k, j, vs', e, b') = begun begin_array h t s z' w is d in
      let (same, rest) = one-items m k false s z z' vs vs' b b' in (ap trees.array same ∙ sym e, rest)
  one-item l h t z z' v w (mapped m ps _ s _ is b) d =
      let (k, j, ps', e, b') = begun begin_map h t s z' w is d in
      let (same, rest) = one-pairs m k false s z z' ps ps' b b' in (ap trees.map same ∙ sym e, rest)

  one-items : (l h : ℕ) (due : Bool) (t z z' : List ℕ) (vs ws : Trees) → BeginsItems l due t vs z →
      BeginsItems h due t ws z' → (vs ≡ ws) × (z' ≡ z)
  one-items l h due t z z' vs ws (no_item _ _ _ _ is) m = let (e, f) = items-end h due t z z' ws is m in (sym e, f)
  one-items l h due t z z' vs ws m (no_item _ _ _ _ is) = let (e, f) = items-end l due t z' z vs is m in (e, sym f)
  one-items l h due t z z' vs ws (item _ _ v us _ s u _ sep d m) (item _ _ v' us' _ s' u' _ sep' d' m') =
      let first = subst (λ y. BeginsTree h y v' u') (one-separated due t s s' sep sep') d' in
      let (same, behind) = one-item l h s u u' v v' d first in
      let (others, rest) = one-items l h true u z z' us us' m (subst (λ y. BeginsItems h true y us' z') behind m') in
      (ap (λ y. trees.tree y us) same ∙ ap (trees.tree v') others, rest)

  one-pairs : (l h : ℕ) (due : Bool) (t z z' : List ℕ) (ps qs : TreePairs) → BeginsPairs l due t ps z →
      BeginsPairs h due t qs z' → (ps ≡ qs) × (z' ≡ z)
  one-pairs l h due t z z' ps qs (no_pair _ _ _ _ is) m = let (e, f) = pairs-end h due t z z' qs is m in (sym e, f)
  one-pairs l h due t z z' ps qs m (no_pair _ _ _ _ is) = let (e, f) = pairs-end l due t z' z ps is m in (e, sym f)
  one-pairs l h due t z z' ps qs (pair _ _ k v us _ s u w x _ sep d is f m)
      (pair _ _ k' v' us' _ s' u' w' x' _ sep' d' is' f' m') =
      let key = subst (λ y. BeginsTree h y k' u') (one-separated due t s s' sep sep') d' in
      let (same, behind) = one-item l h s u u' k k' d key in
      let value = subst (λ y. BeginsTree h y v' x') (one-token u colon colon w' w
      (subst (λ y. IsToken y colon w') behind is') is).1 f' in
      let (equal, after) = one-item l h w x x' v v' f value in
      let (others, rest) = one-pairs l h true x z z' us us' m (subst (λ y. BeginsPairs h true y us' z') after m') in (
        ap (λ y. trees.tree_pair y v us) same ∙ ap (λ y. trees.tree_pair k' y us) equal ∙
            ap (trees.tree_pair k' v') others,
        rest,
      )

pub one_tree_is_denoted : OneTreeIsDenoted
one_tree_is_denoted t v w (l, (r, d, e)) (l', (r', d', e')) = (one-item l l' t r r' v w d d').0
