-- What an item gives as a value.
use Rattle.std.proofs.Common.{◌≡◌, ℕ, zero, suc, max, List, Option, Some, None, option_map, refl, ap, ◌∙◌, arith}
use Rattle.ciborium_ll.specs.Item.{Item, Items, Pairs, no_items, no_pairs, pair}
use Rattle.ciborium_value.{proofs.{Forms.OwnForms.mapped_same, GoodItems.Parts.lower}, specs.Given.{Steps, gives}}
use Rattle.ciborium_value.specs.Given.{leveled, mapped, of_meaning, outcome, outcome_map, given_items, given_tag}
use Rattle.ciborium_value.specs.{Given.{given_tree_pairs, given_value}, Meaning.{meaning, items_meaning, pairs_meaning}}
use Rattle.ciborium_value.specs.{Meaning.{trees_more, tree_pairs_more, folding_bytes, tag_meaning}, Nesting.Limit}
use Rattle.ciborium_value.specs.Nesting.{IsWithin, IsOneLess, nesting, items_nesting, pairs_nesting, tag_nesting}
use Rattle.ciborium_value.specs.{Tree.{Tree, Trees, TreePairs}, lemmas.GivenOutcomes.{pair_first, tree_first}}
use Rattle.ciborium_value.specs.lemmas.ReadsBackParts.{within-left, within-right}
use Rattle.ciborium_ll.specs.Item as items
use Rattle.ciborium_value.specs.Tree as trees
use Rattle.ciborium_ll.specs.declared.kind.Kind.TheVariants as kinds

-- with a level, what is inside decides
pub level-taken : {A : Type 0} (l m : Limit) (s : Steps A) → IsOneLess l m → outcome l (leveled s) ≡ outcome m s
level-taken None None s h = refl
level-taken (Some zero) (Some m) s h = cc
level-taken (Some (suc l)) (Some m) s h = let e : l ≡ m = omega arith in ap (λ k. outcome (Some k) s) e
level-taken u v s h = absurd h

more : (o : Option Tree) (os : Option Trees) (vs : Trees) → trees_more o os ≡ Some vs → (w : Tree) × (ws : Trees) ×
    (o ≡ Some w) × (os ≡ Some ws) × (trees.tree w ws ≡ vs)
more (Some w) (Some ws) vs h = (w, ws, refl, refl, cc)
more u v vs h = cc

more-pairs : (o q : Option Tree) (os : Option TreePairs) (vs : TreePairs) → tree_pairs_more o q os ≡ Some vs →
    (k : Tree) × (w : Tree) × (ws : TreePairs) × (o ≡ Some k) × (q ≡ Some w) × (os ≡ Some ws) ×
    (trees.tree_pair k w ws ≡ vs)
more-pairs (Some k) (Some w) (Some ws) vs h = (k, w, ws, refl, refl, refl, cc)
more-pairs u v w vs h = cc

container-gives : {A : Type 0} (f : A → Tree) (o : Option A) (n : ℕ) (l : Limit) (s : Steps A) (v : Tree) →
    option_map f o ≡ Some v → IsWithin l (suc n) →
    ((m : Limit) (a : A) → o ≡ Some a → IsWithin m n → outcome m s ≡ gives a) →
    outcome l (leveled (mapped f s)) ≡ gives v
container-gives f o n l s v h k rec =
    let (a, e, g) = mapped_same f o v h in
    let (m, within, one) = lower l n k in
    level-taken l m (mapped f s) one ∙ ap (outcome_map f) (rec m a e within) ∙ ap gives g

tag-gives : (t : ℕ) (o : Option (List ℕ)) (c : Option Tree) (n : ℕ) (l : Limit) (s : Steps Tree) (v : Tree) →
    tag_meaning t o c ≡ Some v → IsWithin l (tag_nesting o n) →
    ((m : Limit) (a : Tree) → c ≡ Some a → IsWithin m n → outcome m s ≡ gives a) → outcome l (given_tag t o s) ≡ gives v
tag-gives t (Some b) c n l s v h k rec = ap (of_meaning kinds.TooLarge) h
tag-gives t None c n l s v h k rec = container-gives (trees.tag t) c n l s v h k rec

mutual
  pub value-gives : (i : Item) (l : Limit) (v : Tree) → meaning i ≡ Some v → IsWithin l (nesting i) →
      outcome l (given_value i) ≡ gives v
  value-gives (items.array o is) l v h k = container-gives trees.array (items_meaning is) (items_nesting is) l
      (given_items is) v h k (λ m a. values-give is m a)
  value-gives (items.map o ps) l v h k = container-gives trees.map (pairs_meaning ps) (pairs_nesting ps) l
      (given_tree_pairs ps) v h k (λ m a. pairs-give ps m a)
  value-gives (items.tag t i) l v h k = tag-gives t (folding_bytes t i) (meaning i) (nesting i) l (given_value i)
      v h k (λ m a. value-gives i m a)
  value-gives (items.simple n) l v h k = ap (of_meaning kinds.Simple) h
  value-gives _ l v h k = cc

  values-give : (is : Items) (l : Limit) (vs : Trees) → items_meaning is ≡ Some vs → IsWithin l (items_nesting is) →
      outcome l (given_items is) ≡ gives vs
  values-give items.no_items l vs h k = cc
  values-give (items.item i is) l vs h k =
      let (w, ws, e, f, g) = more (meaning i) (items_meaning is) vs h in
      ap (λ o. tree_first o (outcome l (given_items is)))
      (value-gives i l w e (within-left l (nesting i) (items_nesting is) k)) ∙
      ap (outcome_map (trees.tree w)) (values-give is l ws f (within-right l (nesting i) (items_nesting is) k)) ∙
      ap gives g

  pairs-give : (ps : Pairs) (l : Limit) (vs : TreePairs) → pairs_meaning ps ≡ Some vs → IsWithin l (pairs_nesting ps) →
      outcome l (given_tree_pairs ps) ≡ gives vs
  pairs-give items.no_pairs l vs h k = cc
  pairs-give (items.pair x y ps) l vs h k =
      let (a, w, ws, e, f, g, is) = more-pairs (meaning x) (meaning y) (pairs_meaning ps) vs h in
      let both = within-left l (max (nesting x) (nesting y)) (pairs_nesting ps) k in
      ap (λ o. pair_first o (outcome l (given_value y)) (outcome l (given_tree_pairs ps)))
      (value-gives x l a e (within-left l (nesting x) (nesting y) both)) ∙
      ap (λ o. pair_first (gives a) o (outcome l (given_tree_pairs ps)))
      (value-gives y l w f (within-right l (nesting x) (nesting y) both)) ∙
      ap (outcome_map (trees.tree_pair a w)) (pairs-give ps l ws g
      (within-right l (max (nesting x) (nesting y)) (pairs_nesting ps) k)) ∙ ap gives is
