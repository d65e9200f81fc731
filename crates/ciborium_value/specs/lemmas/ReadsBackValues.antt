-- What is written of a `Value` is read back, where folding changes nothing in it (RFC 8949, section
-- 3.4.3).
use Rattle.std.{proofs.Common.{ap, ◌∙◌, arith, zero}, specs.Prelude.{Option, Some, None, option_map, refl, ◌≡◌, ℕ, suc}}
use Rattle.std.specs.Prelude.{max, pos, negsuc, false, true, List}
use Rattle.ciborium_value.specs.{Encoding.{item_of, items_of, pairs_of}, Folded.{folded, trees_folded}}
use Rattle.ciborium_value.specs.{Folded.tree_pairs_folded, Given.{Outcome, Steps, gives, leveled, mapped, of_meaning}}
use Rattle.ciborium_value.specs.Given.{outcome, outcome_map, given_items, given_tag, given_tree_pairs, given_value}
use Rattle.ciborium_value.specs.{Given.then_read, Meaning.{folding_bytes, simple_meaning, tag_meaning, tree_pairs_more}}
use Rattle.ciborium_value.specs.{Meaning.trees_more, Nesting.{Limit, IsWithin, items_nesting, nesting, pairs_nesting}}
use Rattle.ciborium_value.specs.{Nesting.tag_nesting, ReadsBack.{IsNameRead, IsPlain, Way, by_bytes, by_form, by_tree}}
use Rattle.ciborium_value.specs.{ReadsBack.{item-back, met, named}, Tree.{Tree, Trees, TreePairs}}
use Rattle.ciborium_value.specs.lemmas.{GivenOutcomes.{pair_first, tree_first}, ItemsOfTrees.tree_is_written_as_itself}
use Rattle.ciborium_value.specs.lemmas.ReadsBackParts.{within-left, within-right}
use Rattle.ciborium_value.specs.Tree as trees
use Rattle.ciborium_ll.specs.declared.kind.Kind.TheVariants as kinds

-- within as many levels this gives what there is
abbrev IsGiven : {A : Type 0} → Option A → ℕ → Steps A → Type 0
IsGiven {A = A} o n s = (l : Limit) (w : A) → o ≡ Some w → IsWithin l n → outcome l s ≡ gives w

-- ---- parts

map-given : {A B : Type 0} (f : A → B) (o : Option A) (x : Outcome A) (w : B) →
    ((v : A) → o ≡ Some v → x ≡ gives v) → option_map f o ≡ Some w → outcome_map f x ≡ gives w
map-given f (Some v) x w h e = let given = h v refl in ap (outcome_map f) given ∙
    (let same : f v ≡ w = cc in ap gives same)
map-given f None x w h e = cc

-- a level is taken
level-given : {A B : Type 0} (f : A → B) (o : Option A) (n : ℕ) (x : Steps A) →
    IsGiven o n x → IsGiven (option_map f o) (suc n) (leveled (mapped f x))
level-given f o n x h None w e fits = map-given f o (outcome None x) w (λ v same. h None v same tt) e
level-given f o n x h (Some zero) w e fits = absurd (omega (arith, fits))
level-given f o n x h (Some (suc m)) w e fits =
    map-given f o (outcome (Some m) x) w (λ v same. h (Some m) v same (omega (arith, fits))) e

tag-given : (t : ℕ) (b : Option (List ℕ)) (o : Option Tree) (n : ℕ) (x : Steps Tree) →
    IsGiven o n x → IsGiven (tag_meaning t b o) (tag_nesting b n) (given_tag t b x)
tag-given t (Some b) o n x h l w e fits = ap (of_meaning kinds.TooLarge) e
tag-given t None o n x h l w e fits = level-given (trees.tag t) o n x h l w e fits

more-given : (o : Option Tree) (r : Option Trees) (n m : ℕ) (x : Steps Tree) (y : Steps Trees) →
    IsGiven o n x → IsGiven r m y → IsGiven (trees_more o r) (max n m) (then_read x (λ v. mapped (trees.tree v) y))
more-given None r n m x y h k l w e fits = cc
more-given (Some v) r n m x y h k l w e fits =
    ap (λ p. tree_first p (outcome l y)) (h l v refl (within-left l n m fits)) ∙
    map-given (trees.tree v) r (outcome l y) w (λ vs same. k l vs same (within-right l n m fits)) e

pair-given : (o p : Option Tree) (r : Option TreePairs) (n m k : ℕ) (x y : Steps Tree) (z : Steps TreePairs) →
    IsGiven o n x → IsGiven p m y → IsGiven r k z → IsGiven (tree_pairs_more o p r) (max (max n m) k)
    (then_read x (λ u. then_read y (λ v. mapped (trees.tree_pair u v) z)))
pair-given (Some u) (Some v) r n m k x y z f g h l w e fits =
    let here = within-left l (max n m) k fits in
    ap (λ p. pair_first p (outcome l y) (outcome l z)) (f l u refl (within-left l n m here)) ∙
    ap (λ p. pair_first (gives u) p (outcome l z)) (g l v refl (within-right l n m here))
    ∙ map-given (trees.tree_pair u v) r (outcome l z) w
    (λ ps same. h l ps same (within-right l (max n m) k fits)) e
pair-given u v r n m k x y z f g h l w e fits = cc

one : {A : Type 0} (v w : A) → Some v ≡ Some w → gives v ≡ gives w
one v w e = let same : v ≡ w = cc in ap gives same

-- ---- values

mutual
  unfolding simple_meaning

  value-given : (t : Tree) → IsGiven (folded t) (nesting (item_of t)) (given_value (item_of t))
  value-given (trees.integer (pos n)) l w e fits = one (trees.integer (pos n)) w e
  value-given (trees.integer (negsuc n)) l w e fits = one (trees.integer (negsuc n)) w e
  value-given (trees.bytes b) l w e fits = one (trees.bytes b) w e
  value-given (trees.text b) l w e fits = one (trees.text b) w e
  value-given (trees.boolean false) l w e fits = one (trees.boolean false) w e
  value-given (trees.boolean true) l w e fits = one (trees.boolean true) w e
  value-given trees.null l w e fits = one trees.null w e
  value-given (trees.tag t v) l w e fits = tag-given t (folding_bytes t (item_of v)) (folded v) (nesting (item_of v))
      (given_value (item_of v)) (value-given v) l w e fits
  value-given (trees.array vs) l w e fits = level-given trees.array (trees_folded vs)
      (items_nesting (items_of vs)) (given_items (items_of vs)) (values-given vs) l w e fits
  value-given (trees.map ps) l w e fits = level-given trees.map (tree_pairs_folded ps)
      (pairs_nesting (pairs_of ps)) (given_tree_pairs (pairs_of ps)) (pairs-given ps) l w e fits

  values-given : (vs : Trees) → IsGiven (trees_folded vs) (items_nesting (items_of vs)) (given_items (items_of vs))
  values-given trees.no_trees l w e fits = one trees.no_trees w e
  values-given (trees.tree v vs) l w e fits =
      more-given (folded v) (trees_folded vs) (nesting (item_of v)) (items_nesting (items_of vs))
      (given_value (item_of v)) (given_items (items_of vs)) (value-given v) (values-given vs) l w e fits

  pairs-given : (ps : TreePairs) → IsGiven (tree_pairs_folded ps) (pairs_nesting (pairs_of ps))
      (given_tree_pairs (pairs_of ps))
  pairs-given trees.no_tree_pairs l w e fits = one trees.no_tree_pairs w e
  pairs-given (trees.tree_pair k v ps) l w e fits =
      pair-given (folded k) (folded v) (tree_pairs_folded ps) (nesting (item_of k))
      (nesting (item_of v)) (pairs_nesting (pairs_of ps)) (given_value (item_of k)) (given_value (item_of v))
      (given_tree_pairs (pairs_of ps)) (value-given k) (value-given v) (pairs-given ps) l w e fits

-- the item of a tree is met as it was written, but in a form
pub met-tree : (way : Way) → IsPlain way → (t : Tree) → met way (item_of t) ≡ gives (item_of t)
met-tree by_bytes plain t = refl
met-tree by_tree plain t = ap (λ u. gives (item_of u)) (tree_is_written_as_itself t)
met-tree (by_form o) plain t = absurd plain

-- what is written of a tree is read as the tree, where its item is met so and folding changes
-- nothing in it
pub value-back : {way : Way} (t : Tree) → met way (item_of t) ≡ gives (item_of t) →
    folded t ≡ Some t → IsNameRead way (named (item_of t)) given_value t (nesting (item_of t))
value-back t same folds = item-back (item_of t) given_value same (λ l fits. value-given t l t folds fits)
