-- Copies in which bignums are folded: what reading the item of a tree gives, part by part.
use Rattle.std.proofs.Common.{◌≡◌, ℕ, zero, suc, ◌<◌, true, false, List, [], ◌∷◌, length, get_or, Option, Some}
use Rattle.std.proofs.Common.{◌⊎◌, inl, inr, None, Box, Global, Vec, option_map, pos, negsuc, refl, rules, sym, ap}
use Rattle.std.proofs.Common.{◌∙◌, arith, subst}
use Rattle.std.specs.List.{AllZip}
use Rattle.ciborium_value.specs.Encoding.{item_of, items_of, pairs_of}
use Rattle.ciborium_value.specs.{Folded.{folded, trees_folded, tree_pairs_folded, tree_folding_bytes}, Given.Steps}
use Rattle.ciborium_value.specs.Given.{refuses, of_meaning, outcome, outcome_map, given_tag, given_value}
use Rattle.ciborium_value.specs.{Given.{given_items, given_tree_pairs}, Meaning.{tag_meaning, trees_more}}
use Rattle.ciborium_value.specs.{Meaning.{tree_pairs_more, simple_meaning}, Tree.{Tree, Trees, TreePairs}}
use Rattle.ciborium_value.specs.{TreeAnswers.IsErrorOf, ValueLists.{trees_of, tree_pairs_of}, View.tree_of}
use Rattle.ciborium_value.specs.inner.FoldedCopies.{RefusesFolding}
use Rattle.ciborium_value.specs.{declared.error.Error.Error, declared.tree.Value.Value}
use Rattle.ciborium_value.proofs.Trees.Views.{tree_of-Bool, tree_of-Bytes, tree_of-Integer, tree_of-Null, tree_of-Text}
use Rattle.ciborium_value.specs.declared.tree.Value.{the_lemmas, TheOpen.Value-F, TheViews.{out-Value, roll-Value}}
use Rattle.ciborium_value.specs.lemmas.GivenOutcomes.{pair_first, tree_first}
use Rattle.ciborium_value.specs.lemmas.ItemsOfTrees.{boolean-folded, integer-folded}
use Rattle.ciborium_ll.specs.declared.kind.Kind.{Kind}
use Rattle.ciborium_value.specs.declared.error.Error.TheVariants as error
use Rattle.ciborium_value.specs.Tree as trees
use Rattle.ciborium_value.specs.declared.tree.Value as value
use Rattle.ciborium_ll.specs.declared.kind.Kind.TheVariants as kinds

-- ---- what the item of a tree gives is the folded tree

more-meaning : (k : Kind) (o : Option Tree) (r : Option Trees) →
    tree_first (of_meaning k o) (of_meaning k r) ≡ of_meaning k (trees_more o r)
more-meaning k None r = refl
more-meaning k (Some v) None = refl
more-meaning k (Some v) (Some vs) = refl

pair-meaning : (k : Kind) (o p : Option Tree) (r : Option TreePairs) →
    pair_first (of_meaning k o) (of_meaning k p) (of_meaning k r) ≡ of_meaning k (tree_pairs_more o p r)
pair-meaning k (Some v) (Some w) None = refl
pair-meaning k _ _ _ = refl

map-meaning : {A B : Type 0} (k : Kind) (f : A → B) (o : Option A) →
    outcome_map f (of_meaning k o) ≡ of_meaning k (option_map f o)
map-meaning k f None = refl
map-meaning k f (Some v) = refl

tag-meaning : (t : ℕ) (b : Option (List ℕ)) (s : Steps Tree) (o : Option Tree) →
    outcome None s ≡ of_meaning kinds.TooLarge o →
    outcome None (given_tag t b s) ≡ of_meaning kinds.TooLarge (tag_meaning t b o)
tag-meaning t (Some b) s o e = refl
tag-meaning t None s o e = ap (outcome_map (trees.tag t)) e ∙ map-meaning kinds.TooLarge (trees.tag t) o

mutual
  unfolding simple_meaning

  pub given-folded : (t : Tree) → outcome None (given_value (item_of t)) ≡ of_meaning kinds.TooLarge (folded t)
  given-folded (trees.integer (pos n)) = refl
  given-folded (trees.integer (negsuc n)) = refl
  given-folded (trees.boolean false) = refl
  given-folded (trees.boolean true) = refl
  given-folded (trees.tag t v) =
      tag-meaning t (tree_folding_bytes t v) (given_value (item_of v)) (folded v) (given-folded v)
  given-folded (trees.array vs) = ap (outcome_map trees.array) (items-folded vs) ∙
      map-meaning kinds.TooLarge trees.array (trees_folded vs)
  given-folded (trees.map ps) = ap (outcome_map trees.map) (pairs-folded ps) ∙
      map-meaning kinds.TooLarge trees.map (tree_pairs_folded ps)
  given-folded _ = refl

  items-folded : (vs : Trees) → outcome None (given_items (items_of vs)) ≡ of_meaning kinds.TooLarge (trees_folded vs)
  items-folded trees.no_trees = refl
  items-folded (trees.tree v vs) = rw (given-folded v, items-folded vs) (more-meaning kinds.TooLarge (folded v) _)

  pairs-folded : (ps : TreePairs) → outcome None (given_tree_pairs (pairs_of ps)) ≡ of_meaning kinds.TooLarge
      (tree_pairs_folded ps)
  pairs-folded trees.no_tree_pairs = refl
  pairs-folded (trees.tree_pair k v ps) = rw (given-folded k, given-folded v, pairs-folded ps)
      (pair-meaning kinds.TooLarge (folded k) (folded v) (tree_pairs_folded ps))

-- ---- why a copy is refused

-- a part that does not fold, and so the whole
pub refused_as : {A B : Type 0} (e : Error) {o : Option A} {p : Option B} → (o ≡ None → p ≡ None) → RefusesFolding e o →
    RefusesFolding e p
refused_as (error.Custom k) f h = (h.0, f h.1)
refused_as error.Memory f h = tt

pub error_as : (t : Tree) (e : Error) → RefusesFolding e (folded t) →
    IsErrorOf e (outcome None (given_value (item_of t)))
error_as t (error.Custom k) h = given-folded t ∙ ap (of_meaning kinds.TooLarge) h.1 ∙ ap refuses (sym h.0)
error_as t error.Memory h = tt

-- ---- values that are their own copy

abbrev pub IsFoldedCopy : Value → Value → Type 0
IsFoldedCopy v w = folded (tree_of v) ≡ Some (tree_of w)

folded_as : (v : Value) {t : Tree} → tree_of v ≡ t → folded t ≡ Some t → IsFoldedCopy v v
folded_as v e h = ap folded e ∙ h ∙ ap Some (sym e)

-- neither a tag nor a container
abbrev pub IsLeaf : Value → Type 0
IsLeaf w = ((t : ℕ) (v : Box Value Global) → ¬ (w ≡ value.Tag t v)) × ((v : Vec Value Global) → ¬ (w ≡ value.Array v)) ×
    ((v : Vec (Value × Value) Global) → ¬ (w ≡ value.Map v))

level_folded : (y : Value-F Value) → IsLeaf (roll-Value y) → IsFoldedCopy (roll-Value y) (roll-Value y)
unfolding roll-Value denote.Hole.Carrier.roll simple_meaning
level_folded (Value-F.Integer z) h = folded_as _ (tree_of-Integer z) (integer-folded z)
level_folded (Value-F.Bytes b) h = folded_as _ (tree_of-Bytes b) refl
level_folded (Value-F.Text s) h = folded_as _ (tree_of-Text s) refl
level_folded (Value-F.Bool b) h = folded_as _ (tree_of-Bool b) (boolean-folded b)
level_folded Value-F.Null h = folded_as _ tree_of-Null refl
level_folded (Value-F.Tag t v) h = absurd (h.0 t v refl)
level_folded (Value-F.Array v) h = absurd (h.1 v refl)
level_folded (Value-F.Map v) h = absurd (h.2 v refl)

pub leaf_folded : (w : Value) → IsLeaf w → IsFoldedCopy w w
leaf_folded w h =
    let same : roll-Value (out-Value w) ≡ w = search (rules, the_lemmas) in
    subst (λ x. IsFoldedCopy x x) same (level_folded (out-Value w) (subst IsLeaf (sym same) h))

-- ---- along lists

abbrev pub IsFoldedPair : Value × Value → Value × Value → Type 0
IsFoldedPair p q = IsFoldedCopy p.0 q.0 × IsFoldedCopy p.1 q.1

pub all_folded : (vs ws : List Value) → AllZip IsFoldedCopy vs ws → trees_folded (trees_of vs) ≡ Some (trees_of ws)
all_folded [] [] h = refl
all_folded [] (w ∷ ws) h = absurd h
all_folded (v ∷ vs) [] h = absurd h
all_folded (v ∷ vs) (w ∷ ws) h = rw (h.0, all_folded vs ws h.1) refl

pub all_pairs_folded : (ps qs : List (Value × Value)) → AllZip IsFoldedPair ps qs →
    tree_pairs_folded (tree_pairs_of ps) ≡ Some (tree_pairs_of qs)
all_pairs_folded [] [] h = refl
all_pairs_folded [] (q ∷ qs) h = absurd h
all_pairs_folded (p ∷ ps) [] h = absurd h
all_pairs_folded (p ∷ ps) (q ∷ qs) h = rw (h.0.0, h.0.1, all_pairs_folded ps qs h.1) refl

more-none : (o : Option Tree) → trees_more o None ≡ None
more-none None = refl
more-none (Some v) = refl

pairs-none : (o p : Option Tree) → tree_pairs_more o p None ≡ None
pairs-none (Some k) (Some v) = refl
pairs-none _ _ = refl

pair-none : (o p : Option Tree) (r : Option TreePairs) → (o ≡ None) ⊎ (p ≡ None) → tree_pairs_more o p r ≡ None
pair-none o p r (inl e) = ap (λ k. tree_pairs_more k p r) e
pair-none None p r (inr e) = refl
pair-none (Some k) p r (inr e) = ap (λ v. tree_pairs_more (Some k) v r) e

-- one that does not fold
pub one_unfolded : (vs : List Value) (i : ℕ) (d : Value) → i < length vs → folded (tree_of (get_or vs i d)) ≡ None →
    trees_folded (trees_of vs) ≡ None
one_unfolded [] i d l h = absurd (omega (arith, l))
one_unfolded (v ∷ vs) zero d l h = ap (λ o. trees_more o (trees_folded (trees_of vs))) h
one_unfolded (v ∷ vs) (suc i) d l h =
    ap (trees_more (folded (tree_of v))) (one_unfolded vs i d (omega (arith, l)) h) ∙ more-none (folded (tree_of v))

-- a pair of which the key or the value does not
pub one_pair_unfolded : (ps : List (Value × Value)) (i : ℕ) (d : Value × Value) → i < length ps →
    (folded (tree_of (get_or ps i d).0) ≡ None) ⊎ (folded (tree_of (get_or ps i d).1) ≡ None) →
    tree_pairs_folded (tree_pairs_of ps) ≡ None
one_pair_unfolded [] i d l h = absurd (omega (arith, l))
one_pair_unfolded (p ∷ ps) zero d l h = pair-none _ _ (tree_pairs_folded (tree_pairs_of ps)) h
one_pair_unfolded (p ∷ ps) (suc i) d l h =
    let k = folded (tree_of p.0) in let v = folded (tree_of p.1) in
    ap (tree_pairs_more k v) (one_pair_unfolded ps i d (omega (arith, l)) h) ∙ pairs-none k v
