-- Forms that are made where the values stand: one level, and along lists.
use Rattle.std.proofs.Common.{◌≡◌, ◌⊎◌, inl, inr, ℕ, zero, suc, ◌≤◌, ◌<◌, List, [], ◌∷◌, ◌++◌, length, take, drop}
use Rattle.std.proofs.Common.{get_or, set}
use Rattle.std.proofs.Common.{Some, None, refl, sym, ap, ◌∙◌, arith, append-nil}
use Rattle.std.proofs.{lemmas.List.{drop_all, take_all}}
use Rattle.ciborium_value.{proofs.Forms.ReorderedPairs.PairsAreAlike-refl, specs.DeterministicForms.deterministic_form}
use Rattle.ciborium_value.specs.DeterministicForms.{deterministic_forms, pair_forms, sorted_pairs, one_more}
use Rattle.ciborium_value.specs.{DeterministicForms.{one_pair_more, tag_form}, Folded.tree_folding_bytes, Given.Outcome}
use Rattle.ciborium_value.specs.{Given.{gives, refuses, then_take, outcome_map, of_meaning}, Meaning.bignum_meaning}
use Rattle.ciborium_value.specs.{SameContents.{IsAlike, AreAlike, PairsAreAlike}, Tree.{Tree, Trees, TreePairs}}
use Rattle.ciborium_value.specs.{ValueLists.{trees_of, tree_pairs_of}, View.tree_of}
use Rattle.ciborium_value.specs.declared.{key_order.KeyOrder.KeyOrder, tree.Value.Value}
use Rattle.ciborium_ll.specs.declared.kind.Kind.{Kind}
use Rattle.ciborium_value.specs.SameContents as same
use Rattle.ciborium_value.specs.Tree as trees
use Rattle.ciborium_ll.specs.declared.kind.Kind.TheVariants as kinds

-- ---- one level

-- by the trees that two values are
pub made_as : (o : KeyOrder) {v w x y : Tree} → v ≡ w → y ≡ x → deterministic_form o w ≡ gives x →
    deterministic_form o v ≡ gives y
made_as o e f h = ap (deterministic_form o) e ∙ h ∙ ap gives (sym f)

pub alike_as : {v w x y : Tree} → v ≡ w → y ≡ x → IsAlike w x → IsAlike v y
alike_as e f h = rw (e, f) h

-- a tag that does not fold
pub made-tag : (o : KeyOrder) (t : ℕ) (v : Tree) {x : Tree} → tree_folding_bytes t v ≡ None →
    deterministic_form o v ≡ gives x → deterministic_form o (trees.tag t v) ≡ gives (trees.tag t x)
made-tag o t v e h = ap (λ f. tag_form t f (deterministic_form o v)) e ∙ ap (outcome_map (trees.tag t)) h

-- a tag that folds
pub made-bignum : (o : KeyOrder) (t : ℕ) (v : Tree) {x : Tree} {b : List ℕ} → tree_folding_bytes t v ≡ Some b →
    bignum_meaning t b ≡ Some x → deterministic_form o (trees.tag t v) ≡ gives x
made-bignum o t v e h = ap (λ f. tag_form t f (deterministic_form o v)) e ∙ ap (of_meaning kinds.TooLarge) h

module _ (o : KeyOrder) {w : Tree} {ps : TreePairs} where
  pub refused-pairs : {k : Kind} → w ≡ trees.map ps → pair_forms o ps ≡ refuses k → deterministic_form o w ≡ refuses k
  refused-pairs is h = ap (deterministic_form o) is ∙ ap (λ r. outcome_map trees.map (then_take r (sorted_pairs o))) h

  -- as its pairs are sorted
  pub sorted-map : {qs : TreePairs} {r : Outcome TreePairs} → w ≡ trees.map ps → pair_forms o ps ≡ gives qs →
      sorted_pairs o qs ≡ r → deterministic_form o w ≡ outcome_map trees.map r
  sorted-map is h l = ap (deterministic_form o) is ∙
      ap (λ r. outcome_map trees.map (then_take r (sorted_pairs o))) h ∙ ap (outcome_map trees.map) l

-- ---- along a list that is written from its front

-- the first i elements were made of those that stood there, and the others stand there still
pub data Made {A : Type 0} (R : A → A → Type 0) : ℕ → List A → List A → Type 0 where
  none_yet : {xs : List A} → Made R zero xs xs
  then_one : {i : ℕ} {x y : A} {xs ys : List A} → R x y → Made R i xs ys → Made R (suc i) (x ∷ xs) (y ∷ ys)

module _ {A : Type 0} {R : A → A → Type 0} where
  made-length : {i : ℕ} {xs ys : List A} → Made R i xs ys → length ys ≡ length xs
  made-length none_yet = refl
  made-length (then_one r m) = ap suc (made-length m)

  -- the list as it was lent and written
  pub written : {i : ℕ} {xs ys : List A} (n : ℕ) → Made R i xs ys → n ≡ length xs →
      take n (ys ++ drop (length ys) xs) ≡ ys
  written {xs = xs} {ys = ys} n m e = ap (λ k. take n (ys ++ drop k xs)) (made-length m) ∙ ap (λ l. take n (ys ++ l))
      (drop_all (length xs) xs (omega arith)) ∙ ap (take n) (append-nil ys) ∙
      take_all n ys (omega (arith, e, made-length m))

  -- one more
  pub made_next : {i : ℕ} {xs ys : List A} (d y : A) → Made R i xs ys → i < length xs → R (get_or ys i d) y →
      Made R (suc i) xs (set ys i y)
  made_next {xs = []} d y none_yet l r = absurd (omega (arith, l))
  made_next {xs = x ∷ xs} d y none_yet l r = then_one r none_yet
  made_next {xs = x ∷ xs} d y (then_one s m) l r = then_one s (made_next d y m (omega (arith, l)) r)

  pub made_weaker : {Q : A → A → Type 0} {i : ℕ} {xs ys : List A} → ((x y : A) → R x y → Q x y) → Made R i xs ys →
      Made Q i xs ys
  made_weaker f none_yet = none_yet
  made_weaker f (then_one r m) = then_one (f _ _ r) (made_weaker f m)

-- ---- the items of an array

abbrev pub IsLike : Value → Value → Type 0
IsLike v w = IsAlike (tree_of v) (tree_of w)

abbrev pub IsForm : KeyOrder → Value → Value → Type 0
IsForm o v w = (deterministic_form o (tree_of v) ≡ gives (tree_of w)) × IsLike v w

AreAlike-refl : (vs : Trees) → AreAlike vs vs
AreAlike-refl trees.no_trees = same.none
AreAlike-refl (trees.tree v vs) = same.more same.itself (AreAlike-refl vs)

each_alike : {i : ℕ} {vs ws : List Value} → Made IsLike i vs ws → AreAlike (trees_of vs) (trees_of ws)
each_alike {vs = vs} none_yet = AreAlike-refl (trees_of vs)
each_alike (then_one r m) = same.more r (each_alike m)

pub items_alike : {i : ℕ} {vs ws : List Value} (n : ℕ) → Made IsLike i vs ws → n ≡ length vs →
    AreAlike (trees_of vs) (trees_of (take n (ws ++ drop (length ws) vs)))
items_alike n m e = rw (written n m e) (each_alike m)

pub all_made : (o : KeyOrder) {i : ℕ} {vs ws : List Value} → Made (IsForm o) i vs ws → length vs ≤ i →
    deterministic_forms o (trees_of vs) ≡ gives (trees_of ws)
all_made o {vs = []} none_yet h = refl
all_made o {vs = v ∷ vs} none_yet h = absurd (omega (arith, h))
all_made o {vs = v ∷ vs} (then_one r m) h = ap (λ f. one_more f (deterministic_forms o (trees_of vs))) r.0 ∙
    ap (one_more (gives _)) (all_made o m (omega (arith, h)))

-- the first that is refused
pub one_refused : (o : KeyOrder) {i : ℕ} {k : Kind} {vs ws : List Value} (d : Value) → Made (IsForm o) i vs ws →
    i < length vs → deterministic_form o (tree_of (get_or ws i d)) ≡ refuses k →
    deterministic_forms o (trees_of vs) ≡ refuses k
one_refused o {vs = []} d none_yet l h = absurd (omega (arith, l))
one_refused o {vs = v ∷ vs} d none_yet l h = ap (λ f. one_more f (deterministic_forms o (trees_of vs))) h
one_refused o {vs = v ∷ vs} d (then_one r m) l h = ap (λ f. one_more f (deterministic_forms o (trees_of vs))) r.0 ∙
    ap (one_more (gives _)) (one_refused o d m (omega (arith, l)) h)

-- ---- the pairs of a map

abbrev pub ArePairsLike : Value × Value → Value × Value → Type 0
ArePairsLike p q = IsLike p.0 q.0 × IsLike p.1 q.1

abbrev pub IsPairForm : KeyOrder → Value × Value → Value × Value → Type 0
IsPairForm o p q = IsForm o p.0 q.0 × IsForm o p.1 q.1

each_pair_alike : {i : ℕ} {ps qs : List (Value × Value)} → Made ArePairsLike i ps qs →
    PairsAreAlike (tree_pairs_of ps) (tree_pairs_of qs)
each_pair_alike {ps = ps} none_yet = PairsAreAlike-refl (tree_pairs_of ps)
each_pair_alike (then_one r m) = same.more_pairs r.0 r.1 (each_pair_alike m)

pub pairs_alike : {i : ℕ} {ps qs : List (Value × Value)} (n : ℕ) → Made ArePairsLike i ps qs → n ≡ length ps →
    PairsAreAlike (tree_pairs_of ps) (tree_pairs_of (take n (qs ++ drop (length qs) ps)))
pairs_alike n m e = rw (written n m e) (each_pair_alike m)

-- behind a pair that has forms
forms_behind : (o : KeyOrder) (p q : Value × Value) (r : Outcome TreePairs) → IsPairForm o p q →
    one_pair_more (deterministic_form o (tree_of p.0)) (deterministic_form o (tree_of p.1)) r ≡ outcome_map
    (trees.tree_pair (tree_of q.0) (tree_of q.1)) r
forms_behind o p q r h = ap (λ f. one_pair_more f (deterministic_form o (tree_of p.1)) r) h.0.0 ∙
    ap (λ f. one_pair_more (gives (tree_of q.0)) f r) h.1.0

pub all_pairs_made : (o : KeyOrder) {i : ℕ} {ps qs : List (Value × Value)} → Made (IsPairForm o) i ps qs →
    length ps ≤ i → pair_forms o (tree_pairs_of ps) ≡ gives (tree_pairs_of qs)
all_pairs_made o {ps = []} none_yet h = refl
all_pairs_made o {ps = p ∷ ps} none_yet h = absurd (omega (arith, h))
all_pairs_made o {ps = p ∷ ps} (then_one r m) h = forms_behind o p _ _ r ∙
    ap (outcome_map (trees.tree_pair _ _)) (all_pairs_made o m (omega (arith, h)))

-- its key is refused, or its value
abbrev pub IsPairRefused : KeyOrder → Value × Value → Kind → Type 0
IsPairRefused o p k = (deterministic_form o (tree_of p.0) ≡ refuses k) ⊎
    ((x : Tree) × (deterministic_form o (tree_of p.0) ≡ gives x) × (deterministic_form o (tree_of p.1) ≡ refuses k))

pair_refused : (o : KeyOrder) (p : Value × Value) (r : Outcome TreePairs) (k : Kind) → IsPairRefused o p k →
    one_pair_more (deterministic_form o (tree_of p.0)) (deterministic_form o (tree_of p.1)) r ≡ refuses k
pair_refused o p r k (inl h) = ap (λ f. one_pair_more f (deterministic_form o (tree_of p.1)) r) h
pair_refused o p r k (inr (x, h, m)) = ap (λ f. one_pair_more f (deterministic_form o (tree_of p.1)) r) h ∙
    ap (λ f. one_pair_more (gives x) f r) m

-- the first that is refused
pub one_pair_refused : (o : KeyOrder) {i : ℕ} {k : Kind} {ps qs : List (Value × Value)} (d : Value × Value) →
    Made (IsPairForm o) i ps qs → i < length ps → IsPairRefused o (get_or qs i d) k →
    pair_forms o (tree_pairs_of ps) ≡ refuses k
one_pair_refused o {ps = []} d none_yet l h = absurd (omega (arith, l))
one_pair_refused o {ps = p ∷ ps} d none_yet l h = pair_refused o p (pair_forms o (tree_pairs_of ps)) _ h
one_pair_refused o {ps = p ∷ ps} d (then_one r m) l h = forms_behind o p _ _ r ∙
    ap (outcome_map (trees.tree_pair _ _)) (one_pair_refused o d m (omega (arith, l)) h)
