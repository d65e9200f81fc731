-- Why a tree has no deterministic form, and why where folding gives it a meaning.
use Rattle.std.proofs.Common.{◌≡◌, ℕ, List, Option, Some, None, option_map, inl, inr, ◌⊎◌, refl, sym, ap, ◌∙◌, subst}
use Rattle.std.proofs.Common.{Result, Ok, Err, IfErr}
use Rattle.ciborium_value.proofs.Forms.SortedPairs.{IsSortedOrDuplicate, sorted-either}
use Rattle.ciborium_value.specs.DeterministicForms.{deterministic_form, deterministic_forms, pair_forms, sorted_pairs}
use Rattle.ciborium_value.specs.{DeterministicForms.{one_more, one_pair_more, tag_form}, Folded.{folded, trees_folded}}
use Rattle.ciborium_value.specs.{Folded.{tree_pairs_folded, tree_folding_bytes}, Given.{Outcome, gives, refuses, nests}}
use Rattle.ciborium_value.specs.{Given.{then_take, outcome_map, of_meaning}, Meaning.{bignum_meaning, tag_meaning}}
use Rattle.ciborium_value.specs.{Meaning.{trees_more, tree_pairs_more}, Tree.{Tree, tag, array, map, Trees, no_trees}}
use Rattle.ciborium_value.specs.{Tree.{tree, TreePairs, no_tree_pairs, tree_pair}, declared.key_order.KeyOrder.KeyOrder}
use Rattle.ciborium_value.specs.laws.FormLaws.{FormOrRefused, RefusedByDuplicates}
use Rattle.ciborium_ll.specs.declared.kind.Kind.{Kind}
use Rattle.ciborium_ll.specs.declared.kind.Kind.TheVariants as kinds

-- ---- what a refusal is made of

mapped_refuses : {A B : Type 0} (f : A → B) (r : Outcome A) (k : Kind) → outcome_map f r ≡ refuses k → r ≡ refuses k
mapped_refuses f (refuses j) k e = let same : j ≡ k = cc in ap refuses same
mapped_refuses f u k e = absurd cc

mapped_some : {A B : Type 0} (f : A → B) (r : Option A) (y : B) → option_map f r ≡ Some y → (x : A) × (r ≡ Some x)
mapped_some f (Some x) y e = (x, refl)
mapped_some f None y e = absurd cc

meaning_some : (r : Option Tree) (u : Tree) (k : Kind) → r ≡ Some u → of_meaning kinds.TooLarge r ≡ refuses k → ⊥
meaning_some (Some v) u k e f = cc
meaning_some None u k e f = cc

more_some : (r : Option Tree) (s : Option Trees) (y : Trees) → trees_more r s ≡ Some y → ((v : Tree) × (r ≡ Some v)) ×
    ((vs : Trees) × (s ≡ Some vs))
more_some (Some v) s y e = ((v, refl), mapped_some (tree v) s y e)
more_some None s y e = absurd cc

pairs_some : (q r : Option Tree) (s : Option TreePairs) (y : TreePairs) → tree_pairs_more q r s ≡ Some y →
    ((k : Tree) × (q ≡ Some k)) × ((v : Tree) × (r ≡ Some v)) × ((ps : TreePairs) × (s ≡ Some ps))
pairs_some (Some k) (Some v) s y e = ((k, refl), (v, refl), mapped_some (tree_pair k v) s y e)
pairs_some u v s y e = absurd cc

more_refuses : (r : Outcome Tree) (s : Outcome Trees) (k : Kind) → one_more r s ≡ refuses k →
    (r ≡ refuses k) ⊎ (s ≡ refuses k)
more_refuses (gives v) s k e = inr (mapped_refuses (tree v) s k e)
more_refuses (refuses j) s k e = inl (let same : j ≡ k = cc in ap refuses same)
more_refuses nests s k e = absurd cc

pair_refuses : (q r : Outcome Tree) (s : Outcome TreePairs) (k : Kind) → one_pair_more q r s ≡ refuses k →
    (q ≡ refuses k) ⊎ ((r ≡ refuses k) ⊎ (s ≡ refuses k))
pair_refuses (gives l) (gives v) s k e = inr (inr (mapped_refuses (tree_pair l v) s k e))
pair_refuses (gives l) (refuses j) s k e = inr (inl (let same : j ≡ k = cc in ap refuses same))
pair_refuses (refuses j) r s k e = inl (let same : j ≡ k = cc in ap refuses same)
pair_refuses u v s k e = absurd cc

sorted_refuses : (o : KeyOrder) (qs : TreePairs) (k : Kind) → sorted_pairs o qs ≡ refuses k → k ≡ kinds.DuplicateKey
sorted_refuses o qs k e = by (sorted_pairs o qs) (sorted-either o qs) e
  where
    by : (r : Outcome TreePairs) → IsSortedOrDuplicate r → r ≡ refuses k → k ≡ kinds.DuplicateKey
    by r (inl (rs, is)) f = absurd (let no : gives rs ≡ refuses k = sym is ∙ f in cc)
    by r (inr is) f = let same : refuses kinds.DuplicateKey ≡ refuses k = sym is ∙ f in cc

-- ---- forms

one_of : {A B C : Type 0} → A ⊎ B → (A → C) → (B → C) → C
one_of (inl a) f g = f a
one_of (inr b) f g = g b

refused_tag : (o : KeyOrder) (t : ℕ) (v u : Tree) (k : Kind) (f : Option (List ℕ)) →
    tag_meaning t f (folded v) ≡ Some u → tag_form t f (deterministic_form o v) ≡ refuses k
    → ((w : Tree) → folded v ≡ Some w → deterministic_form o v ≡ refuses k → k ≡ kinds.DuplicateKey) →
    k ≡ kinds.DuplicateKey
refused_tag o t v u k (Some b) h e inside = absurd (meaning_some (bignum_meaning t b) u k h e)
refused_tag o t v u k None h e inside = let (w, content) = mapped_some (tag t) (folded v) u h in
    inside w content (mapped_refuses (tag t) (deterministic_form o v) k e)

refused_map : (o : KeyOrder) (k : Kind) (r : Outcome TreePairs) → then_take r (sorted_pairs o) ≡ refuses k →
    (r ≡ refuses k → k ≡ kinds.DuplicateKey) → k ≡ kinds.DuplicateKey
refused_map o k (gives qs) e inside = sorted_refuses o qs k e
refused_map o k (refuses j) e inside = inside e
refused_map o k nests e inside = absurd cc

mutual
  refused : (o : KeyOrder) (v u : Tree) (k : Kind) → folded v ≡ Some u → deterministic_form o v ≡ refuses k →
      k ≡ kinds.DuplicateKey
  refused o (tag t v) u k h e = refused_tag o t v u k (tree_folding_bytes t v) h e (λ w. refused o v w k)
  refused o (array vs) u k h e = let (ws, all) = mapped_some array (trees_folded vs) u h in
      all_refused o vs ws k all (mapped_refuses array (deterministic_forms o vs) k e)
  refused o (map ps) u k h e =
      let (qs, all) = mapped_some map (tree_pairs_folded ps) u h in
      refused_map o k (pair_forms o ps) (mapped_refuses map (then_take (pair_forms o ps) (sorted_pairs o)) k e)
      (pairs_refused o ps qs k all)
  refused o v u k h e = absurd cc

  all_refused : (o : KeyOrder) (vs us : Trees) (k : Kind) → trees_folded vs ≡ Some us →
      deterministic_forms o vs ≡ refuses k → k ≡ kinds.DuplicateKey
  all_refused o no_trees us k h e = absurd cc
  all_refused o (tree v vs) us k h e =
      let ((w, here), (ws, rest)) = more_some (folded v) (trees_folded vs) us h in
      one_of (more_refuses (deterministic_form o v) (deterministic_forms o vs) k e) (refused o v w k here)
      (all_refused o vs ws k rest)

  pairs_refused : (o : KeyOrder) (ps qs : TreePairs) (k : Kind) → tree_pairs_folded ps ≡ Some qs →
      pair_forms o ps ≡ refuses k → k ≡ kinds.DuplicateKey
  pairs_refused o no_tree_pairs qs k h e = absurd cc
  pairs_refused o (tree_pair l v ps) qs k h e =
      let ((j, key), (w, here), (rs, rest)) = pairs_some (folded l) (folded v) (tree_pairs_folded ps) qs h in
      one_of (pair_refuses (deterministic_form o l) (deterministic_form o v) (pair_forms o ps) k e)
      (refused o l j k key)
      (λ others. one_of others (refused o v w k here) (pairs_refused o ps rs k rest))

pub refused_by_duplicates : RefusedByDuplicates
refused_by_duplicates = refused

-- ---- the two reasons

abbrev IsReason : Kind → Type 0
IsReason k = (k ≡ kinds.DuplicateKey) ⊎ (k ≡ kinds.TooLarge)

-- a value, or a refusal for one of them
abbrev HasReason : {A : Type 0} → Outcome A → Type 0
HasReason (gives v) = Unit {0}
HasReason (refuses k) = IsReason k
HasReason nests = ⊥

reason_mapped : {A B : Type 0} (f : A → B) (r : Outcome A) → HasReason r → HasReason (outcome_map f r)
reason_mapped f (gives v) h = tt
reason_mapped f u h = h

reason_meant : (r : Option Tree) → HasReason (of_meaning kinds.TooLarge r)
reason_meant (Some v) = tt
reason_meant None = inr refl

reason_more : (r : Outcome Tree) (s : Outcome Trees) → HasReason r → HasReason s → HasReason (one_more r s)
reason_more (gives v) s h i = reason_mapped (tree v) s i
reason_more u s h i = h

reason_pair : (q r : Outcome Tree) (s : Outcome TreePairs) → HasReason q → HasReason r → HasReason s →
    HasReason (one_pair_more q r s)
reason_pair (gives k) (gives v) s h i j = reason_mapped (tree_pair k v) s j
reason_pair (gives k) (refuses l) s h i j = i
reason_pair (gives k) nests s h i j = i
reason_pair (refuses l) r s h i j = h
reason_pair nests r s h i j = h

reason_sorted : (o : KeyOrder) (r : Outcome TreePairs) → HasReason r → HasReason (then_take r (sorted_pairs o))
reason_sorted o (gives qs) h = by (sorted_pairs o qs) (sorted-either o qs)
  where
    by : (s : Outcome TreePairs) → IsSortedOrDuplicate s → HasReason s
    by (gives rs) is = tt
    by (refuses k) (inl (rs, e)) = absurd cc
    by (refuses k) (inr e) = let same : k ≡ kinds.DuplicateKey = cc in inl same
    by nests (inl (rs, e)) = absurd cc
    by nests (inr e) = absurd cc
reason_sorted o (refuses k) h = h
reason_sorted o nests h = h

reason_tag : (t : ℕ) (f : Option (List ℕ)) (r : Outcome Tree) → HasReason r → HasReason (tag_form t f r)
reason_tag t (Some b) r h = reason_meant (bignum_meaning t b)
reason_tag t None r h = reason_mapped (tag t) r h

mutual
  reason : (o : KeyOrder) (v : Tree) → HasReason (deterministic_form o v)
  reason o (tag t v) = reason_tag t (tree_folding_bytes t v) (deterministic_form o v) (reason o v)
  reason o (array vs) = reason_mapped array (deterministic_forms o vs) (reasons o vs)
  reason o (map ps) = reason_mapped map (then_take (pair_forms o ps) (sorted_pairs o))
      (reason_sorted o (pair_forms o ps) (pair_reasons o ps))
  reason o _ = tt

  reasons : (o : KeyOrder) (vs : Trees) → HasReason (deterministic_forms o vs)
  reasons o no_trees = tt
  reasons o (tree v vs) = reason_more (deterministic_form o v) (deterministic_forms o vs) (reason o v) (reasons o vs)

  pair_reasons : (o : KeyOrder) (ps : TreePairs) → HasReason (pair_forms o ps)
  pair_reasons o no_tree_pairs = tt
  pair_reasons o (tree_pair k v ps) = reason_pair (deterministic_form o k)
      (deterministic_form o v) (pair_forms o ps) (reason o k) (reason o v) (pair_reasons o ps)

pub form_or_refused : FormOrRefused
form_or_refused o v = by (deterministic_form o v) (reason o v)
  where
    by : (r : Outcome Tree) → HasReason r → ((u : Tree) × (r ≡ gives u)) ⊎
        ((r ≡ refuses kinds.DuplicateKey) ⊎ (r ≡ refuses kinds.TooLarge))
    by (gives u) h = inl (u, refl)
    by (refuses k) (inl e) = inr (inl (ap refuses e))
    by (refuses k) (inr e) = inr (inr (ap refuses e))
    by nests h = absurd h

refused_with_reason : (o : KeyOrder) (v : Tree) (k : Kind) → deterministic_form o v ≡ refuses k → IsReason k
refused_with_reason o v k e = by (deterministic_form o v) (reason o v) e
  where
    by : (r : Outcome Tree) → HasReason r → r ≡ refuses k → IsReason k
    by (gives u) h f = absurd cc
    by (refuses j) h f = let same : j ≡ k = cc in subst IsReason same h
    by nests h f = absurd h

-- what a call that makes a form refuses with
pub refused_with_reasons : {A : Type 0} (o : KeyOrder) (v : Tree) (r : Result A Kind) →
    IfErr r (λ kind. deterministic_form o v ≡ refuses kind) → IfErr r (λ kind. IsReason kind)
refused_with_reasons o v (Ok x) h = tt
refused_with_reasons o v (Err k) h = refused_with_reason o v k h
