-- Trees that are their own deterministic form.
use Rattle.std.proofs.Common.{◌≡◌, ℕ, cond, List, Option, Some, None, MatchOption, refl, sym, ap, ◌∙◌, subst}
use Rattle.std.proofs.Common.{option_map, ◌↔◌}
use Rattle.ciborium_value.proofs.{FoldedTrees.Folding.folds_once, Forms.BignumShapes.rises_where_short}
use Rattle.ciborium_value.proofs.Forms.BignumShapes.{short_where_folding, bignum-no_bytes, bignum-rises}
use Rattle.ciborium_value.proofs.Forms.ReorderedPairs.{AreReordered, as_they_are, behind, neighbours, then_again}
use Rattle.ciborium_value.proofs.Forms.{ReorderedPairs.{sorted-reorders, sorted-rises}, SortedPairs.rising-sorted}
use Rattle.ciborium_value.{proofs.GoodItems.Accepted.{accepted, deterministic_tree}, specs.Deterministic.HasRisingKeys}
use Rattle.ciborium_value.specs.{Deterministic.{HaveRisingKeys, PairsHaveRisingKeys}, DeterministicForms.sorted_pairs}
use Rattle.ciborium_value.specs.DeterministicForms.{tag_form, deterministic_form, deterministic_forms, one_more}
use Rattle.ciborium_value.specs.{DeterministicForms.{one_pair_more, pair_forms}, DeterministicTrees.IsDeterministicTree}
use Rattle.ciborium_value.specs.{Encoding.encoding, Folded.{short_bytes, tree_folding_bytes, folded, trees_folded}}
use Rattle.ciborium_value.specs.{Folded.tree_pairs_folded, Given.{gives, then_take, outcome_map, of_meaning}}
use Rattle.ciborium_value.specs.Meaning.{is_bignum_tag, bignum_meaning, tag_meaning, simple_meaning, trees_more}
use Rattle.ciborium_value.specs.{Meaning.tree_pairs_more, lemmas.ItemsOfTrees.{integer-folded, boolean-folded}}
use Rattle.ciborium_value.specs.Tree.{Tree, integer, boolean, tag, array, map, Trees, no_trees, tree}
use Rattle.ciborium_value.specs.{Tree.{TreePairs, no_tree_pairs, tree_pair}, declared.key_order.KeyOrder.KeyOrder}
use Rattle.ciborium_value.specs.{inner.OwnForms.{IsFormed, AreFormed, PairsAreFormed}, laws.FormLaws.FormIsItsOwn}
use Rattle.ciborium_value.specs.{laws.FormLaws.AcceptedWhereOwnForm, lemmas.GivenOutcomes.{one_given, mapped_gives}}
use Rattle.ciborium_value.specs.lemmas.GivenOutcomes.{then_gives, more_gives, pair_gives, meaning_given}
use Rattle.ciborium_ll.specs.declared.kind.Kind.TheVariants as kinds

-- ---- a formed tree is its own form

mutual
  -- a formed tree has a form, which is the tree itself
  pub own_form : (o : KeyOrder) (t : Tree) → IsFormed o t → deterministic_form o t ≡ gives t
  own_form o (tag t v) h = by (own_form o v) (tree_folding_bytes t v) h
    where
      by : (IsFormed o v → deterministic_form o v ≡ gives v) → (m : Option (List ℕ)) → MatchOption m (IsFormed o v)
          (λ b. bignum_meaning t b ≡ Some (tag t v)) → tag_form t m (deterministic_form o v) ≡ gives (tag t v)
      by own (Some b) f = ap (of_meaning kinds.TooLarge) f
      by own None f = ap (outcome_map (tag t)) (own f)
  own_form o (array vs) h = ap (outcome_map array) (own_forms o vs h)
  own_form o (map ps) h = ap (λ r. outcome_map map (then_take r (sorted_pairs o))) (own_pairs o ps h.1) ∙
      ap (outcome_map map) (rising-sorted o ps h.0)
  own_form o _ h = refl

  -- so has each of a list
  pub own_forms : (o : KeyOrder) (vs : Trees) → AreFormed o vs → deterministic_forms o vs ≡ gives vs
  own_forms o no_trees h = refl
  own_forms o (tree v vs) h = ap (λ r. one_more r (deterministic_forms o vs)) (own_form o v h.0) ∙
      ap (outcome_map (tree v)) (own_forms o vs h.1)

  -- and each key and value of pairs
  pub own_pairs : (o : KeyOrder) (ps : TreePairs) → PairsAreFormed o ps → pair_forms o ps ≡ gives ps
  own_pairs o no_tree_pairs h = refl
  own_pairs o (tree_pair k v ps) h = ap (λ r. one_pair_more r (deterministic_form o v) (pair_forms o ps))
      (own_form o k h.0) ∙ ap (λ r. one_pair_more (gives k) r (pair_forms o ps)) (own_form o v h.1) ∙
      ap (outcome_map (tree_pair k v)) (own_pairs o ps h.2)

-- ---- formed is folded, with rising keys

-- the content of a mapping that is there
pub mapped_same : {A B : Type 0} (f : A → B) (m : Option A) (y : B) → option_map f m ≡ Some y → (x : A) × (m ≡ Some x) ×
    (f x ≡ y)
mapped_same f (Some x) y e = (x, refl, cc)
mapped_same f None y e = absurd cc

-- the folding of a tag's content, where the tag is what it folds to
content_folded : (t : ℕ) (v : Tree) (m : Option Tree) → option_map (tag t) m ≡ Some (tag t v) → m ≡ Some v
content_folded t v m e = let (w, is, same) = mapped_same (tag t) m (tag t v) e in let inner : w ≡ v = cc in is ∙
    ap Some inner

-- of an array's trees
trees_given : (vs : Trees) (m : Option Trees) → option_map array m ≡ Some (array vs) → m ≡ Some vs
trees_given vs m e = let (ws, is, same) = mapped_same array m (array vs) e in let inner : ws ≡ vs = cc in is ∙
    ap Some inner

-- and of a map's pairs
pairs_given : (ps : TreePairs) (m : Option TreePairs) → option_map map m ≡ Some (map ps) → m ≡ Some ps
pairs_given ps m e = let (qs, is, same) = mapped_same map m (map ps) e in let inner : qs ≡ ps = cc in is ∙ ap Some inner

-- the first of trees that are what they fold to, and the others
more_folded : (v : Tree) (vs : Trees) (m : Option Tree) (ms : Option Trees) → trees_more m ms ≡ Some (tree v vs) →
    (m ≡ Some v) × (ms ≡ Some vs)
more_folded v vs (Some w) (Some ws) e = (cc, cc)
more_folded v vs u w e = absurd cc

-- the first pair, and the others
pairs_folded : (k v : Tree) (ps : TreePairs) (m n : Option Tree) (ms : Option TreePairs) →
    tree_pairs_more m n ms ≡ Some (tree_pair k v ps) → (m ≡ Some k) × (n ≡ Some v) × (ms ≡ Some ps)
pairs_folded k v ps (Some l) (Some w) (Some qs) e = (cc, cc, cc)
pairs_folded k v ps u w x e = absurd cc

mutual
  -- a tree that is what it folds to, and whose keys rise, is formed
  pub formed_where_deterministic : (o : KeyOrder) (t : Tree) → folded t ≡ Some t → HasRisingKeys o t → IsFormed o t
  formed_where_deterministic o (tag t v) e h = by (λ f. formed_where_deterministic o v f h) (tree_folding_bytes t v) e
    where
      by : (folded v ≡ Some v → IsFormed o v) → (m : Option (List ℕ)) → tag_meaning t m (folded v) ≡ Some (tag t v) →
          MatchOption m (IsFormed o v) (λ b. bignum_meaning t b ≡ Some (tag t v))
      by inner (Some b) f = f
      by inner None f = inner (content_folded t v (folded v) f)
  formed_where_deterministic o (array vs) e h =
      all_formed_where_deterministic o vs (trees_given vs (trees_folded vs) e) h
  formed_where_deterministic o (map ps) e h = (
    h.0,
    pairs_formed_where_deterministic o ps
        (pairs_given ps (tree_pairs_folded ps) e) h.1,
  )
  formed_where_deterministic o _ e h = tt

  -- so is each of a list
  all_formed_where_deterministic : (o : KeyOrder) (vs : Trees) → trees_folded vs ≡ Some vs → HaveRisingKeys o vs →
      AreFormed o vs
  all_formed_where_deterministic o no_trees e h = tt
  all_formed_where_deterministic o (tree v vs) e h =
      let both = more_folded v vs (folded v) (trees_folded vs) e in
      (formed_where_deterministic o v both.0 h.0, all_formed_where_deterministic o vs both.1 h.1)

  -- and each key and value of pairs
  pairs_formed_where_deterministic : (o : KeyOrder) (ps : TreePairs) → tree_pairs_folded ps ≡ Some ps →
      PairsHaveRisingKeys o ps → PairsAreFormed o ps
  pairs_formed_where_deterministic o no_tree_pairs e h = tt
  pairs_formed_where_deterministic o (tree_pair k v ps) e h =
      let each = pairs_folded k v ps (folded k) (folded v) (tree_pairs_folded ps) e in (
        formed_where_deterministic o k each.0 h.0,
        formed_where_deterministic o v each.1 h.1,
        pairs_formed_where_deterministic o ps each.2 h.2,
      )

mutual
  unfolding simple_meaning

  -- a formed tree is what it folds to
  pub folded_where_formed : (o : KeyOrder) (t : Tree) → IsFormed o t → folded t ≡ Some t
  folded_where_formed o (tag t v) h = by (folded_where_formed o v) (tree_folding_bytes t v) h
    where
      by : (IsFormed o v → folded v ≡ Some v) → (m : Option (List ℕ)) → MatchOption m (IsFormed o v)
          (λ b. bignum_meaning t b ≡ Some (tag t v)) → tag_meaning t m (folded v) ≡ Some (tag t v)
      by inner (Some b) f = f
      by inner None f = ap (option_map (tag t)) (inner f)
  folded_where_formed o (array vs) h = ap (option_map array) (all_folded_where_formed o vs h)
  folded_where_formed o (map ps) h = ap (option_map map) (pairs_folded_where_formed o ps h.1)
  folded_where_formed o (integer z) h = integer-folded z
  folded_where_formed o (boolean b) h = boolean-folded b
  folded_where_formed o _ h = refl

  -- so is each of a list
  all_folded_where_formed : (o : KeyOrder) (vs : Trees) → AreFormed o vs → trees_folded vs ≡ Some vs
  all_folded_where_formed o no_trees h = refl
  all_folded_where_formed o (tree v vs) h = ap (λ m. trees_more m (trees_folded vs)) (folded_where_formed o v h.0) ∙
      ap (trees_more (Some v)) (all_folded_where_formed o vs h.1)

  -- and each key and value of pairs
  pairs_folded_where_formed : (o : KeyOrder) (ps : TreePairs) → PairsAreFormed o ps → tree_pairs_folded ps ≡ Some ps
  pairs_folded_where_formed o no_tree_pairs h = refl
  pairs_folded_where_formed o (tree_pair k v ps) h = ap (λ m. tree_pairs_more m (folded v) (tree_pairs_folded ps))
      (folded_where_formed o k h.0) ∙ ap (λ m. tree_pairs_more (Some k) m (tree_pairs_folded ps))
      (folded_where_formed o v h.1) ∙ ap (tree_pairs_more (Some k) (Some v)) (pairs_folded_where_formed o ps h.2)

mutual
  -- the keys of a formed tree rise
  pub rises_where_formed : (o : KeyOrder) (t : Tree) → IsFormed o t → HasRisingKeys o t
  rises_where_formed o (tag t v) h = by (rises_where_formed o v) (tree_folding_bytes t v) refl h
    where
      by : (IsFormed o v → HasRisingKeys o v) → (m : Option (List ℕ)) → tree_folding_bytes t v ≡ m →
          MatchOption m (IsFormed o v) (λ b. bignum_meaning t b ≡ Some (tag t v)) → HasRisingKeys o v
      by inner (Some b) e f = rises_where_short o v b (short_where_folding t v b e)
      by inner None e f = inner f
  rises_where_formed o (array vs) h = all_rise_where_formed o vs h
  rises_where_formed o (map ps) h = (h.0, pairs_rise_where_formed o ps h.1)
  rises_where_formed o _ h = tt

  -- in each of a list
  all_rise_where_formed : (o : KeyOrder) (vs : Trees) → AreFormed o vs → HaveRisingKeys o vs
  all_rise_where_formed o no_trees h = tt
  all_rise_where_formed o (tree v vs) h = (rises_where_formed o v h.0, all_rise_where_formed o vs h.1)

  -- and in each key and value of pairs
  pairs_rise_where_formed : (o : KeyOrder) (ps : TreePairs) → PairsAreFormed o ps → PairsHaveRisingKeys o ps
  pairs_rise_where_formed o no_tree_pairs h = tt
  pairs_rise_where_formed o (tree_pair k v ps) h = (
    rises_where_formed o k h.0,
    rises_where_formed o v h.1,
    pairs_rise_where_formed o ps h.2,
  )

-- ---- a form is formed

-- what a tag that folds means is formed
pub bignum-formed : (o : KeyOrder) (t : ℕ) (v : Tree) (b : List ℕ) (u : Tree) → tree_folding_bytes t v ≡ Some b →
    bignum_meaning t b ≡ Some u → IsFormed o u
bignum-formed o t v b u is e = formed_where_deterministic o u
    (folds_once (tag t v) u (ap (λ m. tag_meaning t m (folded v)) is ∙ e)) (bignum-rises o t b u e)

-- a form is a byte string only of that byte string
pub form-short : (o : KeyOrder) (v w : Tree) → deterministic_form o v ≡ gives w → short_bytes w ≡ short_bytes v
form-short o (tag t v) w e = by (tree_folding_bytes t v) e
  where
    by : (m : Option (List ℕ)) → tag_form t m (deterministic_form o v) ≡ gives w → short_bytes w ≡ None
    by (Some b) f = bignum-no_bytes t b w (meaning_given kinds.TooLarge (bignum_meaning t b) w f)
    by None f = let (u, is, given) = mapped_gives (tag t) (deterministic_form o v) w f in ap short_bytes (sym given)
form-short o (array vs) w e = let (ws, is, given) = mapped_gives array (deterministic_forms o vs) w e in
    ap short_bytes (sym given)
form-short o (map ps) w e = let (qs, is, given) = mapped_gives map (then_take (pair_forms o ps) (sorted_pairs o)) w e in
    ap short_bytes (sym given)
form-short o _ w e = ap short_bytes (sym (one_given _ _ e))

-- pairs in another order are formed where the pairs are
pub reordered-formed : (o : KeyOrder) {ps qs : TreePairs} → AreReordered ps qs → PairsAreFormed o ps →
    PairsAreFormed o qs
reordered-formed o as_they_are h = h
reordered-formed o (behind r) h = (h.0, h.1, reordered-formed o r h.2)
reordered-formed o neighbours h = (h.2.0, h.2.1, (h.0, h.1, h.2.2))
reordered-formed o (then_again r s) h = reordered-formed o s (reordered-formed o r h)

mutual
  -- the form of a tree is formed
  pub formed : (o : KeyOrder) (t u : Tree) → deterministic_form o t ≡ gives u → IsFormed o u
  formed o (tag t v) u e = by (formed o v) (tree_folding_bytes t v) refl e
    where
      by : ((w : Tree) → deterministic_form o v ≡ gives w → IsFormed o w) → (m : Option (List ℕ)) →
          tree_folding_bytes t v ≡ m → tag_form t m (deterministic_form o v) ≡ gives u → IsFormed o u
      by inner (Some b) is f = bignum-formed o t v b u is (meaning_given kinds.TooLarge (bignum_meaning t b) u f)
      by inner None is f =
          let (w, isw, given) = mapped_gives (tag t) (deterministic_form o v) u f in
          let none : tree_folding_bytes t w ≡ None = ap (λ m. cond (is_bignum_tag t) m None) (form-short o v w isw) ∙
          is in
          subst (IsFormed o) given (subst (λ m. MatchOption m (IsFormed o w) (λ b. bignum_meaning t b ≡ Some (tag t w)))
          (sym none) (inner w isw))
  formed o (array vs) u e = let (ws, is, given) = mapped_gives array (deterministic_forms o vs) u e in
      subst (IsFormed o) given (all_formed o vs ws is)
  formed o (map ps) u e =
      let (qs, is, given) = mapped_gives map (then_take (pair_forms o ps) (sorted_pairs o)) u e in
      let (rs, each, sorted) = then_gives (pair_forms o ps) (sorted_pairs o) qs is in
      subst (IsFormed o) given (
        sorted-rises o rs qs sorted,
        reordered-formed o (sorted-reorders o rs qs sorted) (pairs_formed o ps rs each),
      )
  formed o _ u e = subst (IsFormed o) (one_given _ _ e) tt

  -- so is each of a list
  all_formed : (o : KeyOrder) (vs us : Trees) → deterministic_forms o vs ≡ gives us → AreFormed o us
  all_formed o no_trees us e = subst (AreFormed o) (one_given _ _ e) tt
  all_formed o (tree v vs) us e =
      let (w, ws, is, are, given) = more_gives (deterministic_form o v) (deterministic_forms o vs) us e in
      subst (AreFormed o) given (formed o v w is, all_formed o vs ws are)

  -- and each key and value of pairs
  pairs_formed : (o : KeyOrder) (ps us : TreePairs) → pair_forms o ps ≡ gives us → PairsAreFormed o us
  pairs_formed o no_tree_pairs us e = subst (PairsAreFormed o) (one_given _ _ e) tt
  pairs_formed o (tree_pair k v ps) us e =
      let (l, w, qs, isl, isw, are, given) = pair_gives (deterministic_form o k) (deterministic_form o v)
      (pair_forms o ps) us e in
      subst (PairsAreFormed o) given (formed o k l isl, formed o v w isw, pairs_formed o ps qs are)

-- the form of a form is itself
pub form_is_its_own : FormIsItsOwn
form_is_its_own o v u e = own_form o u (formed o v u e)

-- formed is: its own form
pub own_where_formed : (o : KeyOrder) (t : Tree) → IsFormed o t ↔ (deterministic_form o t ≡ gives t)
own_where_formed o t = (own_form o t, formed o t t)

-- the encoding of a tree that a program can hold is accepted just where the tree is its own form
pub accepted_where_own_form : AcceptedWhereOwnForm
accepted_where_own_form o v p l proper = (
  (λ h.
      let a = deterministic_tree o (encoding v) p (Some l) v h in
      let c : IsDeterministicTree o v = a.0.1 in
      (own_form o v (formed_where_deterministic o v c.folds c.rises), a.1, a.2)),
  (λ h.
      let f : IsFormed o v = formed o v v h.0 in
      accepted o (encoding v) p (Some l) v
      (refl, record { proper = proper; folds = folded_where_formed o v f; rises = rises_where_formed o v f }) h.1 h.2),
)
