-- The form of a tree that a program can hold is such a tree.
use Rattle.std.proofs.Common.{◌≡◌, ℕ, ◌≤◌, suc, cond, Bool, true, false, leb, List, length, Option, Some, None, refl}
use Rattle.std.proofs.Common.{ap, ◌∙◌, negsuc, pos, subst}
use Rattle.ciborium_ll.specs.{Bytes.greatest_offset, ProperItems.IsProperBytes}
use Rattle.ciborium_value.proofs.Forms.{BignumShapes.short_where_folding, ReorderedPairs.{AreReordered, as_they_are}}
use Rattle.ciborium_value.proofs.Forms.ReorderedPairs.{behind, neighbours, then_again, sorted-reorders}
use Rattle.ciborium_value.{proofs.GoodItems.ProperMeanings.proper_bignum, specs.Counts.{trees_count, tree_pairs_count}}
use Rattle.ciborium_value.specs.DeterministicForms.{sorted_pairs, tag_form, deterministic_form, deterministic_forms}
use Rattle.ciborium_value.specs.{DeterministicForms.pair_forms, Folded.{short_bytes, tree_folding_bytes}, Given.gives}
use Rattle.ciborium_value.specs.{Given.then_take, Meaning.bignum_meaning, ProperTrees.{IsProperTree, AreProperTrees}}
use Rattle.ciborium_value.specs.{ProperTrees.AreProperTreePairs, Tree.{Tree, integer, bytes, boolean, tag}}
use Rattle.ciborium_value.specs.Tree.{array, map, Trees, no_trees, tree, TreePairs, no_tree_pairs, tree_pair}
use Rattle.ciborium_value.specs.{declared.key_order.KeyOrder.KeyOrder, laws.FormLaws.FormIsProper}
use Rattle.ciborium_value.specs.lemmas.GivenOutcomes.{one_given, mapped_gives, then_gives, more_gives, pair_gives}
use Rattle.ciborium_value.specs.lemmas.GivenOutcomes.{meaning_given}
use Rattle.ciborium_ll.specs.declared.kind.Kind.TheVariants as kinds

-- ---- bytes on which a tag folds

-- the short byte string that a proper tree is
short_bytes-proper : (v : Tree) (b : List ℕ) → IsProperTree v → short_bytes v ≡ Some b → IsProperBytes b
short_bytes-proper (bytes c) b h e = by (leb (length c) 16) e
  where
    by : (a : Bool) → cond a (Some c) None ≡ Some b → IsProperBytes b
    by true f = let same : c ≡ b = cc in subst IsProperBytes same h
    by false f = absurd cc
short_bytes-proper (integer (pos n)) b h e = absurd cc
short_bytes-proper (integer (negsuc n)) b h e = absurd cc
short_bytes-proper (boolean false) b h e = absurd cc
short_bytes-proper (boolean true) b h e = absurd cc
short_bytes-proper u b h e = absurd cc

-- ---- pairs in another order

-- there are as many
reordered-count : {ps qs : TreePairs} → AreReordered ps qs → tree_pairs_count ps ≡ tree_pairs_count qs
reordered-count (behind r) = ap suc (reordered-count r)
reordered-count (then_again r s) = reordered-count r ∙ reordered-count s
reordered-count u = refl

-- a program can hold each of them, if it can hold each of the pairs
reordered-proper : {ps qs : TreePairs} → AreReordered ps qs → AreProperTreePairs ps → AreProperTreePairs qs
reordered-proper as_they_are h = h
reordered-proper (behind r) h = (h.0, h.1, reordered-proper r h.2)
reordered-proper neighbours h = (h.2.0, h.2.1, (h.0, h.1, h.2.2))
reordered-proper (then_again r s) h = reordered-proper s (reordered-proper r h)

-- ---- counts of forms

-- a list has as many forms as trees
forms-count : (o : KeyOrder) (vs us : Trees) → deterministic_forms o vs ≡ gives us → trees_count vs ≡ trees_count us
forms-count o no_trees us e = ap trees_count (one_given _ _ e)
forms-count o (tree v vs) us e =
    let (w, ws, is, are, made) = more_gives (deterministic_form o v) (deterministic_forms o vs) us e in
    ap suc (forms-count o vs ws are) ∙ ap trees_count made

-- and as many pairs of forms as pairs
pair_forms-count : (o : KeyOrder) (ps us : TreePairs) → pair_forms o ps ≡ gives us →
    tree_pairs_count ps ≡ tree_pairs_count us
pair_forms-count o no_tree_pairs us e = ap tree_pairs_count (one_given _ _ e)
pair_forms-count o (tree_pair k v ps) us e =
    let (l, w, qs, isl, isw, are, made) = pair_gives (deterministic_form o k) (deterministic_form o v) (pair_forms o ps)
    us e in
    ap suc (pair_forms-count o ps qs are) ∙ ap tree_pairs_count made

-- ---- forms

mutual
  -- the form of a tree that a program can hold is such a tree
  pub form_is_proper : FormIsProper
  form_is_proper o (tag t v) u h e = by (λ w. form_is_proper o v w h.1) (tree_folding_bytes t v) refl e
    where
      by : ((w : Tree) → deterministic_form o v ≡ gives w → IsProperTree w) → (m : Option (List ℕ)) →
          tree_folding_bytes t v ≡ m → tag_form t m (deterministic_form o v) ≡ gives u → IsProperTree u
      by inner (Some b) is f = proper_bignum t b u (short_bytes-proper v b h.1 (short_where_folding t v b is))
          (meaning_given kinds.TooLarge (bignum_meaning t b) u f)
      by inner None is f = let (w, isw, made) = mapped_gives (tag t) (deterministic_form o v) u f in
          subst IsProperTree made (h.0, inner w isw)
  form_is_proper o (array vs) u h e =
      let (ws, is, made) = mapped_gives array (deterministic_forms o vs) u e in
      subst IsProperTree made (
        subst (λ n. n ≤ greatest_offset) (forms-count o vs ws is) h.0,
        forms_are_proper o vs ws h.1 is,
      )
  form_is_proper o (map ps) u h e =
      let (qs, is, made) = mapped_gives map (then_take (pair_forms o ps) (sorted_pairs o)) u e in
      let (rs, each, sorted) = then_gives (pair_forms o ps) (sorted_pairs o) qs is in
      let order : AreReordered rs qs = sorted-reorders o rs qs sorted in
      subst IsProperTree made (
        subst (λ n. n ≤ greatest_offset) (pair_forms-count o ps rs each ∙ reordered-count order)
            h.0,
        reordered-proper order (pair_forms_are_proper o ps rs h.1 each),
      )
  form_is_proper o _ u h e = subst IsProperTree (one_given _ _ e) h

  -- so is each of a list
  forms_are_proper : (o : KeyOrder) (vs us : Trees) → AreProperTrees vs → deterministic_forms o vs ≡ gives us →
      AreProperTrees us
  forms_are_proper o no_trees us h e = subst AreProperTrees (one_given _ _ e) tt
  forms_are_proper o (tree v vs) us h e =
      let (w, ws, is, are, made) = more_gives (deterministic_form o v) (deterministic_forms o vs) us e in
      subst AreProperTrees made (form_is_proper o v w h.0 is, forms_are_proper o vs ws h.1 are)

  -- and each key and value of pairs
  pair_forms_are_proper : (o : KeyOrder) (ps us : TreePairs) → AreProperTreePairs ps → pair_forms o ps ≡ gives us →
      AreProperTreePairs us
  pair_forms_are_proper o no_tree_pairs us h e = subst AreProperTreePairs (one_given _ _ e) tt
  pair_forms_are_proper o (tree_pair k v ps) us h e =
      let (l, w, qs, isl, isw, are, made) = pair_gives (deterministic_form o k) (deterministic_form o v)
      (pair_forms o ps) us e in
      subst AreProperTreePairs made (
        form_is_proper o k l h.0 isl,
        form_is_proper o v w h.1 isw,
        pair_forms_are_proper o ps qs h.2 are,
      )
