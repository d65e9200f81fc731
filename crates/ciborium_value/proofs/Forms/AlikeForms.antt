-- Trees that are equal but for the order of pairs and folding have one form, and a tree is equal to its form but for
-- these.
use Rattle.std.proofs.Common.{◌≡◌, ℕ, cond, List, Option, Some, None, refl, sym, ap, ◌∙◌, subst, option_map}
use Rattle.std.specs.Option.{option_and_then}
use Rattle.ciborium_value.specs.DeterministicForms.{inserted, sorted_pairs, tag_form, deterministic_form, one_pair_more}
use Rattle.ciborium_value.specs.{DeterministicForms.{deterministic_forms, pair_forms}, Folded.short_bytes}
use Rattle.ciborium_value.specs.{Folded.tree_folding_bytes, laws.FormLaws.{AlikeHaveOneForm, OneFormWhereAlike}}
use Rattle.ciborium_value.specs.{laws.FormLaws.FormIsAlike, Meaning.{is_bignum_tag, bignum_meaning}}
use Rattle.ciborium_value.specs.SameContents.{IsAlike, turned, through, folds, in_tag, in_array, in_map, AreAlike}
use Rattle.ciborium_value.specs.SameContents.{PairsAreAlike, no_pairs, more_pairs, exchanged, one_after_another}
use Rattle.ciborium_value.specs.{Given.{Outcome, gives, then_take, of_meaning}, Tree.{Tree, integer, bytes, text}}
use Rattle.ciborium_value.specs.Tree.{boolean, null, tag, array, map, Trees, no_trees, tree, TreePairs, no_tree_pairs}
use Rattle.ciborium_value.specs.{Tree.tree_pair, declared.key_order.KeyOrder.KeyOrder, lemmas.GivenOutcomes.one_given}
use Rattle.ciborium_value.specs.lemmas.GivenOutcomes.{mapped_gives, then_gives, more_gives, pair_gives, meaning_given}
use Rattle.ciborium_value.proofs.{Forms.BignumShapes.bignum-no_bytes, Forms.GivenValues.{given, gives_given, given-map}}
use Rattle.ciborium_value.proofs.{Forms.GivenValues.{given-then, given-more}, Forms.OwnForms.{own_form, bignum-formed}}
use Rattle.ciborium_value.proofs.{Forms.ReorderedPairs.{alike-reordered, sorted-reorders}, Forms.SortedPairs.commutes}
use Rattle.ciborium_value.specs.SameContents as same
use Rattle.ciborium_ll.specs.declared.kind.Kind.TheVariants as kinds

-- ---- the sorted forms of pairs

-- the pairs of a map's form, if it has one
abbrev sorted_forms : KeyOrder → TreePairs → Option TreePairs
sorted_forms o ps = given (then_take (pair_forms o ps) (sorted_pairs o))

-- a pair put among others, if its key is none of theirs
abbrev among : KeyOrder → Tree → Tree → TreePairs → Option TreePairs
among o k v ps = given (inserted o k v ps)

-- a key and a value, if both are there, put among pairs, if they are
abbrev put_among : KeyOrder → Option Tree → Option Tree → Option TreePairs → Option TreePairs
put_among o m n ms = option_and_then (λ k. option_and_then (λ v. option_and_then (among o k v) ms) n) m

-- the sorted forms of a pair before others: its form, put among theirs
more-sorted_forms : (o : KeyOrder) (k v : Tree) (ps : TreePairs)
    → sorted_forms o (tree_pair k v ps) ≡ put_among o (given (deterministic_form o k)) (given (deterministic_form o v))
    (sorted_forms o ps)
more-sorted_forms o k v ps = by (deterministic_form o k) (deterministic_form o v) (pair_forms o ps)
  where
    by : (q r : Outcome Tree) (s : Outcome TreePairs) →
        given (then_take (one_pair_more q r s) (sorted_pairs o)) ≡ put_among o (given q) (given r)
        (given (then_take s (sorted_pairs o)))
    by (gives l) (gives w) (gives qs) = given-then (sorted_pairs o qs) (inserted o l w)
    by q r s = refl

-- two pairs are put among others in either order
among-exchanged : (o : KeyOrder) (k v l w : Tree) (ps : TreePairs) →
    option_and_then (among o k v) (among o l w ps) ≡ option_and_then (among o l w) (among o k v ps)
among-exchanged o k v l w ps = sym (given-then (inserted o l w ps) (inserted o k v)) ∙
    ap given (commutes o k v l w ps) ∙ given-then (inserted o k v ps) (inserted o l w)

-- so are two keys and two values, where they are there
put_among-exchanged : (o : KeyOrder) (a b c d : Option Tree) (ms : Option TreePairs) →
    put_among o a b (put_among o c d ms) ≡ put_among o c d (put_among o a b ms)
put_among-exchanged o (Some k) (Some v) (Some l) (Some w) (Some ps) = among-exchanged o k v l w ps
put_among-exchanged o (Some k) None (Some l) (Some w) ms = refl
put_among-exchanged o None b (Some l) (Some w) ms = refl
put_among-exchanged o a b c d ms = refl

-- two neighbours in each other's place have the same sorted forms
sorted_forms-exchanged : (o : KeyOrder) (k v l w : Tree) (ps : TreePairs) →
    sorted_forms o (tree_pair k v (tree_pair l w ps)) ≡ sorted_forms o (tree_pair l w (tree_pair k v ps))
sorted_forms-exchanged o k v l w ps =
    let a : Option Tree = given (deterministic_form o k) in
    let b : Option Tree = given (deterministic_form o v) in
    let c : Option Tree = given (deterministic_form o l) in
    let d : Option Tree = given (deterministic_form o w) in
    more-sorted_forms o k v (tree_pair l w ps)
    ∙ ap (put_among o a b) (more-sorted_forms o l w ps)
    ∙ put_among-exchanged o a b c d (sorted_forms o ps)
    ∙ sym (more-sorted_forms o l w (tree_pair k v ps) ∙ ap (put_among o c d) (more-sorted_forms o k v ps))

-- ---- one form

-- trees that are equal but for the order of pairs and folding are the same byte string, if one is short
short-alike : {v w : Tree} → IsAlike v w → short_bytes v ≡ short_bytes w
short-alike (turned h) = sym (short-alike h)
short-alike (through h l) = short-alike h ∙ short-alike l
short-alike (folds {t} {v} {w} b is e) = sym (bignum-no_bytes t b w e)
short-alike u = refl

-- a tag over contents that have one form, or both none
tagged-alike : (o : KeyOrder) (t : ℕ) (v w : Tree) → short_bytes v ≡ short_bytes w →
    given (deterministic_form o v) ≡ given (deterministic_form o w)
    → given (deterministic_form o (tag t v)) ≡ given (deterministic_form o (tag t w))
tagged-alike o t v w short h = by (tree_folding_bytes t v) ∙
    ap (λ b. given (tag_form t (cond (is_bignum_tag t) b None) (deterministic_form o w))) short
  where
    by : (m : Option (List ℕ)) → given (tag_form t m (deterministic_form o v)) ≡ given
        (tag_form t m (deterministic_form o w))
    by (Some b) = refl
    by None = given-map (tag t) (deterministic_form o v) ∙ ap (option_map (tag t)) h ∙
        sym (given-map (tag t) (deterministic_form o w))

-- a tag that folds has the form of what its bytes mean
folds-alike : (o : KeyOrder) (t : ℕ) (v w : Tree) (b : List ℕ) → tree_folding_bytes t v ≡ Some b →
    bignum_meaning t b ≡ Some w → given (deterministic_form o (tag t v)) ≡ given (deterministic_form o w)
folds-alike o t v w b is e = ap (λ m. given (tag_form t m (deterministic_form o v))) is ∙
    ap (λ m. given (of_meaning kinds.TooLarge m)) e ∙ sym (ap given (own_form o w (bignum-formed o t v b w is e)))

mutual
  -- trees that are equal but for the order of pairs and folding have one form, or both none
  given-alike : (o : KeyOrder) {v w : Tree} → IsAlike v w →
      given (deterministic_form o v) ≡ given (deterministic_form o w)
  given-alike o same.itself = refl
  given-alike o (turned h) = sym (given-alike o h)
  given-alike o (through h l) = given-alike o h ∙ given-alike o l
  given-alike o (folds {t} {v} {w} b is e) = folds-alike o t v w b is e
  given-alike o (in_tag {t} {v} {w} h) = tagged-alike o t v w (short-alike h) (given-alike o h)
  given-alike o (in_array {vs} {ws} h) = given-map array (deterministic_forms o vs) ∙
      ap (option_map array) (all_given-alike o h) ∙ sym (given-map array (deterministic_forms o ws))
  given-alike o (in_map {ps} {qs} h) = given-map map (then_take (pair_forms o ps) (sorted_pairs o)) ∙
      ap (option_map map) (sorted_forms-alike o h) ∙ sym (given-map map (then_take (pair_forms o qs) (sorted_pairs o)))

  -- so have the trees of two lists
  all_given-alike : (o : KeyOrder) {vs ws : Trees} → AreAlike vs ws →
      given (deterministic_forms o vs) ≡ given (deterministic_forms o ws)
  all_given-alike o same.none = refl
  all_given-alike o (same.more {v} {w} {vs} {ws} h l) =
      rw (
        given-more (deterministic_form o v) (deterministic_forms o vs),
        given-more (deterministic_form o w)
            (deterministic_forms o ws),
        given-alike o h,
        all_given-alike o l,
      )

  -- and the sorted pairs
  sorted_forms-alike : (o : KeyOrder) {ps qs : TreePairs} → PairsAreAlike ps qs → sorted_forms o ps ≡ sorted_forms o qs
  sorted_forms-alike o no_pairs = refl
  sorted_forms-alike o (more_pairs {k} {l} {v} {w} {ps} {qs} h i j) =
      rw (
        more-sorted_forms o k v ps,
        more-sorted_forms o l w qs,
        given-alike o h,
        given-alike o i,
        sorted_forms-alike o j,
      )
  sorted_forms-alike o (exchanged {k} {l} {v} {w} {ps}) = sorted_forms-exchanged o k v l w ps
  sorted_forms-alike o (one_after_another h l) = sorted_forms-alike o h ∙ sorted_forms-alike o l

-- trees that are equal but for the order of pairs and folding have the same form, if one of them has one
pub alike_have_one_form : AlikeHaveOneForm
alike_have_one_form o v w u h e = gives_given (deterministic_form o w) u (sym (given-alike o h) ∙ ap given e)

-- ---- a tree and its form

mutual
  -- a tree is equal to its form but for the order of pairs and folding
  pub form_is_alike : FormIsAlike
  form_is_alike o (integer z) u e = subst (IsAlike (integer z)) (one_given _ _ e) same.itself
  form_is_alike o (bytes b) u e = subst (IsAlike (bytes b)) (one_given _ _ e) same.itself
  form_is_alike o (text b) u e = subst (IsAlike (text b)) (one_given _ _ e) same.itself
  form_is_alike o (boolean b) u e = subst (IsAlike (boolean b)) (one_given _ _ e) same.itself
  form_is_alike o null u e = subst (IsAlike null) (one_given _ _ e) same.itself
  form_is_alike o (tag t v) u e = by (form_is_alike o v) (tree_folding_bytes t v) refl e
    where
      by : ((w : Tree) → deterministic_form o v ≡ gives w → IsAlike v w) → (m : Option (List ℕ)) →
          tree_folding_bytes t v ≡ m → tag_form t m (deterministic_form o v) ≡ gives u → IsAlike (tag t v) u
      by inner (Some b) is f = folds b is (meaning_given kinds.TooLarge (bignum_meaning t b) u f)
      by inner None is f = let (w, isw, made) = mapped_gives (tag t) (deterministic_form o v) u f in
          subst (IsAlike (tag t v)) made (in_tag (inner w isw))
  form_is_alike o (array vs) u e = let (ws, is, made) = mapped_gives array (deterministic_forms o vs) u e in
      subst (IsAlike (array vs)) made (in_array (forms_are_alike o vs ws is))
  form_is_alike o (map ps) u e =
      let (qs, is, made) = mapped_gives map (then_take (pair_forms o ps) (sorted_pairs o)) u e in
      let (rs, each, sorted) = then_gives (pair_forms o ps) (sorted_pairs o) qs is in
      subst (IsAlike (map ps)) made (in_map (one_after_another (pair_forms_are_alike o ps rs each)
      (alike-reordered (sorted-reorders o rs qs sorted))))

  -- so is each of a list
  forms_are_alike : (o : KeyOrder) (vs us : Trees) → deterministic_forms o vs ≡ gives us → AreAlike vs us
  forms_are_alike o no_trees us e = subst (AreAlike no_trees) (one_given _ _ e) same.none
  forms_are_alike o (tree v vs) us e =
      let (w, ws, is, are, made) = more_gives (deterministic_form o v) (deterministic_forms o vs) us e in
      subst (AreAlike (tree v vs)) made (same.more (form_is_alike o v w is) (forms_are_alike o vs ws are))

  -- and each key and value of pairs
  pair_forms_are_alike : (o : KeyOrder) (ps us : TreePairs) → pair_forms o ps ≡ gives us → PairsAreAlike ps us
  pair_forms_are_alike o no_tree_pairs us e = subst (PairsAreAlike no_tree_pairs) (one_given _ _ e) no_pairs
  pair_forms_are_alike o (tree_pair k v ps) us e =
      let (l, w, qs, isl, isw, are, made) = pair_gives (deterministic_form o k) (deterministic_form o v)
      (pair_forms o ps) us e in
      subst (PairsAreAlike (tree_pair k v ps)) made (more_pairs (form_is_alike o k l isl) (form_is_alike o v w isw)
      (pair_forms_are_alike o ps qs are))

-- two trees that have one form are equal but for the order of pairs and folding, and the other way round
pub one_form_where_alike : OneFormWhereAlike
one_form_where_alike o v w t u e f = (
  (λ one. through (form_is_alike o v t e) (turned (form_is_alike o w t (f ∙ sym (ap gives one))))),
  (λ h. one_given t u (sym (alike_have_one_form o v w t h e) ∙ f)),
)
