-- What is met where definite arrays and maps were written: their parts, each as it is met. A map's
-- pairs may be in another order.
use Rattle.std.proofs.Common.{ap, ◌∙◌, arith, subst, zero}
use Rattle.std.specs.Prelude.{◌≡◌, ℕ, suc, Bool, true, false, List, [], ◌∷◌, Some, None, refl}
use Rattle.ciborium_ll.specs.Item.{Item, Items, Pairs, array, no_pairs, pair}
use Rattle.ciborium_value.specs.DeterministicForms.{deterministic_form, deterministic_forms, pair_forms, sorted_pairs}
use Rattle.ciborium_value.specs.{Encoding.{item_of, items_of, pairs_of}, Given.{Steps, deeper_if, gives, outcome}}
use Rattle.ciborium_value.specs.{Given.{outcome_map, then_take, unpack, unpack_pairs, within_level}, Nesting.Limit}
use Rattle.ciborium_value.specs.{Nesting.IsWithin, Places.items_from, ReadsBack.{Way, by_bytes, by_form, by_tree, met}}
use Rattle.ciborium_value.specs.{Tree.{Tree, Trees, TreePairs, no_tree_pairs}, WrittenTrees.written_pairs}
use Rattle.ciborium_value.specs.{WrittenTrees.{written_tree, written_trees}, declared.key_order.KeyOrder.KeyOrder}
use Rattle.ciborium_value.specs.lemmas.GivenOutcomes.{mapped_gives, more_gives, one_given, pair_gives, then_gives}
use Rattle.ciborium_value.specs.lemmas.Reordered.{AreEach, AreReordered, as_they_are, item_pairs, sorted-reordered}
use Rattle.ciborium_ll.specs.Item as items
use Rattle.ciborium_value.specs.Tree as trees

-- ---- arrays

-- each item is met as the one beside it
abbrev pub AreMet : Way → List Item → List Item → Type 0
AreMet way is js = AreEach (λ i j. met way i ≡ gives j) is js

bytes-met : (is : List Item) → AreMet by_bytes is (unpack (items_from is))
bytes-met [] = tt
bytes-met (i ∷ is) = (refl, bytes-met is)

trees-met : (is : List Item) → AreMet by_tree is (unpack (items_of (written_trees (items_from is))))
trees-met [] = tt
trees-met (i ∷ is) = (refl, trees-met is)

forms-met : (o : KeyOrder) (is : List Item) (ts : Trees) →
    deterministic_forms o (written_trees (items_from is)) ≡ gives ts → AreMet (by_form o) is (unpack (items_of ts))
forms-met o [] ts forms = subst (λ us. AreMet (by_form o) [] (unpack (items_of us)))
    (one_given trees.no_trees ts forms) tt
forms-met o (i ∷ is) ts forms =
    let (w, ws, one, rest, same) = more_gives (deterministic_form o (written_tree i))
    (deterministic_forms o (written_trees (items_from is))) ts forms in
    subst (λ us. AreMet (by_form o) (i ∷ is) (unpack (items_of us))) same
    (ap (outcome_map item_of) one, forms-met o is ws rest)

pub array-met : (way : Way) (is : List Item) (j : Item) →
    met way (array false (items_from is)) ≡ gives j → (js : Items) × AreMet way is (unpack js) × (array false js ≡ j)
array-met by_bytes is j e = (items_from is, bytes-met is, one_given (array false (items_from is)) j e)
array-met by_tree is j e =
    let js = items_of (written_trees (items_from is)) in
    (js, trees-met is, one_given (array false js) j e)
array-met (by_form o) is j e =
    let forms = deterministic_forms o (written_trees (items_from is)) in
    let (t, form, same) = mapped_gives item_of (outcome_map trees.array forms) j e in
    let (ts, these, whole) = mapped_gives trees.array forms t form in
    (items_of ts, forms-met o is ts these, ap item_of whole ∙ same)

-- ---- maps

-- each key and each value is met as that of the pair beside it
abbrev pub ArePairsMet : Way → Pairs → List (Item × Item) → Type 0
ArePairsMet way no_pairs [] = Unit {0}
ArePairsMet way no_pairs (q ∷ qs) = ⊥
ArePairsMet way (pair k v ps) [] = ⊥
ArePairsMet way (pair k v ps) (q ∷ qs) = (met way k ≡ gives q.0) × (met way v ≡ gives q.1) × ArePairsMet way ps qs

byte_pairs-met : (ps : Pairs) → ArePairsMet by_bytes ps (unpack_pairs ps)
byte_pairs-met no_pairs = tt
byte_pairs-met (pair k v ps) = (refl, refl, byte_pairs-met ps)

tree_pairs-met : (ps : Pairs) → ArePairsMet by_tree ps (item_pairs (written_pairs ps))
tree_pairs-met no_pairs = tt
tree_pairs-met (pair k v ps) = (refl, refl, tree_pairs-met ps)

form_pairs-met : (o : KeyOrder) (ps : Pairs) (qs : TreePairs) →
    pair_forms o (written_pairs ps) ≡ gives qs → ArePairsMet (by_form o) ps (item_pairs qs)
form_pairs-met o no_pairs qs forms = subst (λ us. ArePairsMet (by_form o) no_pairs (item_pairs us))
    (one_given no_tree_pairs qs forms) tt
form_pairs-met o (pair k v ps) qs forms =
    let (x, y, rs, key, value, rest, same) = pair_gives (deterministic_form o (written_tree k))
    (deterministic_form o (written_tree v)) (pair_forms o (written_pairs ps)) qs forms in
    subst (λ us. ArePairsMet (by_form o) (pair k v ps) (item_pairs us)) same
    (ap (outcome_map item_of) key, ap (outcome_map item_of) value, form_pairs-met o ps rs rest)

pub map-met : (way : Way) (ps : Pairs) (j : Item) → met way (items.map false ps) ≡ gives j → (qs : List (Item × Item)) ×
    (rs : Pairs) × ArePairsMet way ps qs × AreReordered qs (unpack_pairs rs) × (items.map false rs ≡ j)
map-met by_bytes ps j e = (
  unpack_pairs ps,
  ps,
  byte_pairs-met ps,
  as_they_are,
  one_given (items.map false ps) j e,
)
map-met by_tree ps j e =
    let rs = pairs_of (written_pairs ps) in (
      unpack_pairs rs,
      rs,
      tree_pairs-met ps,
      as_they_are,
      one_given (items.map false rs) j e,
    )
map-met (by_form o) ps j e =
    let forms = pair_forms o (written_pairs ps) in
    let sorted = then_take forms (sorted_pairs o) in
    let (t, form, same) = mapped_gives item_of (outcome_map trees.map sorted) j e in
    let (rs, these, whole) = mapped_gives trees.map sorted t form in
    let (qs, all, put) = then_gives forms (sorted_pairs o) rs these in (
      item_pairs qs,
      pairs_of rs,
      form_pairs-met o ps qs all,
      sorted-reordered o qs rs put,
      ap item_of whole ∙ same,
    )

-- ---- forms

-- what holds of a tree holds of its form, if it does of arrays, of maps and of the forms of tags
pub form-kept : (o : KeyOrder) (P : Tree → Type 0) → ((t : ℕ) (v u : Tree) → P (trees.tag t v) →
    deterministic_form o (trees.tag t v) ≡ gives u → P u) → ((vs : Trees) → P (trees.array vs)) →
    ((ps : TreePairs) → P (trees.map ps)) → (t u : Tree) → P t → deterministic_form o t ≡ gives u → P u
form-kept o P tags arrays maps (trees.integer z) u h form = subst P (one_given (trees.integer z) u form) h
form-kept o P tags arrays maps (trees.bytes b) u h form = subst P (one_given (trees.bytes b) u form) h
form-kept o P tags arrays maps (trees.text b) u h form = subst P (one_given (trees.text b) u form) h
form-kept o P tags arrays maps (trees.boolean b) u h form = subst P (one_given (trees.boolean b) u form) h
form-kept o P tags arrays maps trees.null u h form = subst P (one_given trees.null u form) h
form-kept o P tags arrays maps (trees.tag t v) u h form = tags t v u h form
form-kept o P tags arrays maps (trees.array vs) u h form =
    let (ws, is, same) = mapped_gives trees.array (deterministic_forms o vs) u form in
    subst P same (arrays ws)
form-kept o P tags arrays maps (trees.map ps) u h form =
    let (qs, is, same) = mapped_gives trees.map
    (then_take (pair_forms o ps) (sorted_pairs o)) u form in
    subst P same (maps qs)

-- ---- levels

-- what took a level is read on inside it, where one less is left
pub inside : {X A : Type 0} (test : X → Bool) (f : X → Steps A) (x : X) (c : A) (n : ℕ) →
    test x ≡ true → ((l : Limit) → IsWithin l n → outcome l (f x) ≡ gives c) → (l : Limit) →
    IsWithin l (suc n) → then_take (within_level l (gives x)) (λ p. outcome (deeper_if (test p) l) (f p)) ≡ gives c
inside test f x c n e h None fits = ap (λ t. outcome (deeper_if t None) (f x)) e ∙ h None tt
inside test f x c n e h (Some zero) fits = absurd (omega (arith, fits))
inside test f x c n e h (Some (suc m)) fits =
    ap (λ t. outcome (deeper_if t (Some (suc m))) (f x)) e ∙ h (Some m) (omega (arith, fits))
