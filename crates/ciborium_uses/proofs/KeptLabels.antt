-- Labels are written as they are read, and read again.
use Rattle.std.proofs.Common.{◌≡◌, ◌≤◌, ◌&&◌, inl, refl, sym, ap, subst, ◌∙◌, arith, IsTrue, ℕ, List, [], ◌∷◌, Bool, Ok}
use Rattle.std.proofs.Common.{Option, Some, None, length, option_map, ◌==◌, pos, negsuc}
use Rattle.std.proofs.lemmas.Bool.Decides.{nat_tests}
use Rattle.ciborium_ll.proofs.UniqueSpelling.{none_begins_another, one_item}
use Rattle.ciborium.{proofs.ReadBack.RoundTrips.one-content, specs.{Encoding.item_of, Folded.folded}}
use Rattle.ciborium.specs.{Folded.tree_pairs_folded, Given.{Outcome, given_value, gives, of_meaning, outcome}}
use Rattle.ciborium.specs.{Item.Item, Meaning.tree_pairs_more, Nesting.nesting, Spells.Spells, Tree.{Tree, TreePairs}}
use Rattle.ciborium.specs.{TreeAnswers.IsErrorOf, ValueLists.tree_pairs_of, Writes.IsWrittenAs}
use Rattle.ciborium_value.proofs.FoldedTrees.{FoldedCopies.given-folded, Folding.folds_once}
use Rattle.ciborium_value.{proofs.Writing.ReadBack.written_spells_item, specs.ReadsBack.by_bytes}
use Rattle.ciborium_value.specs.{declared.{error.Error.Error, tree.Value.Value}, lemmas.GivenOutcomes.meaning_given}
use Rattle.ciborium_value.specs.lemmas.ReadsBackValues.{value-back}
use Rattle.ciborium_uses.specs.Envelopes.{AreLabelBytes, AreLabels, IsAllOf, IsHeader, IsKept, are_labels, is_label}
use Rattle.ciborium_uses.specs.Envelopes.{is_empty, is_label_map}
use Rattle.ciborium.specs.Item as item
use Rattle.ciborium.specs.Tree as trees
use Rattle.ciborium_value.specs.declared.error.Error.TheVariants as errors
use Rattle.ciborium_ll.specs.declared.kind.Kind.TheVariants as kinds

-- ---- folding keeps labels

abbrev AreStillLabels : Option TreePairs → Type 0
AreStillLabels None = Unit {0}
AreStillLabels (Some ps) = IsTrue (are_labels ps)

abbrev IsStillMap : Option Tree → Type 0
IsStillMap None = Unit {0}
IsStillMap (Some m) = IsTrue (is_label_map m)

one-more : (k : Tree) (o : Option Tree) (r : Option TreePairs) → IsTrue (is_label k) → AreStillLabels r →
    AreStillLabels (tree_pairs_more (Some k) o r)
one-more k (Some v) (Some ps) is h = ap (λ b. b && are_labels ps) is ∙ h
one-more k u v is h = tt

still-labels : (ps : TreePairs) → IsTrue (are_labels ps) → AreStillLabels (tree_pairs_folded ps)
still-labels trees.no_tree_pairs h = refl
still-labels (trees.tree_pair (trees.integer (pos n)) v ps) h =
    one-more (trees.integer (pos n)) (folded v) (tree_pairs_folded ps) refl (still-labels ps h)
still-labels (trees.tree_pair (trees.integer (negsuc n)) v ps) h =
    one-more (trees.integer (negsuc n)) (folded v) (tree_pairs_folded ps) refl (still-labels ps h)
still-labels (trees.tree_pair (trees.text b) v ps) h =
    one-more (trees.text b) (folded v) (tree_pairs_folded ps) refl (still-labels ps h)
still-labels (trees.tree_pair k v ps) h = absurd cc

still-map : (t : Tree) → IsTrue (is_label_map t) → IsStillMap (folded t)
still-map (trees.map ps) h = by (tree_pairs_folded ps) (still-labels ps h)
  where
    by : (o : Option TreePairs) → AreStillLabels o → IsStillMap (option_map trees.map o)
    by None h = tt
    by (Some qs) h = h
still-map t h = absurd cc

pub kept : (t m : Tree) → AreLabels t m → IsKept m
kept t m h = record {
  labels = subst IsStillMap h.folds (still-map t h.labels);
  folds = folds_once t m h.folds;
  once = h.once;
}

-- ---- maps that are copied folded

pub folds-to : (t m : Tree) → outcome None (given_value (item_of t)) ≡ gives m → folded t ≡ Some m
folds-to t m h = meaning_given kinds.TooLarge (folded t) m (sym (given-folded t) ∙ h)

pub gives-folded : (t m : Tree) → folded t ≡ Some m → outcome None (given_value (item_of t)) ≡ gives m
gives-folded t m h = given-folded t ∙ ap (of_meaning kinds.TooLarge) h

pub for-memory : {A : Type 0} (e : Error) (o : Outcome A) (v : A) → IsErrorOf e o → o ≡ gives v → e ≡ errors.Memory
for-memory errors.Memory o v h is = refl
for-memory (errors.Custom k) o v h is = absurd cc

pub empty-by : (t : Tree) (ps : List (Value × Value)) (b : Bool) → t ≡ trees.map (tree_pairs_of ps) →
    b ≡ (length ps == 0) → b ≡ is_empty t
empty-by t [] b is h = rw is h
empty-by t (p ∷ ps) b is h = rw is (h ∙ grind (arith, nat_tests))

-- ---- what is spelled of a tree that is folded

pub read-back : (bs : List ℕ) (t : Tree) → folded t ≡ Some t → nesting (item_of t) ≤ 256 → Spells bs (item_of t) →
    IsAllOf bs t
read-back bs t folds nests s =
    (item_of t, s, (value-back {way = by_bytes} t refl folds).back _ refl _ refl (Some 256) nests)

pub spelled : (bs : List ℕ) (i : Item) → IsWrittenAs bs (Ok i) → Spells bs i
spelled bs i h = subst (λ c. Spells c i) (sym h.0) (written_spells_item i h.1)

no-item : (i : Item) → Spells [] i → ⊥
no-item i h =
    let apart : (x : ℕ) → x ∷ [] ≡ [] → ⊥ = λ x e. cc in
    apart 224 (none_begins_another [] (224 ∷ []) i (item.simple 0) h (inl (omega arith, refl)))

-- a header is read as it is written
pub header-again : (bs : List ℕ) (m : Tree) → IsKept m → nesting (item_of m) ≤ 256 → Spells bs (item_of m) →
    IsHeader bs m
header-again [] m h nests s = absurd (no-item (item_of m) s)
header-again (b ∷ bs) m h nests s = record { tree = m; item = read-back (b ∷ bs) m h.folds nests s; labels = h }

-- ---- no bytes are two

pub one-value : (bs : List ℕ) (t u : Tree) → IsAllOf bs t → IsAllOf bs u → t ≡ u
one-value bs t u a b = one-content (outcome (Some 256) (given_value b.0)) u t b.2
    (ap (λ i. outcome (Some 256) (given_value i)) (one_item bs b.0 a.0 b.1 a.1) ∙ a.2)

pub one-map : (bs : List ℕ) (m n : Tree) → AreLabelBytes bs m → AreLabelBytes bs n → m ≡ n
one-map bs m n a b =
    let same = one-value bs a.tree b.tree a.item b.item in
    let folds = a.labels.folds in
    let others = b.labels.folds in cc

pub one-header : (bs : List ℕ) (m n : Tree) → IsHeader bs m → IsHeader bs n → m ≡ n
one-header [] m n a b = a ∙ sym b
one-header (b ∷ bs) m n h k = one-map (b ∷ bs) m n h k
