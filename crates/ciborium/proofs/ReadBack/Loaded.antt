-- What is written of a value whose tree has an accepted spelling is read back by the deterministic reader.
use Rattle.std.proofs.Common.{◌≡◌, ℕ, ◌≤◌, false, List, [], ◌∷◌, ◌++◌, length, map, Option, Some, None, option_map}
use Rattle.std.proofs.Common.{Result, Ok, Err, refl, sym, ap, ◌∙◌, subst, append-nil, arith}
use Rattle.std.{proofs.lemmas.List.Elements.{All-head, All-tail, All-weaker}, specs.BTreeMap.{BTreeMap, IsOrdered}}
use Rattle.std.specs.{List.Sorted.IsStrictlySortedBy, Map.keys_of, declared.io.Error.Error as IoError}
use Rattle.ciborium_ll.{proofs.UniqueSpelling.one_at_front, specs.{Bytes.greatest_offset, Item.Item}}
use Rattle.ciborium_value.proofs.{GoodItems.Accepted.{accepted, written-item}, Writing.ReadBack.written_spells_item}
use Rattle.ciborium_value.{proofs.Writing.ReadBack.written_tree_is_proper, specs.Canonical.key_order}
use Rattle.ciborium_value.specs.Deterministic.{AreRising, PairsHaveRisingKeys}
use Rattle.ciborium_value.specs.{DeterministicTrees.IsDeterministicTree, Encoding.{encoding, item_of, pairs_of}}
use Rattle.ciborium_value.specs.{Encoding.written_bytes, Folded.{folded, tree_pairs_folded}, Given.{gives, outcome}}
use Rattle.ciborium_value.specs.{Meaning.tree_pairs_more, OrderedValues.ordered_value_cmp, Places.a_map}
use Rattle.ciborium_value.specs.{Places.pairs_from, Readings.Reading, ReadsBack.{IsPlainlyReadBack, by_bytes}}
use Rattle.ciborium_value.specs.Sinks.{Named, all_named, and_then, contained, container_of, in_turn, named_value}
use Rattle.ciborium_value.specs.{Spelling.deterministic, Tree.Tree, ValueLists.tree_pairs_of, View.tree_of}
use Rattle.ciborium_value.specs.{WrittenItems.IsWritten, declared.{key_order.KeyOrder.KeyOrder, tree.Value.Value}}
use Rattle.ciborium.proofs.{Encodings.RisingKeys.keys-rise, ReadBack.RoundTrips.one-content}
use Rattle.ciborium.specs.{ValueAnswers.{AnswersGoodItem, GivesTree}, ValueClauses.TakesValue, Writes.IsNamedWritten}
use Rattle.ciborium.specs.{Writes.WritesNamed, declared.{de.error.Error.Error, ser.error.Error.Error as WriteError}}
use Rattle.ciborium.specs.laws.Loaded.{AreDeterministicParts, IsContentLoaded, IsDeterministicStore, IsLoaded}
use Rattle.ciborium.specs.laws.Loaded.{IsStoreValid, LoadedAsSaved, LoadingGivesContent, store_tree}
use Rattle.ciborium_ll.specs.Item as items
use Rattle.ciborium_value.specs.Tree as trees
use Rattle.ciborium_value.specs.Deterministic as rising

-- ---- any type

pub loaded_as_saved : {T C : Type 0} (IsValid : T → Type 0) (written : T → Named) (reading : Reading T C)
    (levels : T → ℕ) → IsPlainlyReadBack IsValid written reading.taken reading.content levels →
    LoadedAsSaved IsValid written reading
loaded_as_saved {T} {C} IsValid written reading levels law o v t l rest after r valid names determined nests fits
    answers =
    by r (answers (encoding t ++ rest) (encoding t) rest t refl
    (accepted o (encoding t) 0 (Some l) t (refl, determined) nests (omega (arith, fits)))
    refl)
  where
    by : (r : Result Tree (Error IoError)) → GivesTree t rest after r →
        IsLoaded reading.taken (reading.content v) rest after r
    by (Ok w) (same, left) = (
      left,
      ap (λ u. outcome None (reading.taken (item_of u))) (sym same) ∙
          (law by_bytes tt v valid).back (item_of t) names (item_of t) refl None tt,
    )
    by (Err e) failed = failed

pub loading_gives_content : {T C : Type 0} (IsValid : T → Type 0) (written : T → Named) (reading : Reading T C) →
    LoadedAsSaved IsValid written reading → LoadingGivesContent IsValid written reading
loading_gives_content IsValid written reading law o v t w l old new bytes after c valid names determined nests fits
    appends answers
    give none same =
    let out : new ≡ old ++ encoding t = subst (λ n. WritesNamed {E = WriteError IoError} (Some old) (Some new) (Ok tt)
    n) names appends in
    let whole : bytes ≡ encoding t = same ∙ out ∙ ap (λ (b : List ℕ). b ++ encoding t) none in
    let all : bytes ≡ encoding t ++ [] = whole ∙ sym (append-nil (encoding t)) in
    let loaded = law o v t l [] after (Ok w) valid names determined nests
    (subst (λ (b : List ℕ). length b ≤ greatest_offset) whole fits)
    (subst (λ b. AnswersGoodItem {E = IoError} (deterministic o) (Some b) l after (Ok w)) all answers) in
    one-content (outcome None (reading.taken (item_of w))) (reading.content v) c loaded.1 give

module _ {T C : Type 0} (IsValid : T → Type 0) (written : T → Named) (reading : Reading T C) (levels : T → ℕ)
    (law : IsPlainlyReadBack IsValid written reading.taken reading.content levels) where
  -- an item that is named was written whole: a tree that is read at its front has just that item
  front-content : (o : KeyOrder) (v : T) (l : ℕ) (w : Tree) (bytes : List ℕ) (after : Option (List ℕ)) (c : C) →
      IsValid v → (i : Item) → written v ≡ Ok i → IsWritten i → bytes ≡ written_bytes i →
      TakesValue (deterministic o) bytes l w after → outcome None (reading.taken (item_of w)) ≡ gives c → c ≡
      reading.content v
  front-content o v l w bytes after c valid i names fits same (s, left, good, e, is) give =
      let one = one_at_front (written_bytes i) s [] left i (item_of w) (written_spells_item i fits)
      (written-item o s 0 (Some l) w good) (append-nil (written_bytes i) ∙ sym same ∙ e) in
      one-content (outcome None (reading.taken i)) (reading.content v) c
      ((law by_bytes tt v valid).back i names i refl None tt)
      (ap (λ j. outcome None (reading.taken j)) one.2 ∙ give)

  -- the same, by cases on what is named
  by-name : (o : KeyOrder) (v : T) (l : ℕ) (w : Tree) (old new bytes : List ℕ) (after : Option (List ℕ)) (c : C) →
      IsValid v → (n : Named) → written v ≡ n → WritesNamed {E = WriteError IoError} (Some old) (Some new) (Ok tt) n →
      IsNamedWritten n → TakesValue (deterministic o) bytes l w after →
      outcome None (reading.taken (item_of w)) ≡ gives c → old ≡ [] → bytes ≡ new → c ≡ reading.content v
  by-name o v l w old new bytes after c valid (Ok i) names appends fits takes give none same =
      let all : new ≡ written_bytes i = appends ∙ ap (λ (b : List ℕ). b ++ written_bytes i) none in
      front-content o v l w bytes after c valid i names fits (same ∙ all) takes give
  by-name o v l w old new bytes after c valid (Err k) names appends fits takes give none same = absurd fits

  pub content_loaded : (o : KeyOrder) (l : ℕ) (v : T) (w : Value) (again : T) (bytes rest : List ℕ) →
      IsContentLoaded o IsValid written reading l v w again bytes rest
  content_loaded o l v w again bytes rest old new valid appends fits reads give none same =
      by-name o v l (tree_of w) old new bytes (Some rest) (reading.content again) valid (written v) refl appends fits
      (reads.ok bytes refl) give none same

-- ---- stores

store-items : (es : List (Value × Value)) → (is : List Item) ×
    (all_named (in_turn named_value named_value es) ≡ Ok is) × (pairs_from is ≡ pairs_of (tree_pairs_of es))
store-items [] = ([], refl, refl)
store-items (e ∷ es) =
    let (is, named, same) = store-items es in
    let k = item_of (tree_of e.0) in let v = item_of (tree_of e.1) in (
      k ∷ v ∷ is,
      ap (λ r. and_then (Ok k) (and_then (Ok v) r)) named,
      ap (items.pair k v) same,
    )

pub store-named : (es : List (Value × Value)) → container_of a_map (in_turn named_value named_value es) ≡ Ok
    (item_of (store_tree es))
store-named es = let (is, named, same) = store-items es in ap (contained a_map false) named ∙
    ap (λ ps. Ok (items.map false ps)) same

store-folds : (o : KeyOrder) (es : List (Value × Value)) → AreDeterministicParts o es →
    tree_pairs_folded (tree_pairs_of es) ≡ Some (tree_pairs_of es)
store-folds o [] h = refl
store-folds o (e ∷ es) h =
    let here = All-head (λ e. IsDeterministicTree o (tree_of e.0) × IsDeterministicTree o (tree_of e.1)) e
    es h in
    ap (λ o. tree_pairs_more o (folded (tree_of e.1)) (tree_pairs_folded (tree_pairs_of es))) here.0.folds
    ∙ ap (λ o. tree_pairs_more (Some (tree_of e.0)) o (tree_pairs_folded (tree_pairs_of es))) here.1.folds
    ∙ ap (tree_pairs_more (Some (tree_of e.0)) (Some (tree_of e.1)))
    (store-folds o es (All-tail (λ e. IsDeterministicTree o (tree_of e.0) ×
    IsDeterministicTree o (tree_of e.1)) e es h))

parts-rise : (o : KeyOrder) (es : List (Value × Value)) → AreDeterministicParts o es →
    PairsHaveRisingKeys o (tree_pairs_of es)
parts-rise o [] h = tt
parts-rise o (e ∷ es) h =
    let here = All-head (λ e. IsDeterministicTree o (tree_of e.0) × IsDeterministicTree o (tree_of e.1)) e
    es h in (
      here.0.rises,
      here.1.rises,
      parts-rise o es (All-tail
          (λ e. IsDeterministicTree o (tree_of e.0) × IsDeterministicTree o (tree_of e.1)) e es h),
    )

tree_keys : (es : List (Value × Value)) → map tree_of (keys_of es) ≡ rising.keys_of (tree_pairs_of es)
tree_keys [] = refl
tree_keys (e ∷ es) = ap (λ ks. tree_of e.0 ∷ ks) (tree_keys es)

neighbours-rise : (o : KeyOrder) (ts : List Tree) → IsStrictlySortedBy (key_order o) ts → AreRising o ts
unfolding IsStrictlySortedBy
neighbours-rise o (k ∷ j ∷ ts) h = (h.0.0, neighbours-rise o (j ∷ ts) h.1)
neighbours-rise o u h = tt

pub deterministic_store : (o : KeyOrder) (es : List (Value × Value)) → IsStrictlySortedBy (ordered_value_cmp o)
    (keys_of es) → IsNamedWritten (container_of a_map (in_turn named_value named_value es)) →
    AreDeterministicParts o es → IsDeterministicStore o es
deterministic_store o es sorted written parts = (
  store-named es,
  record {
    proper = written_tree_is_proper (store_tree es) (subst IsNamedWritten (store-named es) written);
    folds = ap (option_map trees.map) (store-folds o es parts);
    rises = (
      neighbours-rise o (rising.keys_of (tree_pairs_of es))
          (subst (IsStrictlySortedBy (key_order o)) (tree_keys es)
          (keys-rise o named_value es sorted written)),
      parts-rise o es parts,
    );
  },
)

pub store_valid : (o : KeyOrder) (m : BTreeMap Value Value) → IsOrdered (ordered_value_cmp o) m →
    AreDeterministicParts o m.entries → IsStoreValid o m
store_valid o m ordered parts = (
  ordered,
  All-weaker (λ e. IsDeterministicTree o (tree_of e.0) × IsDeterministicTree o (tree_of e.1))
      (λ e. (folded (tree_of e.0) ≡ Some (tree_of e.0)) × (folded (tree_of e.1) ≡ Some (tree_of e.1)))
      (λ e h. (h.0.folds, h.1.folds)) m.entries parts,
)
