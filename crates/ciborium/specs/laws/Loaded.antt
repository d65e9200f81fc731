-- What is written of a value whose tree has an accepted spelling is read back by the deterministic
-- reader (RFC 8949, section 4.2).
use Rattle.std.specs.Prelude.{◌≡◌, ℕ, ◌<◌, ◌≤◌, ◌⊎◌, List, [], ◌++◌, length, map, Option, Some, None, Result, Ok, Err}
use Rattle.std.specs.{List.All, BTreeMap.BTreeMap, declared.io.Error.Error as IoError}
use Rattle.ciborium_ll.specs.Bytes.{greatest_offset}
use Rattle.ciborium_value.specs.{DeterministicTrees.IsDeterministicTree, Encoding.{encoding, item_of}, Folded.folded}
use Rattle.ciborium_value.specs.{Given.{Outcome, Given, gives, nests, outcome}, Nesting.nesting}
use Rattle.ciborium_value.specs.{OrderedValues.ordered_value_cmp, Places.a_map, Readings.Reading, Sinks.Named}
use Rattle.ciborium_value.specs.{Sinks.{container_of, in_turn, named_value}, Spelling.deterministic, Tree.Tree}
use Rattle.ciborium_value.specs.{TreeAnswers.value_item, ValueLists.tree_pairs_of, View.tree_of}
use Rattle.ciborium_value.specs.declared.{key_order.KeyOrder.KeyOrder, tree.Value.Value}
use Rattle.ciborium_value.specs.lemmas.ReadsBackMaps.{IsMapValid}
use Rattle.ciborium.specs.{declared.de.error.Error.Error, declared.de.error.Error.TheVariants.Memory}
use Rattle.ciborium.specs.declared.de.error.Error.TheVariants.{RecursionLimitExceeded}
use Rattle.ciborium.specs.{DeterministicWrites.{IsFormWritten, WritesForm, named_form}, LoadedAnswers.LoadsAll}
use Rattle.ciborium.specs.{ValueAnswers.{AnswersGoodItem, IsFailed}, ValueClauses.ReadsWhole}
use Rattle.ciborium.specs.{declared.ser.error.Error.Error as WriteError, Writes.{IsNamedWritten, WritesNamed}}
use Rattle.ciborium_value.specs.Tree as trees

-- just these bytes were taken, and `deserialized` makes the content of what is answered; or the
-- reader failed, or an allocation failed
abbrev pub IsLoaded : {C E : Type 0} → Given C → C → List ℕ → Option (List ℕ) → Result Tree (Error E) → Type 0
IsLoaded taken c rest after (Ok t) = (after ≡ Some rest) × (outcome None (taken (item_of t)) ≡ gives c)
IsLoaded taken c rest after (Err e) = IsFailed after e

-- a value names the item of a tree that the deterministic reader of an order of keys accepts within
-- l levels: what is read of its bytes, whatever follows them
abbrev pub LoadedAsSaved : {T C : Type 0} → (T → Type 0) → (T → Named) → Reading T C → Type 0
LoadedAsSaved {T} IsValid written reading = (o : KeyOrder)
    (v : T) (t : Tree) (l : ℕ) (rest : List ℕ) (after : Option (List ℕ)) (r : Result Tree (Error IoError)) →
    IsValid v → written v ≡ Ok (item_of t) → IsDeterministicTree o t → nesting (item_of t) ≤ l →
    length (encoding t) ≤ greatest_offset → AnswersGoodItem (deterministic o) (Some (encoding t ++ rest)) l after r →
    IsLoaded reading.taken (reading.content v) rest after r

-- of bytes that were written into nothing, read so, and made into the type again, the content is
-- that of the value
abbrev pub LoadingGivesContent : {T C : Type 0} → (T → Type 0) → (T → Named) → Reading T C → Type 0
LoadingGivesContent {T} {C} IsValid written reading =
    (o : KeyOrder) (v : T) (t w : Tree) (l : ℕ) (old new bytes : List ℕ) (after : Option (List ℕ)) (c : C) →
    IsValid v → written v ≡ Ok (item_of t) → IsDeterministicTree o t → nesting (item_of t) ≤ l →
    length bytes ≤ greatest_offset → WritesNamed {E = WriteError IoError} (Some old) (Some new) (Ok tt) (written v) →
    AnswersGoodItem {E = IoError} (deterministic o) (Some bytes) l after (Ok w) →
    outcome None (reading.taken (item_of w)) ≡ gives c → old ≡ [] → bytes ≡ new → c ≡ reading.content v

-- where bytes were written into nothing, of the one value, the deterministic reader of an order of
-- keys read w at their front within l levels, and the other
-- was made of w, the contents are equal
abbrev pub IsContentLoaded : {T C : Type 0} → KeyOrder → (T → Type 0) → (T → Named) → Reading T C →
    ℕ → T → Value → T → List ℕ → List ℕ → Type 0
IsContentLoaded o IsValid written reading l v w again bytes rest = (old new : List ℕ) → IsValid v →
    WritesNamed {E = WriteError IoError} (Some old) (Some new) (Ok tt) (written v) → IsNamedWritten (written v) →
    ReadsWhole {E = IoError} (deterministic o) (Some bytes) l (Some rest) (Ok (tree_of w)) →
    outcome None (reading.taken (value_item w)) ≡ gives (reading.content again) →
    old ≡ [] → bytes ≡ new → reading.content again ≡ reading.content v

-- ---- of all of the bytes

-- bytes that are loaded with equal contents are equal, by the same order of keys
abbrev pub OneEncoding : {T C : Type 0} → (T → Named) → Reading T C → Type 0
OneEncoding {T} written reading =
    (o : KeyOrder) (l m : ℕ) (b c : List ℕ) (v w : T) → LoadsAll {E = IoError} o l reading written b (Ok v) →
    LoadsAll {E = IoError} o m reading written c (Ok w) → reading.content v ≡ reading.content w → b ≡ c

-- reading of a form takes more than l levels
abbrev pub NestsDeeper : {T C : Type 0} → Reading T C → Outcome Tree → ℕ → Type 0
NestsDeeper reading form l = (t : Tree) × (form ≡ gives t) × (outcome (Some l) (reading.taken (item_of t)) ≡ nests)

-- the content is loaded; or an allocation failed, or reading of the form takes more than l levels,
-- and n are more
abbrev pub IsSavedContent : {T C : Type 0} → Reading T C → Outcome Tree → ℕ → ℕ → C → Result T (Error IoError) → Type 0
IsSavedContent reading form l n c (Ok w) = reading.content w ≡ c
IsSavedContent reading form l n c (Err e) = (e ≡ Memory) ⊎
    ((e ≡ RecursionLimitExceeded) × NestsDeeper reading form l × (l < n))

-- where the deterministic form of a value was written into nothing, loading the bytes gives its
-- content
abbrev pub SavedIsLoaded : {T C : Type 0} → (T → Type 0) → (T → Named) → Reading T C → (T → ℕ) → Type 0
SavedIsLoaded {T} IsValid written reading levels =
    (o : KeyOrder) (l : ℕ) (v : T) (old new bytes : List ℕ) (r : Result T (Error IoError)) →
    IsValid v → WritesForm {E = IoError} (Some old) (Some new) (Ok tt) (named_form o (written v)) →
    IsFormWritten (named_form o (written v)) → length bytes ≤ greatest_offset → LoadsAll o l reading written bytes r →
    old ≡ [] → bytes ≡ new → IsSavedContent reading (named_form o (written v)) l (levels v) (reading.content v) r

-- the same of what was loaded, as a caller has it after its calls
abbrev pub IsSavedLoaded : {T C : Type 0} → (T → Type 0) → (T → Named) → Reading T C → KeyOrder →
    ℕ → T → T → List ℕ → Type 0
IsSavedLoaded IsValid written reading o l v again bytes =
    (old new : List ℕ) → IsValid v → WritesForm {E = IoError} (Some old) (Some new) (Ok tt) (named_form o (written v)) →
    IsFormWritten (named_form o (written v)) → LoadsAll {E = IoError} o l reading written bytes (Ok again) →
    old ≡ [] → bytes ≡ new → reading.content again ≡ reading.content v

-- ---- stores

-- the tree of a store
abbrev pub store_tree : List (Value × Value) → Tree
store_tree es = trees.map (tree_pairs_of es)

-- what counts of its entries
abbrev pub entry_trees : List (Value × Value) → List (Tree × Tree)
entry_trees es = map (λ e. (tree_of e.0, tree_of e.1)) es

-- each key and each value of a store has an accepted spelling of its own
abbrev pub AreDeterministicParts : KeyOrder → List (Value × Value) → Type 0
AreDeterministicParts o es = All (λ e. IsDeterministicTree o (tree_of e.0) × IsDeterministicTree o (tree_of e.1)) es

-- a store names the item of its tree, and that has an accepted spelling
abbrev pub IsDeterministicStore : KeyOrder → List (Value × Value) → Type 0
IsDeterministicStore o es = (container_of a_map (in_turn named_value named_value es) ≡ Ok
    (item_of (store_tree es))) × IsDeterministicTree o (store_tree es)

-- a store is one of which what is written is read back
abbrev pub IsStoreValid : KeyOrder → BTreeMap Value Value → Type 0
IsStoreValid o m = IsMapValid (ordered_value_cmp o)
    (λ v. folded (tree_of v) ≡ Some (tree_of v)) (λ v. folded (tree_of v) ≡ Some (tree_of v)) m
