-- What was written in its deterministic form is read back (RFC 8949, section 4.2).
use Rattle.std.specs.Prelude.{◌≡◌, ℕ, ◌≤◌, List, [], ◌++◌, length, Option, Some, None, Result, Ok, Err}
use Rattle.ciborium_ll.specs.Bytes.{greatest_offset}
use Rattle.ciborium_value.specs.{DeterministicForms.deterministic_form, Encoding.{encoding, item_of}, Given.Given}
use Rattle.ciborium_value.specs.{Given.{gives, outcome}, Nesting.nesting, ProperTrees.IsProperTree, Readings.Reading}
use Rattle.ciborium_value.specs.{Sinks.Named, Spelling.deterministic, Tree.Tree, View.tree_of}
use Rattle.ciborium_value.specs.{WrittenTrees.written_tree, declared.{key_order.KeyOrder.KeyOrder, tree.Value.Value}}
use Rattle.ciborium.specs.{DeterministicWrites.{IsFormWritten, WritesForm, named_form}, TypedAnswers.TakesGiven}
use Rattle.ciborium.specs.{ValueAnswers.{AnswersGoodItem, GivesTree}, ValueClauses.ReadsWhole}
use Rattle.ciborium.specs.declared.de.error.Error.{Error}
use Rattle.std.specs.declared.io.Error.{Error as IoError}

-- of a tree that a program can hold the encoding of its form, whatever follows it, is read by the
-- deterministic reader of that order, within as many levels as the
-- form takes, as just the form
abbrev pub FormIsReadBack : Type 0
FormIsReadBack = (o : KeyOrder) (v t : Tree) (l : ℕ) (rest : List ℕ) (after : Option (List ℕ))
    (r : Result Tree (Error IoError)) → IsProperTree v →
    deterministic_form o v ≡ gives t → nesting (item_of t) ≤ l → length (encoding t) ≤ greatest_offset →
    AnswersGoodItem (deterministic o) (Some (encoding t ++ rest)) l after r → GivesTree t rest after r

-- where the form of what a value names was written into nothing, and the deterministic reader of
-- that order read w at the front of the bytes, w is the form
abbrev pub IsFormReadBack : KeyOrder → Named → ℕ → Value → List ℕ → List ℕ → Type 0
IsFormReadBack o named l w bytes rest = (old new : List ℕ) → WritesForm {E = IoError} (Some old) (Some new)
    (Ok tt) (named_form o named) → IsFormWritten (named_form o named) → ReadsWhole {E = IoError} (deterministic o)
    (Some bytes) l (Some rest) (Ok (tree_of w)) → old ≡ [] → bytes ≡ new → named_form o named ≡ gives (tree_of w)

-- ---- as any type

-- what a value names is its own deterministic form
abbrev pub IsOwnForm : KeyOrder → Named → Type 0
IsOwnForm o (Ok i) = deterministic_form o (written_tree i) ≡ gives (written_tree i)
IsOwnForm o (Err kind) = ⊥

-- reading takes from the deterministic form of what a value names what it takes from the tree
-- itself: the order of pairs and folding make no difference to it
abbrev pub IsFormReadAlike : {C : Type 0} → Given C → KeyOrder → Named → Type 0
IsFormReadAlike taken o (Ok i) = (t : Tree) → deterministic_form o (written_tree i) ≡ gives t →
    outcome None (taken (item_of t)) ≡ outcome None (taken (item_of (written_tree i)))
IsFormReadAlike taken o (Err kind) = ⊥

-- where the form of what the one value names was written into nothing, and the other was read at
-- the front of the bytes within l levels, and this holds of what is
-- named, the contents are equal
abbrev pub IsFormContentReadBack : {T C : Type 0} → (Named → Type 0) → (T → Type 0) → (T → Named) →
    Reading T C → KeyOrder → ℕ → T → T → List ℕ → List ℕ → Type 0
IsFormContentReadBack Holds IsValid written reading o l v again bytes rest = (old new : List ℕ) →
    IsValid v → Holds (written v) → WritesForm {E = IoError} (Some old) (Some new) (Ok tt) (named_form o (written v)) →
    IsFormWritten (named_form o (written v)) → TakesGiven {E = IoError} (Some l) reading.taken (Some bytes) (Some rest)
    (Ok (reading.content again)) → old ≡ [] → bytes ≡ new → reading.content again ≡ reading.content v

-- the same of a type to which the order of pairs and folding make no difference: nothing is asked
-- of what is named
abbrev pub IsFormContentGiven : {T C : Type 0} → (T → Type 0) → (T → Named) → Reading T C →
    KeyOrder → ℕ → T → T → List ℕ → List ℕ → Type 0
IsFormContentGiven IsValid written reading o l v again bytes rest =
    (old new : List ℕ) → IsValid v → WritesForm {E = IoError} (Some old) (Some new) (Ok tt) (named_form o (written v)) →
    IsFormWritten (named_form o (written v)) → TakesGiven {E = IoError} (Some l) reading.taken (Some bytes) (Some rest)
    (Ok (reading.content again)) → old ≡ [] → bytes ≡ new → reading.content again ≡ reading.content v
