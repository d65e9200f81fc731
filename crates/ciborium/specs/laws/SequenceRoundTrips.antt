-- What is written as a sequence is read back (RFC 8742, section 2).
use Rattle.std.specs.Prelude.{◌≡◌, ℕ, ◌≤◌, max, List, [], ◌∷◌, length, map, All, Option, Some, None, Result, Ok, Err}
use Rattle.std.specs.declared.io.Error.{Error as IoError}
use Rattle.ciborium_ll.specs.Item.{Item}
use Rattle.ciborium_value.specs.{Encoding.{items_bytes, written_bytes}, Nesting.IsWithin, Places.items_from}
use Rattle.ciborium_value.specs.{Readings.Reading, Sinks.{Named, all_named}, Sources.IsOutsideFault, Given.Given}
use Rattle.ciborium_value.specs.WrittenItems.{AreWritten}
use Rattle.ciborium.specs.{declared.de.error.Error.Error, Errors.fault_of, SequenceReads.RefusesSequence}
use Rattle.ciborium.specs.{SequenceReads.TakesSequence, SequenceWrites.{AreNamedWritten, WritesInTurn}}
use Rattle.ciborium.specs.declared.ser.error.Error.{Error as WriteError}

-- the answer of a reader over these bytes within a limit, as a sequence
abbrev pub AnswersSequence : {A E : Type 0} → Given A → ℕ → List ℕ → Option (List ℕ) →
    Result (List A) (Error E) → Type 0
AnswersSequence taken l b after r = TakesSequence (Some l) taken (Some b) after r ×
    RefusesSequence (Some l) taken (Some b) after r

-- the contents are answered and nothing is left; or the call failed, for what no item decides
abbrev pub AreGivenBack : {C E : Type 0} → List C → ℕ → Option (List ℕ) → Result (List C) (Error E) → Type 0
AreGivenBack cs end after (Ok ds) = (ds ≡ cs) × (after ≡ Some [])
AreGivenBack cs end after (Err e) = IsOutsideFault end (fault_of None e)

-- how long the longest of these is, written
abbrev pub longest : List Item → ℕ
longest [] = 0
longest (i ∷ is) = max (length (written_bytes i)) (longest is)

-- reading the bytes of what values name, where so many levels are left, gives their contents and
-- leaves nothing, or fails for what no
-- item decides
abbrev pub SequenceReadsBack : {T C : Type 0} → (T → Type 0) → (T → Named) → Reading T C → (T → ℕ) → Type 0
SequenceReadsBack {T} {C} IsValid written reading levels =
    (vs : List T) (is : List Item) (l : ℕ) (after : Option (List ℕ)) (r : Result (List C) (Error IoError)) →
    All IsValid vs → all_named (map written vs) ≡ Ok is → AreWritten (items_from is) →
    All (λ v. IsWithin (Some l) (levels v)) vs → AnswersSequence reading.taken l (items_bytes (items_from is)) after r →
    AreGivenBack (map reading.content vs) (longest is) after r

-- where bytes were written into nothing, of the values of one list, and the others were read of all
-- of them, the contents are equal
abbrev pub AreContentsReadBack : {T C : Type 0} → (T → Type 0) → (T → Named) → Reading T C →
    (T → ℕ) → List T → List T → List ℕ → List ℕ → Type 0
AreContentsReadBack IsValid written reading levels vs again bytes rest = (old new : List ℕ) →
    All IsValid vs → All (λ v. levels v ≤ 256) vs → WritesInTurn {E = WriteError IoError} (Some old) (Some new) (Ok tt)
    (all_named (map written vs)) → AreNamedWritten (all_named (map written vs)) →
    TakesSequence {E = IoError} (Some 256) reading.taken (Some bytes) (Some rest) (Ok (map reading.content again)) →
    old ≡ [] → bytes ≡ new → map reading.content again ≡ map reading.content vs
