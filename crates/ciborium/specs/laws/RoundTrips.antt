-- What is written is read back, from bytes and from a tree.
use Rattle.std.specs.Prelude.{◌≡◌, ℕ, ◌≤◌, List, [], ◌++◌, length, Option, Some, None, Result, Ok, Err}
use Rattle.std.specs.declared.io.Error.{Error as IoError}
use Rattle.ciborium_ll.specs.{Item.Item, declared.kind.Kind.Kind}
use Rattle.ciborium_value.specs.{Encoding.written_bytes, Nesting.IsWithin, Readings.Reading, Sinks.Named}
use Rattle.ciborium_value.specs.{Sources.IsOutsideFault, Given.{gives, outcome}, TreeAnswers.{IsTreeOf, value_item}}
use Rattle.ciborium_value.specs.WrittenItems.{IsWritten}
use Rattle.ciborium_value.specs.{declared.error.Error.Error as TreeError, declared.tree.Value.Value}
use Rattle.ciborium.specs.{declared.de.error.Error.Error, Errors.fault_of, declared.ser.error.Error.Error as WriteError}
use Rattle.ciborium.specs.{TypedAnswers.{AnswersBytes, AnswersTree, TakesGiven, TakesGiving}, Writes.IsNamedWritten}
use Rattle.ciborium.specs.Writes.{WritesNamed}
use Rattle.ciborium_value.specs.declared.error.Error.TheVariants as of_tree

-- the content is answered and what followed is left; or the call failed, for what no item decides
abbrev pub IsGivenBack : {C E : Type 0} → C → List ℕ → ℕ → Option (List ℕ) → Result C (Error E) → Type 0
IsGivenBack c rest end after (Ok d) = (d ≡ c) × (after ≡ Some rest)
IsGivenBack c rest end after (Err e) = IsOutsideFault end (fault_of after e)

-- reading the bytes of what a value names, where so many levels are left, whatever follows them
abbrev pub BytesReadBack : {T C : Type 0} → (T → Type 0) → (T → Named) → Reading T C → (T → ℕ) → Type 0
BytesReadBack {T} {C} IsValid written reading levels = (v : T) (i : Item)
    (l : ℕ) (rest : List ℕ) (after : Option (List ℕ)) (r : Result C (Error IoError)) → IsValid v → written v ≡ Ok i →
    IsWritten i → IsWithin (Some l) (levels v) → AnswersBytes reading.taken l (written_bytes i ++ rest) after r →
    IsGivenBack (reading.content v) rest (length (written_bytes i)) after r

-- where bytes were written into nothing, of the one value, and the other was read at their front
-- within l levels, the contents are equal
abbrev pub IsContentReadBack : {T C : Type 0} → (T → Type 0) → (T → Named) → Reading T C → (T → ℕ) →
    ℕ → T → T → List ℕ → List ℕ → Type 0
IsContentReadBack IsValid written reading levels l v again bytes rest = (old new : List ℕ) → IsValid v → levels v ≤ l →
    WritesNamed {E = WriteError IoError} (Some old) (Some new) (Ok tt) (written v) → IsNamedWritten (written v) →
    TakesGiven {E = IoError} (Some l) reading.taken (Some bytes) (Some rest) (Ok (reading.content again)) →
    old ≡ [] → bytes ≡ new → reading.content again ≡ reading.content v

-- ---- over a tree

-- the content is answered; or an allocation failed
abbrev pub IsMadeAgain : {C : Type 0} → C → Result C TreeError → Type 0
IsMadeAgain c (Ok d) = d ≡ c
IsMadeAgain c (Err e) = e ≡ of_tree.Memory

-- reading the tree that is made of what a value names, without a limit
abbrev pub TreeReadBack : {T C : Type 0} → (T → Type 0) → (T → Named) → Reading T C → Type 0
TreeReadBack {T} {C} IsValid written reading = (v : T) (made : Value) (r : Result C TreeError) → IsValid v →
    IsTreeOf (written v) made → AnswersTree reading.taken (value_item made) r → IsMadeAgain (reading.content v) r

-- of a tree that was made and read again, the content is that of the value
abbrev pub TreeGivesContent : {T C : Type 0} → (T → Type 0) → (T → Named) → Reading T C → Type 0
TreeGivesContent {T} {C} IsValid written reading = (v : T) (made : Value) (c : C) → IsValid v →
    IsTreeOf (written v) made → outcome None (reading.taken (value_item made)) ≡ gives c → c ≡ reading.content v

-- ---- equal contents

-- two values with one content are written as the same bytes
abbrev pub WriteSameBytes : {T C : Type 0} → (T → Named) → (T → C) → Type 0
WriteSameBytes {T} {C} written content = (v w : T) (i j : Item) → content v ≡ content w →
    written v ≡ Ok i → written w ≡ Ok j → written_bytes i ≡ written_bytes j

-- they are refused with the same kind
abbrev pub AreRefusedAlike : {T C : Type 0} → (T → Named) → (T → C) → Type 0
AreRefusedAlike {T} {C} written content = (v w : T) (k : Kind) → content v ≡ content w →
    written v ≡ Err k → written w ≡ Err k

-- written into nothing, they leave the same bytes
abbrev pub LeaveSameBytes : {T C : Type 0} → (T → Named) → (T → C) → Type 0
LeaveSameBytes {T} {C} written content = (v w : T) (old new before after : List ℕ) →
    content v ≡ content w → WritesNamed {E = WriteError IoError} (Some old) (Some new) (Ok tt) (written v) →
    WritesNamed {E = WriteError IoError} (Some before) (Some after) (Ok tt) (written w) →
    old ≡ [] → before ≡ [] → new ≡ after

-- whatever has the content that reading the bytes of a value gives is written as its item again
abbrev pub BytesWrittenAgain : {T C : Type 0} → (T → Type 0) → (T → Named) → Reading T C → (T → ℕ) → Type 0
BytesWrittenAgain {T} {C} IsValid written reading levels = (v w : T) (i : Item) (l : ℕ) (rest : List ℕ)
    (after : Option (List ℕ)) → IsValid v → written v ≡ Ok i → IsWritten i → IsWithin (Some l) (levels v) →
    TakesGiving (Some l) reading.taken (written_bytes i ++ rest) (reading.content w) after → written w ≡ Ok i

-- the same of the content that reading its tree gives
abbrev pub TreeWrittenAgain : {T C : Type 0} → (T → Type 0) → (T → Named) → Reading T C → Type 0
TreeWrittenAgain {T} {C} IsValid written reading = (v w : T) (made : Value) → IsValid v → IsTreeOf (written v) made →
    outcome None (reading.taken (value_item made)) ≡ gives (reading.content w) → written w ≡ written v
