-- What writing the deterministic form of a value puts out (RFC 8949, section 4.2).
use Rattle.std.specs.{Prelude.{◌≡◌, ℕ, ◌<◌, List, length, take, Option, Result, Ok, Err}, Io.KnownBytes.Appends}
use Rattle.ciborium_value.specs.{DeterministicForms.deterministic_form, Encoding.{encoding, item_of}, Given.Outcome}
use Rattle.ciborium_value.specs.{Given.{gives, refuses}, Sinks.{Named, Cause, value, memory, device}, Tree.Tree}
use Rattle.ciborium_value.specs.{WrittenItems.IsWritten, WrittenTrees.written_tree}
use Rattle.ciborium_value.specs.declared.key_order.KeyOrder.{KeyOrder}
use Rattle.ciborium.specs.{declared.ser.error.Error.Error, declared.ser.error.Error.TheVariants.{Io, Value, Memory}}

-- the deterministic form of what a value names: that of the tree of the item, or the kind with
-- which the value is refused
abbrev pub named_form : KeyOrder → Named → Outcome Tree
named_form o (Ok i) = deterministic_form o (written_tree i)
named_form o (Err kind) = refuses kind

-- there is a form, and this holds of it
abbrev pub HasForm : Outcome Tree → (Tree → Type 0) → Type 0
HasForm form P = (t : Tree) × (form ≡ gives t) × P t

-- at `Ok` there is a form, and just its encoding went out; where the writer failed there is one
-- too, and a proper beginning of its encoding went out, and nothing
-- else; where the value was refused, or memory was, nothing went out at all
abbrev pub WritesForm : {E : Type 0} → Option (List ℕ) → Option (List ℕ) →
    Result (Unit {0}) (Error E) → Outcome Tree → Type 0
WritesForm old new (Ok u) form = HasForm form (λ t. Appends old new (encoding t))
WritesForm old new (Err (Io e)) form = HasForm form
    (λ t. (k : ℕ) × (k < length (encoding t)) × Appends old new (take k (encoding t)))
WritesForm old new (Err (Value kind)) form = new ≡ old
WritesForm old new (Err Memory) form = new ≡ old

-- why there is an error: a kind is the one with which the form is refused, the writer fails only
-- where there is a form, and memory may be refused of any value
abbrev pub IsFormOwed : Cause → Outcome Tree → Type 0
IsFormOwed (value kind) form = form ≡ refuses kind
IsFormOwed memory form = Unit {0}
IsFormOwed device form = HasForm form (λ t. Unit {0})

-- there is a form, and its item can be written
abbrev pub IsFormWritten : Outcome Tree → Type 0
IsFormWritten form = HasForm form (λ t. IsWritten (item_of t))
