-- What the errors of reading stand for, to the contract of `Source` and to private functions.
use Rattle.std.specs.Prelude.{ℕ, Bool, List, [], ◌∷◌, Option, Some, None}
use Rattle.ciborium_ll.specs.{declared.header.Error.Error as LlError, Accesses.IsUsedUp}
use Rattle.ciborium_value.specs.Sources.{Fault, of_device, of_end, of_kind, of_length, of_memory, of_nesting, of_syntax}
use Rattle.ciborium.specs.{declared.de.error.Error.Error, declared.de.error.Error.TheVariants.{Io, Syntax, Semantic}}
use Rattle.ciborium.specs.declared.de.error.Error.TheVariants.{RecursionLimitExceeded, Memory, TooLong}
use Rattle.ciborium_ll.specs.declared.header.Error.TheVariants as ll

-- what an error of the lowest layer becomes
abbrev pub from_ll : {E : Type 0} → LlError E → Error E
from_ll (ll.Io e) = Io e
from_ll (ll.Syntax p) = Syntax p
from_ll ll.TooLong = TooLong
from_ll ll.Memory = Memory

-- where a call could not be given more, what is left of the reader is nothing, unless it can fail
-- before its end
abbrev pub HasEndedBy : {E : Type 0} → Bool → Option (List ℕ) → Error E → Type 0
HasEndedBy can_fail left (Io e) = IsUsedUp can_fail left
HasEndedBy can_fail left (Syntax p) = Unit {0}
HasEndedBy can_fail left (Semantic p k) = Unit {0}
HasEndedBy can_fail left RecursionLimitExceeded = Unit {0}
HasEndedBy can_fail left Memory = Unit {0}
HasEndedBy can_fail left TooLong = Unit {0}

-- what is left of an error where the reader's error is put aside
abbrev pub without_reader_error : {E : Type 0} → Error E → Error Unit
without_reader_error (Io e) = Io tt
without_reader_error (Syntax p) = Syntax p
without_reader_error (Semantic p k) = Semantic p k
without_reader_error RecursionLimitExceeded = RecursionLimitExceeded
without_reader_error Memory = Memory
without_reader_error TooLong = TooLong

-- why a reader gave no more that is left with this: it came to its end, or the device failed
abbrev pub io_fault : Option (List ℕ) → Fault
io_fault None = of_device
io_fault (Some []) = of_end
io_fault (Some (x ∷ b)) = of_device

-- why a call refused that leaves this of the reader
abbrev pub fault_of : {E : Type 0} → Option (List ℕ) → Error E → Fault
fault_of left (Io e) = io_fault left
fault_of left (Syntax p) = of_syntax
fault_of left (Semantic p k) = of_kind k
fault_of left RecursionLimitExceeded = of_nesting
fault_of left Memory = of_memory
fault_of left TooLong = of_length
