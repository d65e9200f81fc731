-- An error of a tree is the fault of the item that is refused, wherever that stands.
use Rattle.std.proofs.Common.{ℕ}
use Rattle.ciborium_value.specs.{Sources.IsFaultOf, Given.Outcome, TreeAnswers.{IsErrorOf, tree_fault}}
use Rattle.ciborium_value.specs.{declared.error.Error.Error, declared.error.Error.TheVariants.{Custom, Memory}}

pub fault_error : {A : Type 0} (e : Error) (o : Outcome A) (end : ℕ) → IsErrorOf e o → IsFaultOf end (tree_fault e) o
fault_error (Custom k) o end h = h
fault_error Memory o end h = tt

pub error_fault : {A : Type 0} (e : Error) (o : Outcome A) (end : ℕ) → IsFaultOf end (tree_fault e) o → IsErrorOf e o
error_fault (Custom k) o end h = h
error_fault Memory o end h = tt
