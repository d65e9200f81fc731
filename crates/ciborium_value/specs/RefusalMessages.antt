-- What `{}` prints of why an item or a value is refused.
use Rattle.std.specs.Prelude.{ℕ, List, ◌++◌, codes, decimal}
use Rattle.ciborium_ll.specs.HeadMessages.{kind_message, memory_message}
use Rattle.ciborium_value.specs.declared.error.Error.{Error, TheVariants.{Custom, Memory}}
use Rattle.ciborium_value.specs.declared.from_notation.error.{NotationError.NotationError, NotationFault.NotationFault}
use Rattle.ciborium_value.specs.declared.from_notation.error.NotationError.TheVariants as wrong
use Rattle.ciborium_value.specs.declared.from_notation.error.NotationFault.TheVariants as faults

-- the message of an error of trees
abbrev pub tree_error_message : Error → List ℕ
tree_error_message (Custom k) = kind_message k
tree_error_message Memory = memory_message

-- what is wrong in a text of notation
abbrev pub notation_fault_message : NotationFault → List ℕ
notation_fault_message faults.Item = codes "expected an item"
notation_fault_message faults.ArrayEnd = codes "expected `,` or `]`"
notation_fault_message faults.MapEnd = codes "expected `,` or `}`"
notation_fault_message faults.Colon = codes "expected `:`"
notation_fault_message faults.TagEnd = codes "expected `)`"
notation_fault_message faults.End = codes "expected the end of the text"
notation_fault_message faults.Digit = codes "expected a digit"
notation_fault_message faults.Character = codes "expected a character, an escape or `\"`"
notation_fault_message faults.Comment = codes "a comment that does not end"
notation_fault_message faults.Float = codes "a floating-point number"
notation_fault_message faults.Simple = codes "a simple value"
notation_fault_message faults.TooLarge = codes "a number that is too large"
notation_fault_message faults.TooDeep = codes "nested too deep"

-- the message of an error of reading notation
abbrev pub notation_error_message : NotationError → List ℕ
notation_error_message (wrong.At p fault) = notation_fault_message fault ++ (codes " at byte " ++ decimal p)
notation_error_message wrong.Memory = memory_message
