-- What writing a value as a tree, and reading one from a tree, answers.
use Rattle.std.specs.Prelude.{◌≡◌, Ok, Err}
use Rattle.ciborium_ll.specs.Item.{Item}
use Rattle.ciborium_value.specs.{Encoding.item_of, Given.{Outcome, refuses}, Sinks.{Cause, Named, memory, value}}
use Rattle.ciborium_value.specs.{Sources.{Fault, of_kind, of_memory}, View.tree_of, WrittenTrees.written_tree}
use Rattle.ciborium_value.specs.declared.{error.Error.{Error, TheVariants.{Custom, Memory}}, tree.Value.Value}

abbrev pub tree_cause : Error → Cause
tree_cause (Custom k) = value k
tree_cause Memory = memory

-- the tree of the item that is named
abbrev pub IsTreeOf : Named → Value → Type 0
IsTreeOf (Ok i) v = tree_of v ≡ written_tree i
IsTreeOf (Err k) v = ⊥

-- the item of a value: definite, and nothing folded
abbrev pub value_item : Value → Item
value_item v = item_of (tree_of v)

abbrev pub tree_fault : Error → Fault
tree_fault (Custom k) = of_kind k
tree_fault Memory = of_memory

-- an item that gives this outcome is refused so, or for want of memory
abbrev pub IsErrorOf : {A : Type 0} → Error → Outcome A → Type 0
IsErrorOf (Custom k) o = o ≡ refuses k
IsErrorOf Memory o = Unit {0}
