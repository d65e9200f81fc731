use Rattle.std.{proofs.Common.take, specs.List.AllZip}
use Rattle.ciborium_value.proofs.Trees.Copies.{ArePairsCopied, IsCopied}
use Rattle.ciborium_value.proofs.clone.+copy.Given as goal

abbrev pub invariant-copy_values-loop-value : goal.invariant-copy_values-loop-value
invariant-copy_values-loop-value l = AllZip IsCopied (take l.value-index l.values) l.copies.items

abbrev pub invariant-copy_pairs-loop-pair : goal.invariant-copy_pairs-loop-pair
invariant-copy_pairs-loop-pair l = AllZip ArePairsCopied (take l.pair-index l.pairs) l.copies.items
