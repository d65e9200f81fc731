use Rattle.std.{proofs.Common.take, specs.List.AllZip}
use Rattle.ciborium_value.proofs.FoldedTrees.FoldedCopies.{IsFoldedCopy, IsFoldedPair}
use Rattle.ciborium_value.proofs.deserialized.folding.+fold_value.Given as goal

-- the values so far were copied, folded
abbrev pub invariant-fold_values-loop-value : goal.invariant-fold_values-loop-value
invariant-fold_values-loop-value l = AllZip IsFoldedCopy (take l.value-index l.values) l.copies.items

-- the pairs so far
abbrev pub invariant-fold_pairs-loop-pair : goal.invariant-fold_pairs-loop-pair
invariant-fold_pairs-loop-pair l = AllZip IsFoldedPair (take l.pair-index l.pairs) l.copies.items
