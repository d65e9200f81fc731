use Rattle.std.proofs.Common.{take}
use Rattle.ciborium_value.specs.{ValueLists.{trees_of, tree_pairs_of}, inner.OwnForms.{AreFormed, PairsAreFormed}}
use Rattle.ciborium_value.proofs.deterministic.+is_formed.Given as goal

-- the items so far are their own forms
abbrev pub invariant-are_formed-loop-item : goal.invariant-are_formed-loop-item
invariant-are_formed-loop-item l = AreFormed l.order (trees_of (take l.item-index l.item-items))

-- the pairs so far are of own forms
abbrev pub invariant-pairs_are_formed-loop-pair : goal.invariant-pairs_are_formed-loop-pair
invariant-pairs_are_formed-loop-pair l = PairsAreFormed l.order (tree_pairs_of (take l.pair-index l.pair-items))
