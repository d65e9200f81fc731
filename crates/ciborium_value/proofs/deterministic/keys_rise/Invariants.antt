use Rattle.std.proofs.Common.{◌↔◌, length}
use Rattle.ciborium_value.specs.{Deterministic.{AreRising, keys_of}, ValueLists.tree_pairs_of}
use Rattle.ciborium_value.proofs.deterministic.keys_rise.Given as goal

-- the keys of the pairs that are left rise just where all do
abbrev pub invariant-loop-rest : goal.invariant-loop-rest
invariant-loop-rest l = AreRising l.order (keys_of (tree_pairs_of l.rest)) ↔ AreRising l.order
    (keys_of (tree_pairs_of l.pairs))

abbrev pub decreases-loop-rest : goal.decreases-loop-rest
decreases-loop-rest l = length l.rest
