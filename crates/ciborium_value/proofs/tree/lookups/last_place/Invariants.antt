use Rattle.std.proofs.Common.{◌≡◌, ◌≤◌, length, drop, None}
use Rattle.ciborium_value.specs.{Lookups.last_with, ValueLists.tree_pairs_of}
use Rattle.ciborium_value.proofs.tree.lookups.last_place.Given as goal

-- no pair from here on has the label
abbrev pub invariant-loop-end : goal.invariant-loop-end
invariant-loop-end g l = (l.end ≤ length l.pairs) ×
    (last_with (g.L.SoughtLabel.label l.label) (tree_pairs_of (drop l.end l.pairs)) ≡ None)

abbrev pub decreases-loop-end : goal.decreases-loop-end
decreases-loop-end g l = l.end
