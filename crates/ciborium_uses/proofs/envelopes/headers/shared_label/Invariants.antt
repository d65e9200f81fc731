use Rattle.std.proofs.Common.{◌≡◌, map}
use Rattle.ciborium.specs.ValueLists.{pair_trees}
use Rattle.ciborium_uses.specs.Envelopes.{are_apart, entry_trees}
use Rattle.ciborium_uses.proofs.envelopes.headers.shared_label.Given as goal

-- the labels so far stand in one header alone, so the rest decides
abbrev pub invariant-loop-label : goal.invariant-loop-label
invariant-loop-label l =
    (goal.iterator-loop-label).can_next l.label-iterator × (goal.iterator-loop-label).is_finite l.label-iterator ×
    (are_apart (entry_trees l.header.by_label) (entry_trees l.unprotected.by_label)
    ≡ are_apart (map pair_trees l.label-iterator) (entry_trees l.unprotected.by_label))
