use Rattle.std.proofs.Common.{◌≡◌, drop}
use Rattle.ciborium.specs.ValueLists.{trees_of}
use Rattle.ciborium_uses.specs.Envelopes.{are_critical, entry_trees}
use Rattle.ciborium_uses.proofs.envelopes.headers.check_labels.Given as goal

-- the labels so far are understood, so the rest decides
abbrev pub invariant-loop-label : goal.invariant-loop-label
invariant-loop-label l = are_critical (entry_trees l.header.by_label)
    (trees_of l.labels) ≡ are_critical (entry_trees l.header.by_label) (trees_of (drop l.label-index l.labels))
