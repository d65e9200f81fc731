use Rattle.std.proofs.Common.{◌≡◌}
use Rattle.ciborium_value.specs.{Counts.node_count, Given.number_of, TreeAnswers.value_item, View.tree_of}
use Rattle.ciborium_value.proofs.deserialized.parts.find_number.Given as goal

abbrev pub invariant-tags : goal.invariant-tags
invariant-tags l = number_of (value_item l.inner) ≡ number_of (value_item l.value)

abbrev pub decreases-tags : goal.decreases-tags
decreases-tags l = node_count (tree_of l.inner)
