use Rattle.std.proofs.Common.{◌≡◌, ◌≤◌}
use Rattle.ciborium_value.specs.{Counts.node_count, Given.untagged, inner.TreeSources.value_weight}
use Rattle.ciborium_value.specs.{TreeAnswers.value_item, View.tree_of}
use Rattle.ciborium_value.proofs.deserialized.parts.skip_tags.Given as goal

abbrev pub invariant-loop-bare : goal.invariant-loop-bare
invariant-loop-bare l = record {
  item : untagged (value_item l.bare) ≡ untagged (value_item l.value);
  less : value_weight l.bare ≤ value_weight l.value;
}

abbrev pub decreases-loop-bare : goal.decreases-loop-bare
decreases-loop-bare l = node_count (tree_of l.bare)
