use Rattle.std.proofs.Common.{◌≡◌, drop}
use Rattle.ciborium.specs.ValueLists.{tree_pairs_of}
use Rattle.ciborium_uses.specs.Envelopes.{are_labels}
use Rattle.ciborium_uses.proofs.envelopes.labels.are_labels.Given as goal

-- the keys so far are labels, so the rest decides
abbrev pub invariant-loop-key : goal.invariant-loop-key
invariant-loop-key l = are_labels (tree_pairs_of l.pairs) ≡ are_labels (tree_pairs_of (drop l.key-index l.pairs))
