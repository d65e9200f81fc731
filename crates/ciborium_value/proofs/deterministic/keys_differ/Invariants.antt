use Rattle.std.proofs.Common.{◌↔◌, length}
use Rattle.ciborium_value.specs.{Deterministic.keys_of, ValueLists.tree_pairs_of, inner.OwnForms.AreApart}
use Rattle.ciborium_value.proofs.deterministic.keys_differ.Given as goal

-- the keys of the pairs that are left differ just where all do
abbrev pub invariant-loop-rest : goal.invariant-loop-rest
invariant-loop-rest l = AreApart (keys_of (tree_pairs_of l.rest)) ↔ AreApart (keys_of (tree_pairs_of l.pairs))

abbrev pub decreases-loop-rest : goal.decreases-loop-rest
decreases-loop-rest l = length l.rest
