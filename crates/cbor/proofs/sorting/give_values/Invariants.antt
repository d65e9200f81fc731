use Rattle.std.proofs.Common.{◌≡◌}
use Rattle.cbor.proofs.sorting.give_values.Given as goal

-- the values so far are given
abbrev pub invariant-loop-value : goal.invariant-loop-value
invariant-loop-value l = l.values.items ≡ l.yielded
