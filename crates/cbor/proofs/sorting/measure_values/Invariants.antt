use Rattle.std.proofs.Common.{◌≡◌}
use Rattle.cbor.proofs.sorting.measure_values.Given as goal

-- the values so far are measured
abbrev pub invariant-loop-value : goal.invariant-loop-value
invariant-loop-value l = l.measured.items ≡ l.yielded
