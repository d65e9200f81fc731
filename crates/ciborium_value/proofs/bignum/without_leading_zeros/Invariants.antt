use Rattle.std.proofs.Common.{◌≡◌, length}
use Rattle.ciborium_value.specs.Meaning.{without_zeros}
use Rattle.ciborium_value.proofs.bignum.without_leading_zeros.Given as goal

abbrev pub invariant-loop-rest : goal.invariant-loop-rest
invariant-loop-rest l = without_zeros l.rest ≡ without_zeros l.bytes

abbrev pub decreases-loop-rest : goal.decreases-loop-rest
decreases-loop-rest l = length l.rest
