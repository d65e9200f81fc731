use Rattle.std.proofs.Common.{◌≡◌, length}
use Rattle.ciborium_ll.specs.Levels.{incomplete}
use Rattle.ciborium.specs.inner.PassedOver.{levels_in}
use Rattle.ciborium.proofs.de.byte_source.skipping.Unfinished.drop_complete.Given as goal

abbrev pub invariant-loop-self : goal.invariant-loop-self
invariant-loop-self l = incomplete (levels_in l.self) ≡ incomplete (levels_in l.fn.self)

abbrev pub decreases-loop-self : goal.decreases-loop-self
decreases-loop-self l = length (levels_in l.self)
