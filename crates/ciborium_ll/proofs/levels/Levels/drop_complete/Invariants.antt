use Rattle.std.proofs.Common.{◌≡◌, ◌-◌, length}
use Rattle.ciborium_ll.specs.{Levels.incomplete, inner.KeptLevels.levels_in}
use Rattle.ciborium_ll.proofs.levels.Levels.drop_complete.Given as goal

-- what was dropped was complete
abbrev pub invariant-loop-self : goal.invariant-loop-self
invariant-loop-self l = record {
  same : incomplete (levels_in l.self) ≡ incomplete (levels_in l.fn.self);
}

abbrev pub decreases-loop-self : goal.decreases-loop-self
decreases-loop-self l = length l.self.kept - l.self.free
