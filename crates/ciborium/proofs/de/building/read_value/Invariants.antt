use Rattle.std.proofs.Common.{ℕ, ◌≤◌, List, Some, length}
use Rattle.ciborium_ll.specs.Decoding.{HasSameReader, TakesBeforeAny}
use Rattle.ciborium_value.specs.inner.Stack.{frames_of}
use Rattle.ciborium.specs.{inner.Turns.IsReading, inner.ValuesInBytes.{StandsAt, heads_left}}
use Rattle.ciborium.proofs.de.building.read_value.Given as goal

-- reading has come so far
abbrev pub invariant-turns : goal.invariant-turns
invariant-turns g l = record {
  same : HasSameReader l.initial.decoder l.decoder;
  depth : length (frames_of l.stack) ≤ l.levels;
  fewer : heads_left l.decoder ≤ heads_left l.initial.decoder;
  reading : TakesBeforeAny g.A.Access.remaining l.initial.decoder l.decoder
      (λ d e. (xs : List ℕ) (p : ℕ) → StandsAt g.S.Rules.spelling Some d xs p →
      IsReading g.S.Rules.spelling Some e (frames_of l.stack) l.levels xs p);
}

abbrev pub decreases-turns : goal.decreases-turns
decreases-turns g l = heads_left l.decoder
