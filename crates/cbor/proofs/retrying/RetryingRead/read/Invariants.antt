use Rattle.std.specs.Io.KnownBytes.{Keeps}
use Rattle.cbor.proofs.retrying.RetryingRead.read.Given as goal

-- a read that was interrupted took nothing
abbrev pub invariant-loop : goal.invariant-loop
invariant-loop g l = Keeps (g.R.Read.remaining l.initial.self.device) (g.R.Read.remaining l.self.device)
