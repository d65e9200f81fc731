use Rattle.ciborium_uses.proofs.{Exits.exit_by, WholeMessages.one-envelope}
use Rattle.ciborium_uses.specs.declared.envelopes.wrapping.Wrapping.TheVariants.{Signed}
use Rattle.ciborium_uses.proofs.envelopes.read_envelope.Goals as goal

pub returns-in_err-wrapping-clause-refused : goal.returns-in_err-wrapping-clause-refused
returns-in_err-wrapping-clause-refused c =
    exit_by _ c.from_residual.result c.from_residual.ensures.1 (λ v h. c.in_err-wrapping.ensures.refused Signed v h)

pub returns-in_default-clause-refused : goal.returns-in_default-clause-refused
returns-in_default-clause-refused c v h = c.in_default.not-Signed (one-envelope c.args.bytes.now
    c.in_ok-wrapping.wrapping Signed c.in_ok-wrapping.envelope v c.in_ok-wrapping.ensures.ok h).0
