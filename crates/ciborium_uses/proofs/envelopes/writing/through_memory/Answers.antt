use Rattle.std.proofs.Common.{subst, sym}
use Rattle.ciborium_uses.specs.Envelopes.{IsWrapped}
use Rattle.ciborium_uses.proofs.{Exits.{answered_by, refused_by}, WholeMessages.{one-envelope, spelled-is-read}}
use Rattle.ciborium_uses.proofs.envelopes.writing.through_memory.Goals as goal

pub returns-clause-again : goal.returns-clause-again
returns-clause-again c h = answered_by c.read_wrapped.result c.read_wrapped.ensures.ok (λ again is.
    one-envelope c.deref.result.now again.0 c.args.wrapping again.1 c.args.envelope.now is
    (subst (λ b. IsWrapped b c.args.wrapping c.args.envelope.now) (sym c.deref.ensures.value)
    (spelled-is-read c.in_ok-bytes.bytes.items c.args.wrapping c.args.envelope.now h c.in_ok-bytes.ensures.item)))

pub returns-clause-refused : goal.returns-clause-refused
returns-clause-refused c h = refused_by c.read_wrapped.result c.read_wrapped.ensures.refused (λ e refused.
    refused c.args.wrapping c.args.envelope.now
    (subst (λ b. IsWrapped b c.args.wrapping c.args.envelope.now) (sym c.deref.ensures.value)
    (spelled-is-read c.in_ok-bytes.bytes.items c.args.wrapping c.args.envelope.now h c.in_ok-bytes.ensures.item)))
