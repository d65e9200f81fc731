use Rattle.ciborium_uses.proofs.{Exits.answered_by, WholeMessages.spelled-under}
use Rattle.ciborium_uses.specs.declared.envelopes.wrapping.Wrapping.TheVariants.{Bare, Signed, Token}
use Rattle.ciborium_uses.proofs.envelopes.writing.write_envelope.Goals as goal

pub returns-in-Bare-clause-item : goal.returns-in-Bare-clause-item
returns-in-Bare-clause-item c = answered_by c.to_vec.result c.to_vec.ensures.bytes
    (λ bytes h. spelled-under c.args.wrapping Bare bytes.items _ c.in-Bare.is h)

pub returns-in-Signed-clause-item : goal.returns-in-Signed-clause-item
returns-in-Signed-clause-item c = answered_by c.to_vec-in-Signed.result c.to_vec-in-Signed.ensures.bytes
    (λ bytes h. spelled-under c.args.wrapping Signed bytes.items _ c.in-Signed.is h)

pub returns-in-Token-clause-item : goal.returns-in-Token-clause-item
returns-in-Token-clause-item c = answered_by c.to_vec-in-Token.result c.to_vec-in-Token.ensures.bytes
    (λ bytes h. spelled-under c.args.wrapping Token bytes.items _ c.in-Token.is h)
