use Rattle.std.proofs.Common.{subst}
use Rattle.ciborium.specs.View.{tree_of}
use Rattle.ciborium_uses.{proofs.{Exits.{exit_by, refused_by}, KeptLabels.one-map}, specs.Envelopes.AreClaims}
use Rattle.ciborium_uses.proofs.envelopes.claims.read_claims.Goals as goal

pub returns-in_err-labels-clause-refused : goal.returns-in_err-labels-clause-refused
returns-in_err-labels-clause-refused c =
    exit_by _ c.from_residual.result c.from_residual.ensures.1 (λ v h. c.in_err-labels.ensures.refused h.map h.labels)

pub returns-clause-refused : goal.returns-clause-refused
returns-clause-refused c = refused_by c.claims_of.result c.claims_of.ensures.refused (λ e refused v h.
    let same = one-map c.args.payload.now h.map (tree_of c.in_ok-labels.labels.map) h.labels
    c.in_ok-labels.ensures.ok in
    refused v (subst (λ m. AreClaims m v) same h.claims_at))
