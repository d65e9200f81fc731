use Rattle.std.proofs.Common.{◌≡◌, subst, sym, ◌∙◌}
use Rattle.ciborium.specs.View.{tree_of}
use Rattle.ciborium_uses.proofs.{Exits.exit_by, WholeMessages.same-headers}
use Rattle.ciborium_uses.specs.Envelopes.{AreClaimBytes, IsHeader, message_tree}
use Rattle.ciborium_uses.proofs.envelopes.envelope_of.Goals as goal

pub returns-in_err-check_headers-clause-refused : goal.returns-in_err-check_headers-clause-refused
returns-in_err-check_headers-clause-refused c =
    exit_by _ c.from_residual-in_err-check_headers.result c.from_residual-in_err-check_headers.ensures.1 (λ v h.
    let header = subst (λ bs. IsHeader bs (tree_of c.in_ok-header.header.map)) c.deref.ensures.value
    c.in_ok-header.ensures.ok in
    absurd (c.in_err-check_headers.ensures.refused (same-headers (tree_of c.args.message) _ _ _ _ _ _ v
    c.in-Some.ensures.some c.in_ok-unprotected.ensures.ok header h)))

pub returns-in_err-claims-clause-refused : goal.returns-in_err-claims-clause-refused
returns-in_err-claims-clause-refused c =
    exit_by _ c.from_residual-in_err-claims.result c.from_residual-in_err-claims.ensures.1 (λ v h.
    let parts = c.in-Some.parts in
    let same : message_tree parts.protected.items (tree_of parts.unprotected) parts.payload.items parts.signature.items
    ≡ message_tree v.protected.0.items h.unprotected_tree v.payload.0.items v.signature.0.items =
    sym c.in-Some.ensures.some ∙ h.parts in
    let payload : parts.payload.items ≡ v.payload.0.items = cc in
    c.in_err-claims.ensures.refused v.claims
    (subst (λ bs. AreClaimBytes bs v.claims) (sym (c.deref-2.ensures.value ∙ payload)) h.claims))
