use Rattle.std.proofs.Common.{◌≤◌, ◌∙◌, ap, subst, sym}
use Rattle.ciborium.specs.{Encoding.item_of, Nesting.nesting, View.tree_of}
use Rattle.ciborium_uses.{proofs.{Exits.exit_by, WholeMessages.whole}, specs.Envelopes.{IsMessage, wrapped_tree}}
use Rattle.ciborium_uses.proofs.envelopes.read_wrapped.Goals as goal

pub returns-in_err-value-clause-refused : goal.returns-in_err-value-clause-refused
returns-in_err-value-clause-refused c = exit_by _ c.from_residual.result c.from_residual.ensures.1
    (λ w v h. c.in_err-value.ensures.refused (wrapped_tree w h.tree) h.item)

pub returns-in_err-wrapping-clause-refused : goal.returns-in_err-wrapping-clause-refused
returns-in_err-wrapping-clause-refused c =
    exit_by _ c.from_residual-in_err-wrapping.result c.from_residual-in_err-wrapping.ensures.1 (λ w v h.
    absurd (c.in_err-wrapping.ensures.refused w v.protected.0.items h.message.unprotected_tree v.payload.0.items
    v.signature.0.items (c.in_ok-value.ensures.only (wrapped_tree w h.tree) h.item ∙
    ap (wrapped_tree w) h.message.parts)))

pub returns-in_err-envelope-clause-refused : goal.returns-in_err-envelope-clause-refused
returns-in_err-envelope-clause-refused c =
    exit_by _ c.from_residual-in_err-envelope.result c.from_residual-in_err-envelope.ensures.1 (λ w v h.
    let same = c.in_ok-wrapping.ensures.only w v.protected.0.items h.message.unprotected_tree v.payload.0.items
    v.signature.0.items (c.in_ok-value.ensures.only (wrapped_tree w h.tree) h.item ∙
    ap (wrapped_tree w) h.message.parts) in
    c.in_err-envelope.ensures.refused v (subst (λ t. IsMessage t v) (h.message.parts ∙ sym same.1) h.message))

pub returns-clause-whole : goal.returns-clause-whole
returns-clause-whole c = whole c.in_ok-wrapping.wrapping (tree_of c.in_ok-wrapping.message) c.in_ok-envelope.envelope
    (subst (λ t. nesting (item_of t) ≤ 256) c.in_ok-wrapping.ensures.ok c.in_ok-value.ensures.nests)
    c.in_ok-envelope.ensures.ok
