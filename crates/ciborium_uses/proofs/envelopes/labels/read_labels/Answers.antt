use Rattle.std.proofs.Common.{subst, sym}
use Rattle.ciborium_uses.{proofs.Exits.{exit_by, refused_by}, specs.Envelopes.AreLabels}
use Rattle.ciborium_uses.proofs.envelopes.labels.read_labels.Goals as goal

pub returns-in_err-map-clause-refused : goal.returns-in_err-map-clause-refused
returns-in_err-map-clause-refused c =
    exit_by _ c.from_residual.result c.from_residual.ensures.1 (λ m h. c.in_err-map.ensures.refused h.tree h.item)

pub returns-clause-refused : goal.returns-clause-refused
returns-clause-refused c = refused_by c.labels_of.result c.labels_of.ensures.refused
    (λ e refused m h. refused m (subst (λ t. AreLabels t m) (sym (c.in_ok-map.ensures.only h.tree h.item)) h.labels))
