use Rattle.std.proofs.Common.{ap, rules, sym, ◌∙◌, ◌≡◌, []}
use Rattle.ciborium.specs.ValueLists.{trees_of}
use Rattle.ciborium_uses.{proofs.CriticalLabels.crit_of, specs.Envelopes.{are_critical, entry_trees}}
use Rattle.ciborium_uses.proofs.envelopes.headers.check_named.Goals as goal

pub returns : goal.returns
returns c =
    let some : ¬ (c.in-Some.labels.now.items ≡ []) = search rules in
    c.check_labels.ensures
    ∙ ap (λ vs. are_critical (entry_trees c.args.header.now.by_label) (trees_of vs)) c.deref.ensures.value
    ∙ sym (crit_of (entry_trees c.args.header.now.by_label) _ c.in-Some.labels.now.items c.in-Some.ensures.tree some)
