use Rattle.std.proofs.Common.{sym, ◌∙◌}
use Rattle.ciborium.specs.{Derived.value_cmp, Order.tree_cmp, View.tree_of}
use Rattle.ciborium_value.specs.{lemmas.DerivedOrder.value_cmp-is, lemmas.PutEntries.one-has}
use Rattle.ciborium_uses.proofs.envelopes.labels.has_label.Goals as goal

pub returns : goal.returns
returns c = c.contains_key.ensures ∙
    sym (one-has value_cmp tree_cmp tree_of tree_of value_cmp-is c.args.labels.now.by_label.entries c.args.label.now)
