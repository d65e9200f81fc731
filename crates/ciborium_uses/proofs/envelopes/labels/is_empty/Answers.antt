use Rattle.std.proofs.Common.{◌∙◌, ◌==◌, ap}
use Rattle.ciborium.specs.View.{tree_of}
use Rattle.ciborium_value.proofs.Trees.Views.{tree_of-Map}
use Rattle.ciborium_uses.proofs.KeptLabels.{empty-by}
use Rattle.ciborium_uses.proofs.envelopes.labels.is_empty.Goals as goal

pub returns-in-Map : goal.returns-in-Map
returns-in-Map c = empty-by (tree_of c.args.map.now) c.in-Map.pairs.items c.is_empty.result
    (ap tree_of c.in-Map.is ∙ tree_of-Map c.in-Map.pairs) (c.is_empty.ensures ∙ ap (λ n. n == 0) c.in-Map.pairs.ok.0)
