use Rattle.std.proofs.Common.{ap, ◌∙◌, rules}
use Rattle.ciborium_value.{proofs.{Trees.Views.tree_of-Map, Writing.TreeSinkSteps.put_begins}, specs.Places.a_map}
use Rattle.ciborium_value.specs.{Tree.map, ValueLists.tree_pairs_of}
use Rattle.ciborium_value.proofs.serialized.TreeSinkSink.begin_map.Goals as goal

-- a container of nothing is whole at once
pub returns-in-Some-eq0-clause-ok : goal.returns-in-Some-eq0-clause-ok
returns-in-Some-eq0-clause-ok c =
    put_begins c.put.result c.args.self.now c.put.new.self a_map c.args.pairs _ (search rules)
    (tree_of-Map c.new.result ∙ ap (λ l. map (tree_pairs_of l)) c.new.ensures.items) c.put.ensures.ok
