use Rattle.std.proofs.Common.{ap, ◌∙◌, rules}
use Rattle.ciborium_value.{proofs.{Trees.Views.tree_of-Array, Writing.TreeSinkSteps.put_begins}, specs.Places.an_array}
use Rattle.ciborium_value.specs.{Tree.array, ValueLists.trees_of}
use Rattle.ciborium_value.proofs.serialized.TreeSinkSink.begin_array.Goals as goal

-- a container of nothing is whole at once
pub returns-in-Some-eq0-clause-ok : goal.returns-in-Some-eq0-clause-ok
returns-in-Some-eq0-clause-ok c =
    put_begins c.put.result c.args.self.now c.put.new.self an_array c.args.items _ (search rules)
    (tree_of-Array c.new.result ∙ ap (λ l. array (trees_of l)) c.new.ensures.items) c.put.ensures.ok
