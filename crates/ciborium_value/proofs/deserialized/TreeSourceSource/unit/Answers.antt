use Rattle.std.proofs.Common.{rules}
use Rattle.ciborium_value.specs.declared.tree.Value.{the_lemmas}
use Rattle.ciborium_value.proofs.deserialized.TreeSourceSource.unit.Goals as goal

pub returns-in-Whole-clause-takes : goal.returns-in-Whole-clause-takes
returns-in-Whole-clause-takes c = search (rules, the_lemmas)
