use Rattle.std.proofs.{Common.{arith, rules}, lemmas.Grind.common_steps}
use Rattle.ciborium_value.specs.declared.tree.Value.{the_lemmas}
use borrow.Author.Tests.{tests}
use Rattle.ciborium_value.proofs.stack.fill_array.Goals as goal

pub returns-in-Some-eq0 : goal.returns-in-Some-eq0
returns-in-Some-eq0 c = search (rules, the_lemmas, tests, common_steps)

pub returns-in-Some : goal.returns-in-Some
returns-in-Some c = grind (arith, common_steps)

pub returns-in-None : goal.returns-in-None
returns-in-None c = grind (arith, common_steps)
