use Rattle.ciborium_value.{proofs.Sources.TreeCalls.taken-there, specs.Given.given_integer}
use Rattle.ciborium_value.proofs.deserialized.TreeSourceSource.integer.Goals as goal

pub returns-in-Whole-clause-takes : goal.returns-in-Whole-clause-takes
returns-in-Whole-clause-takes c = taken-there given_integer (λ v. v) c.args.self.now c.take.new.self c.take.ensures.next
    c.take.ensures.due c.in-Whole.value c.in-Whole.ensures.ahead c.find_number.result c.find_number.ensures.ok
    c.find_number.ensures.refused
