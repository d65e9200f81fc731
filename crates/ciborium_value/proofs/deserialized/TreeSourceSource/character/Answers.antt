use Rattle.ciborium_value.{proofs.Sources.TreeCalls.taken-there, specs.Given.given_character}
use Rattle.ciborium_value.proofs.deserialized.TreeSourceSource.character.Goals as goal

pub returns-in-Whole-clause-takes : goal.returns-in-Whole-clause-takes
returns-in-Whole-clause-takes c = taken-there given_character (λ v. v) c.args.self.now c.take.new.self
    c.take.ensures.next c.take.ensures.due c.in-Whole.value c.in-Whole.ensures.ahead c.find_character.result
    c.find_character.ensures.ok c.find_character.ensures.refused
