use Rattle.std.proofs.Common.{ap}
use Rattle.ciborium_value.specs.Given.{settled}
use Rattle.ciborium.proofs.Payloads.LoneCharacters.{more-characters, one-character}
use Rattle.ciborium.proofs.de.byte_source.characters.only_character.Goals as goal

pub returns-in-Some-next-clause-refused : goal.returns-in-Some-next-clause-refused
returns-in-Some-next-clause-refused c left end u =
    ap settled (more-characters c.args.payload.now c.next.new.self.rest.now c.next-in-Some.new.self.rest.now
    c.in-Some.first
    c.in-Some-next.field-0 u (let a = c.chars-characters.ensures.rest in let b = c.in-Ok.ensures.cases.0 in let d =
    c.in-Some.ensures.steps in cc) c.in-Some-next.ensures.steps.0)

pub returns-in-None-next-clause-ok : goal.returns-in-None-next-clause-ok
returns-in-None-next-clause-ok c =
    one-character c.args.payload.now c.next.new.self.rest.now c.in-Some.first c.in-Ok.ensures.cases.1
    (let a = c.chars-characters.ensures.rest in let b = c.in-Ok.ensures.cases.0 in let d =
    c.in-Some.ensures.steps in cc) c.in-None-next.ensures.steps.0.0
