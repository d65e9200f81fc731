use Rattle.std.proofs.Common.{sym, ◌∙◌}
use Rattle.ciborium_value.proofs.Sources.TreeReading.{lone, not_lone}
use Rattle.ciborium_value.proofs.deserialized.parts.lone_character.Goals as goal

pub returns-in-Some-next : goal.returns-in-Some-next
returns-in-Some-next c = not_lone c.args.text.now c.next.new.self.rest.now c.in-Some.first c.in-Some-next.field-0
    c.utf8.text (sym c.chars-characters.ensures.rest ∙ c.in-Some.ensures.steps.0) c.in-Some-next.ensures.steps.2

pub returns-in-None-next : goal.returns-in-None-next
returns-in-None-next c = lone c.args.text.now c.next.new.self.rest.now c.in-Some.first c.utf8.text
    (sym c.chars-characters.ensures.rest ∙ c.in-Some.ensures.steps.0) c.in-None-next.ensures.steps.0.0
