use Rattle.std.proofs.Common.{None, ap, sym, ◌∙◌}
use Rattle.ciborium_value.{proofs.Sources.SkippedItems.other-place, specs.{Given.gives, TreeAnswers.value_item}}
use Rattle.ciborium_value.proofs.deserialized.parts.find_place.Goals as goal

pub returns-in-Other-clause-ok : goal.returns-in-Other-clause-ok
returns-in-Other-clause-ok g c = other-place (g.N.Labels.place_of c.args.labels.now) None (value_item c.args.value.now)
    (sym c.find_label_type.ensures ∙ c.in-Other.is) tt ∙ ap gives (sym c.find_other.ensures)
