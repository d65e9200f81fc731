use Rattle.ciborium_value.{proofs.Sources.TreeCalls.taken-there, specs.Labels.label_place}
use Rattle.ciborium_value.proofs.deserialized.TreeSourceSource.label.Goals as goal

pub returns-in-Whole : goal.returns-in-Whole
returns-in-Whole g c = record {
  takes = taken-there (label_place (g.N.Labels.place_of c.args.labels.now)) (λ v. v) c.args.self.now c.take.new.self
      c.take.ensures.next c.take.ensures.due c.in-Whole.value c.in-Whole.ensures.ahead c.find_place.result
      c.find_place.ensures.ok c.find_place.ensures.refused;
}
