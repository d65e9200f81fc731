use Rattle.ciborium_value.{proofs.Sources.TreeCalls.taken-there, specs.Given.given_bytes}
use Rattle.ciborium_value.proofs.deserialized.TreeSourceSource.bytes.Goals as goal

pub returns-in-Whole : goal.returns-in-Whole
returns-in-Whole c = record {
  takes = taken-there given_bytes (λ v. v.items) c.args.self.now c.take.new.self c.take.ensures.next c.take.ensures.due
      c.in-Whole.value c.in-Whole.ensures.ahead c.copy_bytes.result c.copy_bytes.ensures.ok
      c.copy_bytes.ensures.refused;
}
