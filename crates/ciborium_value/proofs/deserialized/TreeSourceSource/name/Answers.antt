use Rattle.ciborium_value.{proofs.Sources.TreeCalls.taken-there, specs.Given.given_name}
use Rattle.std.proofs.Common.{string_bytes}
use Rattle.ciborium_value.proofs.deserialized.TreeSourceSource.name.Goals as goal

pub returns-in-Whole : goal.returns-in-Whole
returns-in-Whole c = record {
  takes = taken-there given_name string_bytes c.args.self.now c.take.new.self c.take.ensures.next c.take.ensures.due
      c.in-Whole.value c.in-Whole.ensures.ahead c.copy_name.result c.copy_name.ensures.ok c.copy_name.ensures.refused;
}
