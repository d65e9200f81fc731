use Rattle.std.proofs.Common.{◌∙◌}
use Rattle.ciborium_value.specs.Given.{given_skip}
use Rattle.ciborium_value.proofs.{Sources.SkippedItems.skip-gives, Sources.TreeCalls.{given-there, some-weight}}
use Rattle.ciborium_value.proofs.deserialized.TreeSourceSource.skip.Goals as goal

pub returns-in_default : goal.returns-in_default
returns-in_default c = record {
  takes = given-there given_skip (λ v. v) c.args.self.now c.take.new.self c.take.ensures.next c.take.ensures.due
      (some-weight given_skip (λ v. v) c.args.self.now c.take.new.self c.take.ensures.next c.take.ensures.due
      (λ e. c.in_default.not-Nothing (c.take.ensures.ahead ∙ e))) tt (λ i is. skip-gives _ i tt);
}
