use Rattle.ciborium_value.proofs.GoodItems.Outcome.{good_or_refused, never_both, one_refusal, one_reading}
use Rattle.ciborium_value.proofs.GoodItems.{Accepted.deterministic_reading, RefusedKinds.refusal_kinds}
use Rattle.ciborium_value.proofs.tree_laws.good_or_refused.Goals as goal

pub returns : goal.returns
returns c = record {
  one_of = good_or_refused;
  never_both = never_both;
  one_refusal = one_refusal;
  kinds = refusal_kinds;
  one_reading = one_reading;
  deterministic = deterministic_reading;
}
