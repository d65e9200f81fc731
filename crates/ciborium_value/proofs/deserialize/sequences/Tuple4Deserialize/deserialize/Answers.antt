use Rattle.ciborium_value.proofs.Sources.Sequences.{made_refused}
use Rattle.ciborium_value.proofs.deserialize.sequences.Tuple4Deserialize.deserialize.Goals as goal

pub returns-in_err-first-clause-takes : goal.returns-in_err-first-clause-takes
returns-in_err-first-clause-takes g c = made_refused _ c.from_residual.result c.in_err-first.field-0.0
    c.from_residual.ensures.1 c.in_err-first.ensures.takes
