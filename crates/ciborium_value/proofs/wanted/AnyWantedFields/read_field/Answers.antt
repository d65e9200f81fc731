use Rattle.std.proofs.lemmas.Result.{on_ok_weaker}
use Rattle.ciborium_value.proofs.wanted.AnyWantedFields.read_field.Goals as goal

pub returns-clause-ok : goal.returns-clause-ok
returns-clause-ok g c = on_ok_weaker c.read_other.result (λ h name at. h name) c.read_other.ensures.ok
