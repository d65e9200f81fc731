use Rattle.std.{proofs.{Common.{ap, ◌∙◌}, lemmas.Result.IfOk-from_err}, specs.String.string_bytes}
use Rattle.ciborium_value.specs.Labels.{name_place}
use Rattle.ciborium.{proofs.Exits.passed_on}
use Rattle.ciborium.proofs.de.byte_source.ByteSource.text_place.Goals as goal

pub returns-clause-ok : goal.returns-clause-ok
returns-clause-ok g c = (
  string_bytes c.in_ok-name.name,
  c.in_ok-name.ensures.ok,
  c.find_name.ensures ∙ ap (name_place (g.N.Labels.place_of c.args.names.now)) c.deref.ensures,
)

pub returns-in_err-name-clause-ok : goal.returns-in_err-name-clause-ok
returns-in_err-name-clause-ok g c = IfOk-from_err c.from_residual.result _ c.from_residual.ensures.0

pub returns-in_err-name-clause-denied : goal.returns-in_err-name-clause-denied
returns-in_err-name-clause-denied g c =
    rw (passed_on c.from_residual.result _ c.from_residual.ensures.1) c.in_err-name.ensures.denied

pub returns-in-Some-clause-ok : goal.returns-in-Some-clause-ok
returns-in-Some-clause-ok g c = rw c.in-Some.ensures.0 c.short_place.ensures.ok

pub returns-in-Some-clause-denied : goal.returns-in-Some-clause-denied
returns-in-Some-clause-denied g c = rw c.in-Some.ensures.0 c.short_place.ensures.denied
