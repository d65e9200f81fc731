-- What reading refuses is refused, and another encoding.
use Rattle.std.proofs.Common.{MatchOption, inr, subst}
use Rattle.ciborium_value.specs.Encoding.{encoding}
use Rattle.ciborium.specs.{DeterministicWrites.{HasForm, named_form}, LoadedAnswers.{AreFormOf, DifferAt, RefusesOther}}
use Rattle.ciborium.proofs.Readers.Loading.{loads-refused}
use Rattle.ciborium.proofs.de.loading.from_slice_deterministic.Goals as goal

pub returns-in_err-value : goal.returns-in_err-value
returns-in_err-value g c = loads-refused c.args.order c.args.limit g.T.Deserialize.reading g.T.Serialize.written
    c.args.bytes.now c.in_err-value.field-0.0 c.from_residual.result c.from_residual.ensures.1 c.in_err-value.ensures

pub returns-in-Ok-Some : goal.returns-in-Ok-Some
returns-in-Ok-Some g c =
    let named = g.T.Serialize.written c.in_ok-value.value in
    let found = subst (λ m. MatchOption m (AreFormOf c.args.order c.args.bytes.now named)
    (λ k. HasForm (named_form c.args.order named) (λ t. DifferAt c.args.bytes.now (encoding t) k)))
    c.in-Ok-Some.field-0-is c.in-Ok-Some.ensures.ok in
    record {
      ok = tt;
      refused = inr (
        c.in_ok-value.value,
        c.in_ok-value.ensures,
        RefusesOther.other found.0 c.in-Ok-Some.at found.1 found.2 c.refuse_other.ensures,
      );
    }
