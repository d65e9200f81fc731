use Rattle.ciborium.proofs.ReadBack.FormRoundTrips.{form_read_back}
use Rattle.ciborium.proofs.laws.is_form_read_back.Goals as goal

pub returns : goal.returns
returns g c = form_read_back c.args.order (g.T.Serialize.written c.args.value.now) c.args.limit _ _ _
