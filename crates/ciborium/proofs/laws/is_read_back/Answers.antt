use Rattle.ciborium.proofs.ReadBack.RoundTrips.{content_read_back}
use Rattle.ciborium.proofs.laws.is_read_back.Goals as goal

pub returns : goal.returns
returns g c = content_read_back g.T.ReadsBack.is_valid g.T.Serialize.written g.T.Deserialize.reading
    g.T.ReadsBack.levels g.met.T.ReadsBack.reads_back c.args.limit _ _ _ _
