use Rattle.ciborium.proofs.ReadBack.FormRoundTrips.{alike_read_back, own_read_back}
use Rattle.ciborium.proofs.laws.written_deterministically_is_read_back.Goals as goal

pub returns : goal.returns
returns g c = record {
  alike = alike_read_back g.T.ReadsBack.is_valid g.T.Serialize.written g.T.Deserialize.reading g.T.ReadsBack.levels
      g.met.T.ReadsBack.reads_back c.args.order c.args.limit _ _ _ _;
  own = own_read_back g.T.ReadsBack.is_valid g.T.Serialize.written g.T.Deserialize.reading g.T.ReadsBack.levels
      g.met.T.ReadsBack.reads_back c.args.order c.args.limit _ _ _ _;
}
