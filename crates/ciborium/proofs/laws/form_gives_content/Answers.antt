use Rattle.ciborium.proofs.ReadBack.FormRoundTrips.{form_gives_content}
use Rattle.ciborium.proofs.laws.form_gives_content.Goals as goal

pub returns : goal.returns
returns g c = form_gives_content g.T.ReadsBack.is_valid g.T.Serialize.written g.T.Deserialize.reading
    g.T.ReadsBack.levels g.met.T.FormReadsBack.form_reads_back c.args.order c.args.limit _ _ _ _
