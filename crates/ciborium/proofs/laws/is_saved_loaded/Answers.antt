use Rattle.ciborium.proofs.ReadBack.LoadedWhole.{saved_loaded}
use Rattle.ciborium.proofs.laws.is_saved_loaded.Goals as goal

pub returns : goal.returns
returns g c = saved_loaded g.T.ReadsBack.is_valid g.T.Serialize.written g.T.Deserialize.reading
    g.T.ReadsBack.levels g.met.T.FormReadsBack.form_reads_back c.args.order c.args.limit _ _ _
