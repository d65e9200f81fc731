use Rattle.ciborium.proofs.ReadBack.LoadedWhole.{saved_is_loaded}
use Rattle.ciborium.proofs.laws.saved_is_loaded.Goals as goal

pub returns : goal.returns
returns g c = saved_is_loaded g.T.ReadsBack.is_valid g.T.Serialize.written g.T.Deserialize.reading
    g.T.ReadsBack.levels g.met.T.FormReadsBack.form_reads_back g.met.T.WritesContent.writes_content
