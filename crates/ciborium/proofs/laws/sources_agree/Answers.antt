use Rattle.ciborium.proofs.ReadBack.SourcesAgree.{sources_agree}
use Rattle.ciborium.proofs.laws.sources_agree.Goals as goal

pub returns : goal.returns
returns g c = sources_agree g.T.Deserialize.reading.taken
