use Rattle.ciborium.proofs.ReadBack.LoadedWhole.{one_encoding}
use Rattle.ciborium.proofs.laws.one_encoding.Goals as goal

pub returns : goal.returns
returns g c = one_encoding g.T.Serialize.written g.T.Deserialize.reading g.met.T.WritesContent.writes_content
