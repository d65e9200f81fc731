use Rattle.ciborium.proofs.ReadBack.EqualContents.{bytes_written_again, tree_written_again}
use Rattle.ciborium.proofs.laws.read_back_is_written_again.Goals as goal

pub returns : goal.returns
returns g c =
    let law = g.met.T.ReadsBack.reads_back in
    let alike = g.met.T.WritesContent.writes_content in
    record {
      bytes = bytes_written_again g.T.ReadsBack.is_valid g.T.Serialize.written g.T.Deserialize.reading
          g.T.ReadsBack.levels law alike;
      tree = tree_written_again g.T.ReadsBack.is_valid g.T.Serialize.written g.T.Deserialize.reading
          g.T.ReadsBack.levels law alike;
    }
