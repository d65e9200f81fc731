use Rattle.ciborium.proofs.ReadBack.RoundTrips.{bytes_read_back, tree_gives_content, tree_read_back}
use Rattle.ciborium.proofs.laws.written_is_read_back.Goals as goal

pub returns : goal.returns
returns g c =
    let law = g.met.T.ReadsBack.reads_back in
    record {
      bytes = bytes_read_back g.T.ReadsBack.is_valid g.T.Serialize.written g.T.Deserialize.reading g.T.ReadsBack.levels
          law;
      tree = tree_read_back g.T.ReadsBack.is_valid g.T.Serialize.written g.T.Deserialize.reading g.T.ReadsBack.levels
          law;
      tree_gives = tree_gives_content g.T.ReadsBack.is_valid g.T.Serialize.written g.T.Deserialize.reading
          g.T.ReadsBack.levels law;
    }
