use Rattle.ciborium.proofs.ReadBack.EqualContents.{are_refused_alike, leave_same_bytes, write_same_bytes}
use Rattle.ciborium.proofs.laws.equal_contents_equal_bytes.Goals as goal

pub returns : goal.returns
returns g c =
    let alike = g.met.T.WritesContent.writes_content in
    record {
      bytes = write_same_bytes g.T.Serialize.written g.T.Deserialize.reading.content alike;
      left = leave_same_bytes g.T.Serialize.written g.T.Deserialize.reading.content alike;
      refused = are_refused_alike g.T.Serialize.written g.T.Deserialize.reading.content alike;
    }
