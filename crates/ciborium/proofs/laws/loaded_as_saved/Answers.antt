use Rattle.ciborium.proofs.ReadBack.Loaded as loaded
use Rattle.ciborium.proofs.laws.loaded_as_saved.Goals as goal

pub returns : goal.returns
returns g c =
    let law = loaded.loaded_as_saved g.T.ReadsBack.is_valid g.T.Serialize.written g.T.Deserialize.reading
    g.T.ReadsBack.levels g.met.T.ReadsBack.reads_back in record {
      loaded = law;
      loading_gives = loaded.loading_gives_content g.T.ReadsBack.is_valid g.T.Serialize.written g.T.Deserialize.reading
          law;
    }
