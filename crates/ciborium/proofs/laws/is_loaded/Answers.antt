use Rattle.ciborium_value.specs.declared.key_order.KeyOrder.TheVariants.{LengthFirst}
use Rattle.ciborium.proofs.ReadBack.Loaded.{content_loaded}
use Rattle.ciborium.proofs.laws.is_loaded.Goals as goal

pub returns : goal.returns
returns g c = record {
  loaded = content_loaded g.T.ReadsBack.is_valid g.T.Serialize.written g.T.Deserialize.reading g.T.ReadsBack.levels
      g.met.T.ReadsBack.reads_back LengthFirst c.args.limit _ _ _ _ _;
  either = λ o. content_loaded g.T.ReadsBack.is_valid g.T.Serialize.written g.T.Deserialize.reading g.T.ReadsBack.levels
      g.met.T.ReadsBack.reads_back o c.args.limit _ _ _ _ _;
}
