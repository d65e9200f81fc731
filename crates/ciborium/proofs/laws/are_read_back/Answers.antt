use Rattle.std.specs.Prelude.{refl}
use Rattle.ciborium_value.specs.ReadsBack.{by_bytes}
use Rattle.ciborium.proofs.ReadBack.SequenceRoundTrips.{contents_read_back}
use Rattle.ciborium.proofs.laws.are_read_back.Goals as goal

pub returns : goal.returns
returns g c = contents_read_back g.T.ReadsBack.is_valid g.T.Serialize.written g.T.Deserialize.reading
    g.T.ReadsBack.levels (λ v valid i named l fits.
    (g.met.T.ReadsBack.reads_back by_bytes tt v valid).back i named i refl l fits) _ _ _ _
