use Rattle.ciborium.proofs.Containers.ByteItems.{takes-one}
use Rattle.ciborium.proofs.de.byte_source.source.ByteSourceSource.skip.Goals as goal

pub returns : goal.returns
returns g c = record { takes = takes-one _ _ c.skip.result c.skip.ensures.keeps c.skip.ensures.answer }
