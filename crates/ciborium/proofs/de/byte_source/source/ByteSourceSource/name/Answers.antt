use Rattle.ciborium.proofs.Containers.ByteItems.{takes-one}
use Rattle.ciborium.proofs.de.byte_source.source.ByteSourceSource.name.Goals as goal

pub returns : goal.returns
returns g c = record { takes = takes-one _ _ c.name.result c.name.ensures.keeps c.name.ensures.answer }
