-- The bytes begin at offset 0.
use Rattle.std.specs.declared.io.Error.{Error}
use Rattle.ciborium.proofs.Readers.NextReaders.{reads-from-start}
use Rattle.ciborium.proofs.de.read_next.Goals as goal

pub returns : goal.returns
returns g c = reads-from-start Error g.A.Access.can_fail c.args.limit g.T.Deserialize.reading _ _ c.read_next_at.result
    c.read_next_at.ensures.next
