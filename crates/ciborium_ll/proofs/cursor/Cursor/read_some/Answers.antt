use Rattle.std.proofs.Common.{arith}
use Rattle.ciborium_ll.proofs.Cursors.{some-read}
use Rattle.ciborium_ll.proofs.cursor.Cursor.read_some.Goals as goal

pub returns-in-Ok-clause-some : goal.returns-in-Ok-clause-some
returns-in-Ok-clause-some g c = some-read _ _ _ c.in-Ok.n c.read.new.buffer c.in-Ok.ensures.bound.0
    c.in-Ok.ensures.bytes c.type_inv.buffer (omega (arith, c.read.auto.buffer, c.requires.some))
