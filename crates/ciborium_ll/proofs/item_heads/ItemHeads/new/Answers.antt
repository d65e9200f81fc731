use Rattle.std.proofs.Common.{refl}
use Rattle.ciborium_ll.proofs.HeadsRead.{begun}
use Rattle.ciborium_ll.proofs.item_heads.ItemHeads.new.Goals as goal

pub returns-clause-begins : goal.returns-clause-begins
returns-clause-begins c = begun _ refl c.new.ensures
