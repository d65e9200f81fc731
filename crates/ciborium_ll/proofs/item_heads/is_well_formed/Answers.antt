use Rattle.ciborium_ll.proofs.HeadsRead.{no-other-item, other-length}
use Rattle.ciborium_ll.proofs.item_heads.is_well_formed.Goals as goal

pub returns-in-Ok-clause-no : goal.returns-in-Ok-clause-no
returns-in-Ok-clause-no c f i = absurd (other-length _ _ c.in-Ok.ensures i f)

pub returns-in-Err-clause-no : goal.returns-in-Err-clause-no
returns-in-Err-clause-no c f i = no-other-item _ c.in-Err.field-0 c.in-Err.ensures i
