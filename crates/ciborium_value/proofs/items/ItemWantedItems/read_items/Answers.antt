-- A part is read, and then those after it.
use Rattle.ciborium_value.proofs.Sources.Sequences.{parts_taken}
use Rattle.ciborium_value.proofs.items.ItemWantedItems.read_items.Goals as goal

pub returns-clause-took : goal.returns-clause-took
returns-clause-took g c = parts_taken g.S.Source.is_unread g.S.Source.owes
    (rw c.if-not-branch.false at c.in_ok-next.ensures.took) c.in_ok-item.ensures.takes.took c.in_ok-behind.ensures.took
