use Rattle.ciborium_ll.proofs.UniqueSpelling.{none_begins_another, one_item, one_at_front}
use Rattle.ciborium_ll.proofs.spelling_laws.unique_spelling.Goals as goal

pub returns : goal.returns
returns c = record { prefix_free = none_begins_another; one_item = one_item; at_front = one_at_front }
