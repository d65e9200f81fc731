use Rattle.ciborium_ll.proofs.ShortestHead.{shortest_is_head, none_is_shorter, no_other_is_as_short}
use Rattle.ciborium_ll.proofs.spelling_laws.shortest_head.Goals as goal

pub returns : goal.returns
returns c = record { is_head = shortest_is_head; none_shorter = none_is_shorter; no_other = no_other_is_as_short }
