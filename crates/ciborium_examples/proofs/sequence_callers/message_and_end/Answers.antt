use Rattle.ciborium_ll.proofs.Unread.{rest-of}
use Rattle.ciborium_examples.proofs.sequence_callers.message_and_end.Goals as goal

-- what was taken of known bytes
pub returns : goal.returns
returns g c b known =
    let (s, consumes, size) = rw c.in-Some.is at c.in_ok-next.ensures.moved in
    let (left, after, split) = rest-of _ _ b s known consumes in
    (s, left, split, size, after)
