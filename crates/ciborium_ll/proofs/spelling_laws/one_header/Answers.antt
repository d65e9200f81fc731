use Rattle.ciborium_ll.proofs.OneHeader.{one_header, one_header_at_front}
use Rattle.ciborium_ll.proofs.spelling_laws.one_header.Goals as goal

pub returns : goal.returns
returns c = record { one = one_header; at_front = one_header_at_front }
