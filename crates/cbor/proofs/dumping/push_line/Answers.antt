use Rattle.ciborium_value.proofs.Trees.Notations.{encode_lower-append}
use Rattle.cbor.proofs.DumpedHeads.{line-joined}
use Rattle.cbor.proofs.dumping.push_line.Goals as goal

pub returns : goal.returns
returns c = line-joined c.extend_from_slice-2.result _ _ _ _ _ _ _ _ _ _ _ _ _ _ _ _
    (encode_lower-append c.args.head.now.bytes.now c.args.head.now.payload.now)
    c.in_ok-push_place.ensures c.in_ok-push_digits.ensures c.in_ok-push_digits-2.ensures
    c.in_ok-extend_from_slice.ensures.items c.in_ok-push_words.ensures c.in_ok-push_payload.ensures
    c.extend_from_slice-2.ensures.items
