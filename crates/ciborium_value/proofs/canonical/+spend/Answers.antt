use Rattle.std.proofs.Common.{length, add-one, ap, sym, ◌∙◌, arith}
use Rattle.ciborium_value.specs.inner.EncodedLists.{encodings, pair_encodings}
use Rattle.ciborium_value.proofs.Orders.Rooms.{exhausted, spends_content, spends_head, spends_nothing}
use Rattle.ciborium_value.proofs.Orders.Encodings.{encodings-next-length, pair_encodings-next-length}
use Rattle.ciborium_value.proofs.Orders.TreeEncodings.{content_bytes-none, content_bytes-Bytes, content_bytes-Text}
use Rattle.ciborium_value.proofs.Orders.TreeEncodings.{content_bytes-Tag, content_bytes-Array, content_bytes-Map}
use Rattle.ciborium_value.proofs.Orders.Encodings.{encodings-more-length, pair_encodings-more-length}
use Rattle.ciborium_value.proofs.Trees.Elements.{at}
use Rattle.ciborium_value.proofs.canonical.+spend.Goals as goal

pub spend-returns-in_err-room : goal.spend-returns-in_err-room
spend-returns-in_err-room t c = spends_nothing _ _ _ _ _ c.head_of.ensures.major c.head_of.ensures.argument
    (c.head_size.ensures c.head_of.result.major) _ c.from_residual.ensures c.in_err-room.ensures

pub spend-returns-in-Bytes : goal.spend-returns-in-Bytes
spend-returns-in-Bytes t c = spends_content _ _ _ _ _ c.head_of.ensures.major c.head_of.ensures.argument
    (c.head_size.ensures c.head_of.result.major) _ _ _
    (ap length (content_bytes-Bytes _ _ _ c.in-Bytes.is c.deref.ensures.value) ∙ sym c.payload_size.ensures.size)
    c.in_ok-room.ensures c.checked_sub-in-Bytes.ensures

pub spend-returns-in-Text : goal.spend-returns-in-Text
spend-returns-in-Text t c = spends_content _ _ _ _ _ c.head_of.ensures.major c.head_of.ensures.argument
    (c.head_size.ensures c.head_of.result.major) _ _ _
    (ap length (content_bytes-Text _ _ _ c.in-Text.is c.as_bytes.ensures.value) ∙
    sym c.payload_size-in-Text.ensures.size) c.in_ok-room.ensures c.checked_sub-in-Text.ensures

pub spend-returns-in-Tag : goal.spend-returns-in-Tag
spend-returns-in-Tag t c = spends_content _ _ _ _ _ c.head_of.ensures.major c.head_of.ensures.argument
    (c.head_size.ensures c.head_of.result.major) _ _ _
    (ap length (content_bytes-Tag _ _ _ _ c.in-Tag.is c.deref-in-Tag.ensures)) c.in_ok-room.ensures c.spend.ensures

pub spend-returns-in-Array : goal.spend-returns-in-Array
spend-returns-in-Array t c = spends_content _ _ _ _ _ c.head_of.ensures.major c.head_of.ensures.argument
    (c.head_size.ensures c.head_of.result.major) _ _ _
    (ap length (content_bytes-Array _ _ c.in-Array.is)) c.in_ok-room.ensures c.spend_items.ensures

pub spend-returns-in-Map : goal.spend-returns-in-Map
spend-returns-in-Map t c = spends_content _ _ _ _ _ c.head_of.ensures.major c.head_of.ensures.argument
    (c.head_size.ensures c.head_of.result.major) _ _ _
    (ap length (content_bytes-Map _ _ c.in-Map.is)) c.in_ok-room.ensures c.spend_pairs.ensures

pub spend-returns-in-Integer-2 : goal.spend-returns-in-Integer-2
spend-returns-in-Integer-2 t c = spends_head _ _ _ _ _ c.head_of.ensures.major c.head_of.ensures.argument
    (c.head_size.ensures c.head_of.result.major) _ (content_bytes-none _ c.in-Integer.is) c.in_ok-room.ensures

pub spend-returns-in-Integer-3 : goal.spend-returns-in-Integer-3
spend-returns-in-Integer-3 t c = spends_head _ _ _ _ _ c.head_of.ensures.major c.head_of.ensures.argument
    (c.head_size.ensures c.head_of.result.major) _ (content_bytes-none _ c.in-Integer.is) c.in_ok-room.ensures

pub spend_items-returns-in_err-left : goal.spend_items-returns-in_err-left
spend_items-returns-in_err-left t c =
    let next = encodings-next-length (at c.loop-item-test.true c.item-item.is) in
    let whole = ap (λ l. length (encodings l)) c.deref-item-items.ensures.value in
    exhausted _ _ _ c.from_residual.ensures
    (λ all. c.in_err-left.ensures (omega (arith, next, whole, all, c.loop-item.invariant)))

pub spend_items-loop-item-preserved : goal.spend_items-loop-item-preserved
spend_items-loop-item-preserved t c =
    let more = encodings-more-length (at c.loop-item-test.true c.item-item.is) in
    let fits = c.in_ok-left.ensures.0 in
    let left = c.in_ok-left.ensures.1 in
    rw add-one (omega (arith, more, fits, left, c.loop-item.invariant))

pub spend_pairs-returns-in_err-left : goal.spend_pairs-returns-in_err-left
spend_pairs-returns-in_err-left t c =
    let next = pair_encodings-next-length (at c.loop-pair-test.true c.pair-item.is) in
    let whole = ap (λ l. length (pair_encodings l)) c.deref-pair-items.ensures.value in
    exhausted _ _ _ c.from_residual.ensures
    (λ all. c.in_err-left.ensures (omega (arith, next, whole, all, c.loop-pair.invariant)))

pub spend_pairs-returns-in_err-left-2 : goal.spend_pairs-returns-in_err-left-2
spend_pairs-returns-in_err-left-2 t c =
    let next = pair_encodings-next-length (at c.loop-pair-test.true c.pair-item.is) in
    let whole = ap (λ l. length (pair_encodings l)) c.deref-pair-items.ensures.value in
    let fits = c.in_ok-left.ensures.0 in
    let left = c.in_ok-left.ensures.1 in
    exhausted _ _ _ c.from_residual-in_err-left-2.ensures
    (λ all. c.in_err-left-2.ensures (omega (arith, next, whole, all, fits, left, c.loop-pair.invariant)))

pub spend_pairs-loop-pair-preserved : goal.spend_pairs-loop-pair-preserved
spend_pairs-loop-pair-preserved t c =
    let more = pair_encodings-more-length (at c.loop-pair-test.true c.pair-item.is) in
    let fits = c.in_ok-left.ensures.0 in
    let left = c.in_ok-left.ensures.1 in
    let both_fit = c.in_ok-left-2.ensures.0 in
    let both_left = c.in_ok-left-2.ensures.1 in
    rw add-one (omega (arith, more, fits, left, both_fit, both_left, c.loop-pair.invariant))
