use Rattle.std.proofs.Common.{◌≡◌, ◌+◌, arith}
use Rattle.cbor.proofs.ExactlyStreamed.{all-lines, last-line, no-lines, one-more-line}
use Rattle.cbor.proofs.exact_streams.show_stream.Goals as goal

pub items-init : goal.items-init
items-init g c b w e f = no-lines c.args.place.now b w _ _ e f

pub returns-in-End : goal.returns-in-End
returns-in-End g c b w e f =
    all-lines c.args.place.now b w _ _ _ c.items.number c.items.offset (c.items.invariant b w e f)
    c.in_ok-next_item.ensures.held (λ xs h. rw c.in-End.is at (c.in_ok-next_item.ensures.next xs h))

pub returns-in-NoItem : goal.returns-in-NoItem
returns-in-NoItem g c b w e f =
    last-line c.args.place.now b w _ _ _ c.items.number c.items.offset (c.items.invariant b w e f)
    c.in_ok-next_item.ensures.held _ c.in-NoItem.reason
    (λ xs h. rw c.in-NoItem.is at (c.in_ok-next_item.ensures.next xs h)) c.in_ok-show_reason-in-NoItem.ensures

pub items-preserved : goal.items-preserved
items-preserved g c b w e f =
    let moved : c.in_ok-offset-in-Item.offset ≡ c.items.offset + c.in-Item.size = grind arith in
    one-more-line c.args.place.now b w _ _ _ c.items.number c.items.offset (c.items.invariant b w e f)
    c.in_ok-next_item.ensures.held _ _ c.in-Item.size _ _ moved
    (λ xs h. rw c.in-Item.is at (c.in_ok-next_item.ensures.next xs h)) c.in_ok-put_line-in-Item.ensures
