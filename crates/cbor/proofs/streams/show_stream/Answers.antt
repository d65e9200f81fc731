use Rattle.std.proofs.Common.{◌≡◌, ◌+◌, ap, arith, ◌∙◌, Some}
use Rattle.cbor.proofs.StreamedItems.{all-shown, none-follows, none-shown, one-more-shown}
use Rattle.cbor.proofs.streams.show_stream.Goals as goal

pub items-init : goal.items-init
items-init g c b w e f = none-shown c.args.place.now c.args.showing c.args.limit b w _ _ e f

pub returns-in-None : goal.returns-in-None
returns-in-None g c b w e f =
    all-shown c.args.place.now c.args.showing c.args.limit b w _ _ _ c.items.number c.items.offset c.items.all
    (c.items.invariant b w e f) c.in_ok-next.ensures.held (λ xs h. rw c.in-None.is at (c.in_ok-next.ensures.next xs h))

pub returns-in-Some-NoItem : goal.returns-in-Some-NoItem
returns-in-Some-NoItem g c b w e f =
    let comes = c.in-Some-NoItem.is ∙ ap Some c.in-Some-NoItem.field-0-is in
    none-follows c.args.place.now c.args.showing c.args.limit b w _ _ _ c.items.number c.items.offset c.items.all
    (c.items.invariant b w e f) c.in_ok-next.ensures.held _ c.in-Some-NoItem.refusal
    (λ xs h. rw (comes, c.shown_spelling-spelling.ensures) at (c.in_ok-next.ensures.next xs h))
    c.in_ok-show_refused-in-Some-NoItem.ensures

pub items-preserved : goal.items-preserved
items-preserved g c b w e f =
    let comes = c.in-Some-Item.is ∙ ap Some c.in-Some-Item.field-0-is in
    let moved : c.in_ok-offset-in-Some-Item.offset ≡ c.items.offset + c.in-Some-Item.size = grind arith in
    one-more-shown c.args.place.now c.args.showing c.args.limit b w _ _ _ c.items.number c.items.offset c.items.all
    (c.items.invariant b w e f) c.in_ok-next.ensures.held _ _ c.in-Some-Item.item c.in-Some-Item.size _
    c.in_ok-is_shown-in-Some-Item.is_shown moved
    (λ xs h. rw (comes, c.shown_spelling-spelling.ensures) at (c.in_ok-next.ensures.next xs h))
    (λ s ys. c.in_ok-is_shown-in-Some-Item.ensures s ys c.args.limit)
