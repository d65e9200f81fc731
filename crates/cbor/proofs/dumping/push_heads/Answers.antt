use Rattle.std.proofs.Common.{List, ℕ, ap, length, ◌∙◌}
use Rattle.ciborium_ll.specs.ItemHeads.{unread}
use Rattle.cbor.proofs.DumpedHeads.{all-dumped, less-unread, none-at-front, none-dumped, one-more-dumped}
use Rattle.cbor.proofs.dumping.push_heads.Goals as goal

pub heads-init : goal.heads-init
heads-init c = none-dumped c.args.bytes.now c.new-heads.result c.args.text.now.items c.new-heads.ensures.bytes
    c.new-heads.ensures.begins c.new-heads.ensures.offset c.new-heads.ensures.levels c.requires

pub heads-smaller : goal.heads-smaller
heads-smaller c = less-unread c.heads.heads c.next.new.self c.in-Ok-Some.head
    ((rw c.in-Ok-Some.field-0-is at c.in-Ok-Some.ensures) c.heads.invariant.read).1

pub heads-preserved : goal.heads-preserved
heads-preserved c = one-more-dumped c.args.bytes.now c.heads.heads c.next.new.self c.in-Ok-Some.head c.heads.text.items
    c.push_line.new.text.items c.heads.invariant
    ((rw c.in-Ok-Some.field-0-is at c.in-Ok-Some.ensures) c.heads.invariant.read) c.in_ok-push_line-in-Ok-Some.ensures

pub returns-in-Ok-None : goal.returns-in-Ok-None
returns-in-Ok-None c =
    let h = (rw c.in-Ok-None.field-0-is at c.in-Ok-None.ensures) c.heads.invariant.read in
    all-dumped c.args.bytes.now c.heads.heads c.heads.text.items (length c.rest.result.now) c.heads.invariant h.0 h.1
    (ap (λ (b : List ℕ). length b) (c.rest.ensures ∙ ap unread h.2))

pub returns-in-Err : goal.returns-in-Err
returns-in-Err c = none-at-front c.args.bytes.now c.heads.heads c.heads.text.items c.in-Err.reason c.heads.invariant
    (c.in-Err.ensures c.heads.invariant.read)
