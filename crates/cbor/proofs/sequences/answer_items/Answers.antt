use Rattle.std.proofs.Common.{sym}
use Rattle.ciborium_value.specs.View.{tree_of}
use Rattle.cbor.proofs.{ItemsInRow.{all-items, first-refused, one-more-item}, ReadBytes.nothing-left}
use Rattle.cbor.proofs.sequences.answer_items.Goals as goal

pub returns-then-is_empty : goal.returns-then-is_empty
returns-then-is_empty c =
    all-items c.args.bytes.now c.items.rest.now c.items.text.items c.items.number c.items.invariant
    (nothing-left c.items.rest.now (sym c.if-is_empty.ensures))

pub returns-in-Err : goal.returns-in-Err
returns-in-Err c =
    first-refused c.args.bytes.now c.items.rest.now c.items.text.items c.write_refused_item.new.text.items
    c.items.number c.in-Err.refusal c.items.invariant
    c.if-is_empty.ensures c.in-Err.ensures.refused c.in_ok-write_refused_item-in-Err.ensures

pub items-preserved : goal.items-preserved
items-preserved c = one-more-item c.args.bytes.now c.items.rest.now c.read_front.new.rest.now c.items.text.items
    c.push_item-pushed.new.text.items c.items.number (tree_of c.in-Ok.value)
    c.items.invariant c.in-Ok.ensures.item c.in_ok-pushed-in-Ok.ensures
