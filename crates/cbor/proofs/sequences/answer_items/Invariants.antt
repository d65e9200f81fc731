use Rattle.cbor.proofs.ItemsInRow.{IsSoFar}
use Rattle.cbor.proofs.sequences.answer_items.Given as goal

-- the items so far mean some trees, and their hex stands in the text
abbrev pub invariant-items : goal.invariant-items
invariant-items l = IsSoFar l.bytes l.rest l.text.items l.number
