use Rattle.std.proofs.Common.{List, [], ap, length, ℕ}
use Rattle.cbor.proofs.ExactNotation.{front-pushed}
use Rattle.cbor.proofs.exact.push_exact.Goals as goal

pub returns-clause-shown : goal.returns-clause-shown
returns-clause-shown c = front-pushed c.new-heads.result c.push_next.new.heads c.args.bytes.now _ _ _
    c.new-heads.ensures.bytes c.new-heads.ensures.offset
    (c.in_ok-push_next.ensures.left 0 [] c.new-heads.ensures.levels) (ap (λ (b : List ℕ). length b) c.rest.ensures)
    c.in_ok-push_next.ensures.shown
