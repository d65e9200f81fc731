-- A refusal is the first among the parts of the two pairs.
use Rattle.ciborium.proofs.Refusals.{refused-by, two-pairs}
use Rattle.ciborium.proofs.literals.map_of_two.Goals as goal

pub returns-clause-refused : goal.returns-clause-refused
returns-clause-refused g c =
    refused-by c.map.result _ (λ had.
    let had-2 = c.map.ensures.pairs had in
    let had-1 = c.pair-pairs-2.ensures.pairs had-2 in
    two-pairs (g.K.Serialize.written c.args.key.now) (g.V.Serialize.written c.args.value.now)
    (g.L.Serialize.written c.args.next_key.now) (g.W.Serialize.written c.args.next_value.now)
    c.pairs-pairs.ensures (c.part.ensures (c.pair-pairs.ensures.key had-1))
    (c.part-2.ensures (c.pair-pairs.ensures.value had-1)) (c.pair-pairs.ensures.added had-1)
    (c.part-3.ensures (c.pair-pairs-2.ensures.key had-2)) (c.part-4.ensures (c.pair-pairs-2.ensures.value had-2))
    (c.pair-pairs-2.ensures.added had-2) c.map.ensures.tree)
