use Rattle.std.proofs.Common.{Err, arith, refl}
use Rattle.ciborium.specs.View.{tree_of}
use Rattle.ciborium_value.proofs.FoldedTrees.Nests.{meaning_nests}
use Rattle.ciborium_uses.proofs.{KeptLabels.one-value, WholeItems.refused}
use Rattle.ciborium_uses.proofs.envelopes.items.read_all.Goals as goal

pub returns-in-Ok-clause-only : goal.returns-in-Ok-clause-only
returns-in-Ok-clause-only c t h = one-value c.args.bytes.now (tree_of c.in-Ok.value) t c.in-Ok.ensures.ok h

pub returns-in-Ok-clause-nests : goal.returns-in-Ok-clause-nests
returns-in-Ok-clause-nests c =
    let read = c.in-Ok.ensures.value in
    let fewer = meaning_nests read.0 (tree_of c.in-Ok.value) read.2 in omega (arith, fewer, read.3)

pub returns-in-Err-clause-refused : goal.returns-in-Err-clause-refused
returns-in-Err-clause-refused c t h =
    c.refusal_of.ensures (refused c.in-Err.error t (Err _) refl (c.in-Err.ensures.exact h.0 t h.1 h.2))
