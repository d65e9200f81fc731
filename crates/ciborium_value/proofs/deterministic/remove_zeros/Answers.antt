use Rattle.std.proofs.Common.{◌≡◌, length, rules, ap, ◌∙◌, arith}
use Rattle.ciborium_value.specs.{Meaning.without_zeros, lemmas.ReadsBackBignums.length-without_zeros}
use Rattle.ciborium_value.proofs.FoldedTrees.Bignums.{zeros_dropped}
use Rattle.ciborium_value.proofs.deterministic.remove_zeros.Goals as goal

pub overflow_sub-zeros : goal.overflow_sub-zeros
overflow_sub-zeros c =
    let shorter = length-without_zeros c.args.bytes.now.items in
    let rest : length c.without_leading_zeros.result.now ≡ length (without_zeros c.args.bytes.now.items) =
    ap length (c.without_leading_zeros.ensures ∙ ap without_zeros c.deref.ensures.value) in
    omega (arith, shorter, rest, c.len.ensures, c.args.bytes.now.ok.0)

pub returns : goal.returns
returns c =
    let rest : length c.without_leading_zeros.result.now ≡ length (without_zeros c.args.bytes.now.items) =
    ap length (c.without_leading_zeros.ensures ∙ ap without_zeros c.deref.ensures.value) in
    let dropped = zeros_dropped c.args.bytes.now.items in
    search (rules, rest, dropped)
