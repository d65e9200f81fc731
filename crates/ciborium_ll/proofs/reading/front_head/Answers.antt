use Rattle.std.proofs.Common.{arith, subst, sym, ap, take, ◌≡◌, ◌%◌, get_or, ◌∷◌, slice_range, ◌∙◌}
use Rattle.ciborium_ll.specs.{ReaderSteps.IsHeadTaken, Refusal.argument_length}
use Rattle.ciborium_ll.proofs.{Cursors.are-bytes, HeldBytes.head-bytes}
use Rattle.ciborium_ll.proofs.reading.front_head.Goals as goal

pub returns-clause-head : goal.returns-clause-head
returns-clause-head g c =
    let held = c.args.held.now in
    let size = c.front_size-size.result in
    let n = argument_length (get_or held 0 0 % 32) in
    let is : take size held ≡ get_or held 0 0 ∷ slice_range held 1 size =
    ap (λ k. take k held) c.front_size-size.ensures.size
    ∙ head-bytes n held (omega (arith, c.if-held-size.false, c.front_size-size.ensures.size))
    ∙ ap (λ k. get_or held 0 0 ∷ slice_range held 1 k) (sym c.front_size-size.ensures.size) in
    subst (λ b. IsHeadTaken b c.args.start c.judge_head-head.result) (sym is) c.judge_head-head.ensures.head

pub returns-clause-bytes : goal.returns-clause-bytes
returns-clause-bytes g c = are-bytes c.args.held.now c.type_inv.held
