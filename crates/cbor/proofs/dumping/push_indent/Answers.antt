use Rattle.std.{proofs.{Common.{◌∙◌, ap, ◌++◌, List, ℕ, codes}, lemmas.List.append_assoc}, specs.List.repeat}
use Rattle.cbor.proofs.DumpedHeads.{one-more-time}
use Rattle.cbor.proofs.dumping.push_indent.Goals as goal

pub levels-preserved : goal.levels-preserved
levels-preserved c =
    c.in_ok-extend_from_slice.ensures.items ∙ (ap (λ (t : List ℕ). t ++ codes "  ") c.levels.invariant ∙
    (append_assoc c.args.text.now.items (repeat c.levels.counter (codes "  ")) (codes "  ") ∙
    ap (λ (t : List ℕ). c.args.text.now.items ++ t) (one-more-time c.levels.counter (codes "  "))))
