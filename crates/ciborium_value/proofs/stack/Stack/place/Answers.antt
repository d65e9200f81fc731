use Rattle.std.proofs.Common.{arith}
use Rattle.std.proofs.lemmas.Grind.{common_steps}
use Rattle.std.proofs.Common.{rules, sym, ◌∙◌, ap}
use Rattle.ciborium_value.{proofs.Trees.Stacked.still-placed, specs.{View.tree_of, inner.Stack.{filled_of, frame_of}}}
use Rattle.ciborium_value.proofs.stack.Stack.place.Goals as goal

pub returns-in-None : goal.returns-in-None
returns-in-None c =
    still-placed c.loop-frame.self.frames.items _ c.in-Some.frame.now c.fill.new.frame (tree_of c.loop-frame.value)
    (search rules) (search rules) c.in-Some.ensures.value
    (ap (λ r. filled_of r (frame_of c.fill.new.frame)) (sym c.in-None.is) ∙ c.in_ok-fill.ensures) ∙
    c.loop-frame.invariant

pub loop-frame-preserved : goal.loop-frame-preserved
loop-frame-preserved c = grind (arith, common_steps)

pub returns : goal.returns
returns c = grind (arith, common_steps)
