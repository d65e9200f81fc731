use Rattle.std.proofs.Common.{◌≡◌, length}
use Rattle.ciborium_value.specs.{inner.Frames.placed, inner.Stack.tree_frames, View.tree_of}
use Rattle.ciborium_value.proofs.stack.Stack.place.Given as goal

-- what the value makes of what is unfinished is what the first value makes of what was
abbrev pub invariant-loop-frame : goal.invariant-loop-frame
invariant-loop-frame l = placed (tree_frames l.self.frames.items) (tree_of l.value) ≡
    placed (tree_frames l.fn.self.frames.items) (tree_of l.fn.value)

abbrev pub decreases-loop-frame : goal.decreases-loop-frame
decreases-loop-frame l = length l.self.frames.items
