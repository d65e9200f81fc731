-- What a stack of frames shows.
use Rattle.std.specs.Prelude.{ℕ, Bool, false, true, List, [], ◌∷◌, map, reverse, Option, Some, None}
use Rattle.ciborium_value.specs.{Tree.Tree, ValueLists.pair_trees, View.tree_of, declared.stack.Frame.Frame}
use Rattle.ciborium_value.specs.declared.{stack.{NewFrame.NewFrame, Stack.Stack}, tree.Value.Value}
use Rattle.ciborium_value.specs.inner.Frames.{TreeFrame, Filled, Placed}
use Rattle.ciborium_value.specs.inner.Frames as frames
use Rattle.ciborium_value.specs.declared.stack.Frame.TheVariants as frame
use Rattle.ciborium_value.specs.declared.stack.NewFrame.TheVariants as new_frames

-- a map whose last pair holds the key that waits, from these pairs, the last first
abbrev pub waiting_frame : List (Tree × Tree) → Option ℕ → TreeFrame
waiting_frame [] behind = frames.map [] behind None
waiting_frame (p ∷ ps) behind = frames.map (reverse ps) behind (Some p.0)

-- a map with these pairs, where a key may wait
abbrev pub map_frame : List (Tree × Tree) → Option ℕ → Bool → TreeFrame
map_frame ps behind false = frames.map ps behind None
map_frame ps behind true = waiting_frame (reverse ps) behind

-- what a frame holds
abbrev pub frame_of : Frame → TreeFrame
frame_of (frame.Array items behind) = frames.array (map tree_of items.items) behind
frame_of (frame.Map pairs behind waits) = map_frame (map pair_trees pairs.items) behind waits
frame_of (frame.Tag n) = frames.tag n

-- the frames in a list whose last is the innermost
abbrev pub tree_frames : List Frame → List TreeFrame
tree_frames frames = map frame_of (reverse frames)

-- the frames of a stack, the innermost first
abbrev pub frames_of : Stack → List TreeFrame
frames_of stack = tree_frames stack.frames.items

-- the frame with which a container or tag begins
abbrev pub begun_frame : NewFrame → TreeFrame
begun_frame (new_frames.Array behind) = frames.array [] behind
begun_frame (new_frames.Map behind) = frames.map [] behind None
begun_frame (new_frames.Tag n) = frames.tag n

-- the answer of a call that fills a frame, with what it then is
abbrev pub filled_of : Option Value → TreeFrame → Filled
filled_of (Some v) o = frames.whole (tree_of v)
filled_of None o = frames.still o

-- the answer of a call that places a value, with the frames afterwards
abbrev pub placed_of : Option Value → List TreeFrame → Placed
placed_of (Some v) os = frames.done (tree_of v)
placed_of None os = frames.more os
