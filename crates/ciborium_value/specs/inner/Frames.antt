-- Frames: containers and tags that are unfinished while a tree is put together, the innermost
-- first.
use Rattle.std.specs.Prelude.{ℕ, zero, suc, List, [], ◌∷◌, ◌++◌, Option, Some, None, option_map}
use Rattle.ciborium_value.specs.{Tree.Tree, View.{trees_from, tree_pairs_from}}
use Rattle.ciborium_value.specs.Tree as trees

-- a container with its parts so far, how many places follow the one that is filled next (None: as
-- many as come before a break), and
-- the key that waits for its value; or a tag that waits for its item
pub data TreeFrame : Type 0 where
  array : List Tree → Option ℕ → TreeFrame
  map : List (Tree × Tree) → Option ℕ → Option Tree → TreeFrame
  tag : ℕ → TreeFrame

-- what one more tree makes of it: a whole tree, or it is still unfinished
pub data Filled : Type 0 where
  whole : Tree → Filled
  still : TreeFrame → Filled

abbrev pub fill_array : List Tree → Option ℕ → Filled
fill_array vs (Some zero) = whole (trees.array (trees_from vs))
fill_array vs (Some (suc n)) = still (array vs (Some n))
fill_array vs None = still (array vs None)

abbrev pub fill_map : List (Tree × Tree) → Option ℕ → Filled
fill_map ps (Some zero) = whole (trees.map (tree_pairs_from ps))
fill_map ps (Some (suc n)) = still (map ps (Some n) None)
fill_map ps None = still (map ps None None)

abbrev pub fill : TreeFrame → Tree → Filled
fill (array vs behind) v = fill_array (vs ++ v ∷ []) behind
fill (map ps behind None) v = still (map ps behind (Some v))
fill (map ps behind (Some k)) v = fill_map (ps ++ (k, v) ∷ []) behind
fill (tag n) v = whole (trees.tag n v)

-- what one more tree makes of all frames: the tree that it completes last, or the frames that are
-- left
pub data Placed : Type 0 where
  done : Tree → Placed
  more : List TreeFrame → Placed

abbrev pub placed : List TreeFrame → Tree → Placed
placed [] v = done v
placed (o ∷ os) v = elim (fill o v) [ whole w ↦ placed os w | still p ↦ more (p ∷ os) ]

-- the tree of a container that a break ends here
abbrev pub tree_ended : TreeFrame → Option Tree
tree_ended (array vs None) = Some (trees.array (trees_from vs))
tree_ended (array vs (Some n)) = None
tree_ended (map ps None None) = Some (trees.map (tree_pairs_from ps))
tree_ended (map ps None (Some k)) = None
tree_ended (map ps (Some n) key) = None
tree_ended (tag n) = None

-- the tree that a break ends, and the frames around it
abbrev pub closed : List TreeFrame → Option (Tree × List TreeFrame)
closed [] = None
closed (o ∷ os) = option_map (λ v. (v, os)) (tree_ended o)

-- the last of some keys, and one more
abbrev pub with_last : List (Tree × Tree) → Tree → Option (Tree × Tree)
with_last [] key = None
with_last (p ∷ []) key = Some (p.0, key)
with_last (p ∷ (q ∷ ps)) key = with_last (q ∷ ps) key

-- the key that waits for its value in the innermost container, behind the key before it
abbrev pub waiting_keys : List TreeFrame → Option (Tree × Tree)
waiting_keys [] = None
waiting_keys (array vs behind ∷ os) = None
waiting_keys (map ps behind None ∷ os) = None
waiting_keys (map ps behind (Some key) ∷ os) = with_last ps key
waiting_keys (tag n ∷ os) = None
