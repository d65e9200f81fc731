-- What a sink over a tree has built at a place.
use Rattle.std.{proofs.Common.{sym, subst}, specs.Prelude.{◌≡◌, ℕ, zero, suc, List, [], ◌∷◌, Option, Some, None}}
use Rattle.ciborium_ll.specs.Item.{Item}
use Rattle.ciborium_value.specs.Places.{ContainerType, an_array, a_map, Place, top, within, tagged, HasRoom, writer_at}
use Rattle.ciborium_value.specs.{Places.{bytes_at, Out, IsOutOf, IsOutAt}, Tree.Tree, WrittenTrees.written_tree}
use Rattle.ciborium_value.specs.{declared.serialized.TreeSink.TreeSink, inner.Frames.{Placed, done, more, placed}}
use Rattle.ciborium_value.specs.inner.Stack.{frames_of, placed_of}
use Rattle.ciborium_value.specs.inner.Frames as frames
use Rattle.ciborium_value.specs.Tree as trees

-- a tree is put where one is due
abbrev pub put_tree : Placed → Tree → Placed
put_tree (done v) w = done v
put_tree (more os) w = placed os w

-- the trees of items, one after the other
abbrev pub put_items : Placed → List Item → Placed
put_items s [] = s
put_items s (i ∷ is) = put_items (put_tree s (written_tree i)) is

abbrev pub empty_container : ContainerType → Tree
empty_container an_array = trees.array trees.no_trees
empty_container a_map = trees.map trees.no_tree_pairs

-- a container with this many places behind the one that is filled first
abbrev pub first : ContainerType → Option ℕ → frames.TreeFrame
first an_array behind = frames.array [] behind
first a_map behind = frames.map [] behind None

-- a container is begun: one that announces nothing to come is whole at once
abbrev pub begun : ContainerType → Option ℕ → Placed → Placed
begun s n (done v) = done v
begun s None (more os) = more (first s None ∷ os)
begun s (Some zero) (more os) = placed os (empty_container s)
begun s (Some (suc n)) (more os) = more (first s (Some n) ∷ os)

abbrev pub tagged_by : ℕ → Placed → Placed
tagged_by t (done v) = done v
tagged_by t (more os) = more (frames.tag t ∷ os)

abbrev pub built : Place → Placed
built (top name before is) = put_items (more []) is
built (within s n is around) = put_items (begun s n (built around)) is
built (tagged t p) = tagged_by t (built p)

-- each container was begun where an item could come
abbrev pub IsSound : Place → Type 0
IsSound (top name before is) = Unit {0}
IsSound (within s n is around) = HasRoom around × IsSound around
IsSound (tagged t p) = IsSound p

-- what a sink holds: the whole tree, or what is unfinished
abbrev pub state_of : TreeSink → Placed
state_of s = placed_of s.whole (frames_of s.stack)

abbrev pub IsBuiltAt : TreeSink → Place → Type 0
IsBuiltAt s p = (writer_at p ≡ None) × IsSound p × (state_of s ≡ built p)

-- a tree has no bytes out
abbrev pub no_out : TreeSink → Out
no_out s = None

pub nothing_shown : (s : TreeSink) (p : Place) → IsBuiltAt s p → IsOutAt (no_out s) p
nothing_shown s p h = subst (λ w. IsOutOf w None (bytes_at p)) (sym h.0) tt
