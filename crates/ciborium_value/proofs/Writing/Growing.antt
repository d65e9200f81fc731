-- What a sink over a tree holds while items are added.
use Rattle.std.proofs.Common.{◌≡◌, ℕ, zero, suc, ◌+◌, ◌<◌, true, false, List, [], ◌∷◌, ◌++◌, length, map, Option, Some}
use Rattle.std.proofs.Common.{None, refl, sym, ◌∙◌, ap, subst, append_assoc, append-nil, arith}
use Rattle.ciborium_ll.specs.Item.{Item}
use Rattle.ciborium_value.specs.Places.{ContainerType, an_array, a_map, size_of, items_from, pairs_from, container}
use Rattle.ciborium_value.specs.Places.{Place, top, within, tagged, HasRoom, added, IsFull}
use Rattle.ciborium_value.specs.{Tree.Tree, View.trees_from}
use Rattle.ciborium_value.specs.{View.tree_pairs_from, WrittenTrees.{written_tree, written_trees, written_pairs}}
use Rattle.ciborium_value.specs.inner.Frames.{TreeFrame, Placed, more, placed, tree_ended}
use Rattle.ciborium_value.specs.inner.TreeSinks.{put_tree, put_items, begun, tagged_by, built, IsSound}
use Rattle.ciborium_ll.specs.Item as item
use Rattle.ciborium_value.specs.inner.Frames as frames
use Rattle.ciborium_value.specs.Tree as trees

-- ---- items in a row

abbrev tree_list : List Item → List Tree
tree_list is = map written_tree is

-- keys and values in turn, as pairs of trees
abbrev tree_pair_list : List Item → List (Tree × Tree)
tree_pair_list [] = []
tree_pair_list (k ∷ []) = []
tree_pair_list (k ∷ v ∷ is) = (written_tree k, written_tree v) ∷ tree_pair_list is

trees-from : (is : List Item) → trees_from (tree_list is) ≡ written_trees (items_from is)
trees-from [] = refl
trees-from (i ∷ is) = ap (trees.tree (written_tree i)) (trees-from is)

tree_pairs-from : (is : List Item) → tree_pairs_from (tree_pair_list is) ≡ written_pairs (pairs_from is)
tree_pairs-from (k ∷ v ∷ is) = ap (trees.tree_pair (written_tree k) (written_tree v)) (tree_pairs-from is)
tree_pairs-from u = refl

put_all-snoc : (s : Placed) (is : List Item) (i : Item) →
    put_items s (is ++ i ∷ []) ≡ put_tree (put_items s is) (written_tree i)
put_all-snoc s [] i = refl
put_all-snoc s (j ∷ is) i = put_all-snoc (put_tree s (written_tree j)) is i

-- ---- arrays

array_open : (vs : List Tree) (is : List Item) (os : List TreeFrame) →
    put_items (more (frames.array vs None ∷ os)) is ≡ more (frames.array (vs ++ tree_list is) None ∷ os)
array_open vs [] os = ap (λ l. more (frames.array l None ∷ os)) (sym (append-nil vs))
array_open vs (i ∷ is) os = array_open (vs ++ written_tree i ∷ []) is os ∙
    ap (λ l. more (frames.array l None ∷ os)) (append_assoc vs (written_tree i ∷ []) (tree_list is))

abbrev pub IsStill : Placed → Type 0
IsStill s = (os : List TreeFrame) × (s ≡ more os)

array_still : (m : ℕ) (vs : List Tree) (is : List Item) (os : List TreeFrame) → length is < suc m →
    IsStill (put_items (more (frames.array vs (Some m) ∷ os)) is)
array_still m vs [] os h = (_, refl)
array_still zero vs (i ∷ is) os h = absurd (omega (arith, h))
array_still (suc m) vs (i ∷ is) os h = array_still m (vs ++ written_tree i ∷ []) is os (omega (arith, h))

array_whole : (m : ℕ) (vs : List Tree) (is : List Item) (os : List TreeFrame) → length is ≡ suc m →
    put_items (more (frames.array vs (Some m) ∷ os)) is ≡ placed os (trees.array (trees_from (vs ++ tree_list is)))
array_whole zero vs (i ∷ []) os h = refl
array_whole (suc m) vs (i ∷ is) os h = array_whole m (vs ++ written_tree i ∷ []) is os (omega (arith, h)) ∙
    ap (λ l. placed os (trees.array (trees_from l))) (append_assoc vs (written_tree i ∷ []) (tree_list is))
array_whole u vs v os h = absurd (omega (arith, h))

-- ---- maps

map_open : (n : ℕ) (ps : List (Tree × Tree)) (is : List Item) (os : List TreeFrame) → length is ≡ n + n →
    put_items (more (frames.map ps None None ∷ os)) is ≡ more (frames.map (ps ++ tree_pair_list is) None None ∷ os)
map_open n ps [] os h = ap (λ l. more (frames.map l None None ∷ os)) (sym (append-nil ps))
map_open (suc n) ps (k ∷ v ∷ is) os h =
    map_open n (ps ++ (written_tree k, written_tree v) ∷ []) is os (omega (arith, h)) ∙
    ap (λ l. more (frames.map l None None ∷ os)) (append_assoc ps ((written_tree k, written_tree v) ∷ [])
    (tree_pair_list is))
map_open u ps v os h = absurd (omega (arith, h))

map_open_still : (ps : List (Tree × Tree)) (is : List Item) (os : List TreeFrame) →
    IsStill (put_items (more (frames.map ps None None ∷ os)) is)
map_open_still ps (k ∷ v ∷ is) os = map_open_still (ps ++ (written_tree k, written_tree v) ∷ []) is os
map_open_still ps u os = (_, refl)

map_still : (m : ℕ) (ps : List (Tree × Tree)) (is : List Item) (os : List TreeFrame) → length is < suc m + suc m →
    IsStill (put_items (more (frames.map ps (Some m) None ∷ os)) is)
map_still zero ps (k ∷ v ∷ is) os h = absurd (omega (arith, h))
map_still (suc m) ps (k ∷ v ∷ is) os h = map_still m (ps ++ (written_tree k, written_tree v) ∷ []) is os
    (omega (arith, h))
map_still m ps u os h = (_, refl)

map_whole : (m : ℕ) (ps : List (Tree × Tree)) (is : List Item) (os : List TreeFrame) → length is ≡ suc m + suc m →
    put_items (more (frames.map ps (Some m) None ∷ os)) is ≡ placed os
    (trees.map (tree_pairs_from (ps ++ tree_pair_list is)))
map_whole zero ps (k ∷ v ∷ []) os h = refl
map_whole (suc m) ps (k ∷ v ∷ is) os h =
    map_whole m (ps ++ (written_tree k, written_tree v) ∷ []) is os (omega (arith, h)) ∙
    ap (λ l. placed os (trees.map (tree_pairs_from l)))
    (append_assoc ps ((written_tree k, written_tree v) ∷ []) (tree_pair_list is))
map_whole u ps v os h = absurd (omega (arith, h))

-- ---- where an item may come, something is unfinished

begun_still : (s : ContainerType) (n : Option ℕ) (is : List Item) (os : List TreeFrame) (around : Place) →
    HasRoom (within s n is around) → IsStill (put_items (begun s n (more os)) is)
begun_still an_array None is os around h = (_, array_open [] is os)
begun_still a_map None is os around h = map_open_still [] is os
begun_still an_array (Some (suc m)) is os around h = array_still m [] is os h
begun_still a_map (Some (suc m)) is os around h = map_still m [] is os h
begun_still u v is os around h = absurd (omega (arith, h))

pub still_unfinished : (p : Place) → HasRoom p → IsSound p → IsStill (built p)
still_unfinished (top name before []) room sound = ([], refl)
still_unfinished (top name before (i ∷ is)) room sound = absurd (omega (arith, room))
still_unfinished (within s n is around) room sound =
    let k = still_unfinished around sound.0 sound.1 in
    subst (λ t. IsStill (put_items (begun s n t) is)) (sym k.1) (begun_still s n is k.0 around room)
still_unfinished (tagged t p) room sound = let k = still_unfinished p room sound in
    (frames.tag t ∷ k.0, ap (tagged_by t) k.1)

-- one more item puts its tree
pub built-added : (p : Place) (i : Item) → HasRoom p → IsSound p →
    built (added p i) ≡ put_tree (built p) (written_tree i)
built-added (top name before is) i room sound = put_all-snoc (more []) is i
built-added (within s n is around) i room sound = put_all-snoc (begun s n (built around)) is i
built-added (tagged t p) i room sound =
    let k = still_unfinished p room sound in
    built-added p (item.tag t i) room sound ∙ ap (λ s. put_tree s (trees.tag t (written_tree i))) k.1 ∙
    ap (λ s. put_tree (tagged_by t s) (written_tree i)) (sym k.1)

pub sound-added : (p : Place) (i : Item) → IsSound p → IsSound (added p i)
sound-added (top name before is) i sound = tt
sound-added (within s n is around) i sound = sound
sound-added (tagged t p) i sound = sound-added p (item.tag t i) sound

-- ---- the end of a container

-- one that announced its count is whole with its last item
full_whole : (s : ContainerType) (n : ℕ) (is : List Item) (os : List TreeFrame) → length is ≡ size_of s n →
    put_items (begun s (Some n) (more os)) is ≡ placed os (written_tree (container s false is))
full_whole an_array zero [] os h = refl
full_whole an_array zero (i ∷ is) os h = absurd (omega (arith, h))
full_whole a_map zero [] os h = refl
full_whole a_map zero (i ∷ is) os h = absurd (omega (arith, h))
full_whole an_array (suc m) is os h = array_whole m [] is os h ∙ ap (λ l. placed os (trees.array l)) (trees-from is)
full_whole a_map (suc m) is os h = map_whole m [] is os h ∙ ap (λ l. placed os (trees.map l)) (tree_pairs-from is)

pub built-ended : (s : _) (n : ℕ) (is : List Item) (around : Place) → IsSound (within s (Some n) is around) →
    length is ≡ size_of s n → built (within s (Some n) is around) ≡ built (added around (container s false is))
built-ended s n is around sound h =
    let k = still_unfinished around sound.0 sound.1 in
    ap (λ t. put_items (begun s (Some n) t) is) k.1 ∙ full_whole s n is k.0 h ∙
    sym (built-added around (container s false is) sound.0 sound.1 ∙
    ap (λ t. put_tree t (written_tree (container s false is))) k.1)

-- a break ends an open one
pub record Breaks (s : ContainerType) (is : List Item) (around : Place) : Type 0 where
  pub inner : TreeFrame
  pub outer : List TreeFrame
  pub around_is : built around ≡ more outer
  pub here : built (within s None is around) ≡ more (inner ∷ outer)
  pub tree : tree_ended inner ≡ Some (written_tree (container s true is))

pub built-broken : (s : ContainerType) (is : List Item) (around : Place) → IsSound (within s None is around) →
    IsFull s None is → Breaks s is around
built-broken an_array is around sound h =
    let k = still_unfinished around sound.0 sound.1 in
    record {
      inner = frames.array (tree_list is) None;
      outer = k.0;
      around_is = k.1;
      here = ap (λ t. put_items (begun an_array None t) is) k.1 ∙ array_open [] is k.0;
      tree = ap (λ l. Some (trees.array l)) (trees-from is);
    }
built-broken a_map is around sound h =
    let k = still_unfinished around sound.0 sound.1 in
    record {
      inner = frames.map (tree_pair_list is) None None;
      outer = k.0;
      around_is = k.1;
      here = ap (λ t. put_items (begun a_map None t) is) k.1 ∙ map_open h.0 [] is k.0 h.1;
      tree = ap (λ l. Some (trees.map l)) (tree_pairs-from is);
    }
