-- The steps of a sink over a tree.
use Rattle.std.proofs.Common.{◌≡◌, ℕ, true, false, List, [], ◌∷◌, Bool, Option, Some, None, Result, Ok, Err, OnOk, pos}
use Rattle.std.proofs.Common.{negsuc, ℤ, ◌^◌, nat_lt, if◌then◌else◌, refl, sym, ◌∙◌, ap, lit<}
use Rattle.std.proofs.lemmas.Result.{on_ok_weaker}
use Rattle.ciborium_ll.specs.Item.{Item}
use Rattle.ciborium_value.proofs.Writing.Growing.{still_unfinished, built-added, sound-added, built-ended, built-broken}
use Rattle.ciborium_value.{proofs.Writing.Standing.writer_at-added, specs.{Encoding.boolean_item, Number.number_tree}}
use Rattle.ciborium_value.specs.{Number.shortest_bytes, Places.{ContainerType, Place, top, within}}
use Rattle.ciborium_value.specs.{Places.{HasRoom, added, container, IsComplete, writer_at}, Sinks.{Named, number_item}}
use Rattle.ciborium_value.specs.{Sinks.{Adds, Begins, Ends, AddsNamed}, Tree.Tree, TreeAnswers.IsTreeOf, View.tree_of}
use Rattle.ciborium_value.specs.{WrittenTrees.written_tree, declared.{serialized.TreeSink.TreeSink, tree.Value.Value}}
use Rattle.ciborium_value.specs.inner.{Frames.{TreeFrame, done, more, placed, closed}, Stack.{frames_of, placed_of}}
use Rattle.ciborium_value.specs.inner.TreeSinks.{put_tree, empty_container, begun, built, state_of, IsBuiltAt}
use Rattle.ciborium_ll.specs.Item as item
use Rattle.ciborium_value.specs.Places as places
use Rattle.ciborium_value.specs.Tree as trees

-- ---- the trees of scalars

pub number-tree : (z : ℤ) → number_tree z ≡ written_tree (number_item z)
number-tree (pos n) = by (nat_lt n (2 ^ 64))
  where
    by : (c : Bool) → (if c then trees.integer (pos n) else trees.tag 2 (trees.bytes (shortest_bytes n))) ≡ written_tree
        (if c then item.unsigned n else item.tag 2 (item.bytes false (shortest_bytes n)))
    by true = refl
    by false = refl
number-tree (negsuc n) = by (nat_lt n (2 ^ 64))
  where
    by : (c : Bool) → (if c then trees.integer (negsuc n) else trees.tag 3 (trees.bytes (shortest_bytes n))) ≡
        written_tree (if c then item.negative n else item.tag 3 (item.bytes false (shortest_bytes n)))
    by true = refl
    by false = refl

pub boolean-tree : (b : Bool) → trees.boolean b ≡ written_tree (boolean_item b)
boolean-tree false = refl
boolean-tree true = refl

-- ---- a sink that is unfinished

opens_are : (w : Option Value) (os os' : List TreeFrame) → placed_of w os ≡ more os' → (w ≡ None) × (os ≡ os')
opens_are (Some v) os os' h = cc
opens_are None os os' h = (refl, cc)

pub open_at : (s : TreeSink) (p : Place) → IsBuiltAt s p → HasRoom p → (s.whole ≡ None) ×
    (built p ≡ more (frames_of s.stack))
open_at s p st room =
    let k = still_unfinished p room st.1 in
    let o = opens_are s.whole (frames_of s.stack) k.0 (st.2 ∙ k.1) in
    (o.0, k.1 ∙ ap more (sym o.1))

module _ {E : Type 0} (r : Result (Unit {0}) E) (s new : TreeSink) where
  pub put_adds : (i : Item) (t : Tree) → t ≡ written_tree i → OnOk r (state_of new ≡ placed (frames_of s.stack) t) →
      OnOk r (Adds IsBuiltAt s new i)
  put_adds i t same = on_ok_weaker r (λ e p st room.
      let o = open_at s p st room in (
        writer_at-added p i ∙ st.0,
        sound-added p i st.1,
        e ∙ ap (placed (frames_of s.stack)) same ∙
            sym (built-added p i room st.1 ∙ ap (λ b. put_tree b (written_tree i)) o.1),
      ))

  pub put_begins : (k : ContainerType) (n : Option ℕ) (t : Tree) → n ≡ Some 0 → t ≡ empty_container k →
      OnOk r (state_of new ≡ placed (frames_of s.stack) t) → OnOk r (Begins IsBuiltAt k s new n)
  put_begins k n t none same = on_ok_weaker r (λ e p st room.
      let o = open_at s p st room in (
        st.0,
        (room, st.1),
        e ∙ ap (placed (frames_of s.stack)) same ∙
            sym (ap (λ m. begun k m (built p)) none ∙ ap (begun k (Some 0)) o.1),
      ))

-- ---- the end of a container

pub some_is : {A : Type 0} (x y : A) → Some x ≡ Some y → x ≡ y
some_is x y h = cc

-- what a break closes, where a container can end that announced nothing
broken_at : (s : TreeSink) (k : ContainerType) (is : List Item) (around : Place) →
    IsBuiltAt s (within k None is around) → places.IsFull k None is → (v : Tree) × (os : List TreeFrame) ×
    (closed (frames_of s.stack) ≡ Some (v, os)) × (built (added around (container k true is)) ≡ placed os v)
broken_at s k is around st full =
    let b = built-broken k is around st.1 full in
    let o = opens_are s.whole (frames_of s.stack) (b.inner ∷ b.outer) (st.2 ∙ b.here) in
    let t : Tree = written_tree (container k true is) in (
      t,
      b.outer,
      ap closed o.1 ∙ ap (λ e. elim e [ None ↦ None | Some v ↦ Some (v, b.outer) ]) b.tree,
      built-added around (container k true is) st.1.0 st.1.1 ∙ ap (λ x. put_tree x t) b.around_is,
    )

pub can_close : (s : TreeSink) (n : Option ℕ) → n ≡ None → (p : Place) → IsBuiltAt s p → IsComplete p n →
    closed (frames_of s.stack) ≡ None → ⊥
can_close s n none (within k (Some m) is around) st full h = let e : Some m ≡ None = full.0 ∙ none in cc
can_close s n none (within k None is around) st full h =
    let b = broken_at s k is around st full.1 in
    let e : None ≡ Some (b.0, b.1) = sym h ∙ b.2 in cc
can_close s n u v st full h = full

pub close_ends : {E : Type 0} (r : Result (Unit {0}) E) (s new : TreeSink) (n : Option ℕ) (v : Tree)
    (os : List TreeFrame) → n ≡ None → closed (frames_of s.stack) ≡ Some (v, os) → OnOk r (state_of new ≡ placed os v) →
    OnOk r (Ends IsBuiltAt s new n)
close_ends r s new n v os none h = on_ok_weaker r (λ e p st full. by p st full e)
  where
    by : (p : Place) → IsBuiltAt s p → IsComplete p n → state_of new ≡ placed os v → IsBuiltAt new (places.ended p)
    by (top name before is) st full e = absurd full
    by (places.tagged t p) st full e = absurd full
    by (within k (Some m) is around) st full e = let f : Some m ≡ None = full.0 ∙ none in cc
    by (within k None is around) st full e =
        let b = broken_at s k is around st full.1 in
        let same : (v, os) ≡ (b.0, b.1) = some_is (v, os) (b.0, b.1) (sym h ∙ b.2) in (
          writer_at-added around (container k true is) ∙ st.0,
          sound-added around (container k true is) st.1.1,
          e ∙ ap (λ x. placed x.1 x.0) same ∙ sym b.3,
        )

pub whole_ends : (s : TreeSink) (n : Option ℕ) (m : ℕ) → n ≡ Some m → Ends IsBuiltAt s s n
whole_ends s n m some (within k None is around) st full = let e : None ≡ Some m = full.0 ∙ some in cc
whole_ends s n m some (within k (Some j) is around) st full = (
  writer_at-added around (container k false is) ∙ st.0,
  sound-added around (container k false is) st.1.1,
  st.2 ∙ built-ended k j is around st.1 full.1,
)
whole_ends s n m some u st full = absurd full

-- ---- the whole tree

pub begins_empty : (s : TreeSink) → s.whole ≡ None → frames_of s.stack ≡ [] → (p : Place) × IsBuiltAt s p × HasRoom p
begins_empty s none empty_container = (
  top None [] [],
  (refl, tt, ap (λ w. placed_of w (frames_of s.stack)) none ∙ ap more empty_container),
  lit< tt,
)

-- the one item at the top
whole_is : (w : Option Value) (os : List TreeFrame) (t : Tree) → placed_of w os ≡ done t → (v : Value) × (w ≡ Some v) ×
    (tree_of v ≡ t)
whole_is None os t h = cc
whole_is (Some v) os t h = (v, refl, cc)

pub ends_whole : (s new : TreeSink) (n : Named) → s.whole ≡ None → frames_of s.stack ≡ [] →
    AddsNamed IsBuiltAt s new n → (v : Value) × (new.whole ≡ Some v) × IsTreeOf n v
ends_whole s new (Err k) none empty_container h = absurd h
ends_whole s new (Ok i) none empty_container h =
    let at = begins_empty s none empty_container in
    let st = h (top None [] []) (refl, tt, ap (λ w. placed_of w (frames_of s.stack)) none ∙ ap more empty_container)
    (lit< tt) in
    whole_is new.whole (frames_of new.stack) (written_tree i) st.2
