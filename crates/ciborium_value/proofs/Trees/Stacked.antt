-- The innermost frame stands last.
use Rattle.std.proofs.Common.{◌≡◌, ℕ, suc, ◌-◌, ◌<◌, List, [], ◌∷◌, ◌++◌, length, map, slice_index_or, slice_set}
use Rattle.std.proofs.Common.{reverse, Bool, true, Option, None, Some, refl, sym, ap, ◌∙◌, arith, length-append}
use Rattle.std.proofs.lemmas.List.{map-append, reverse-append, reverse-reverse}
use Rattle.ciborium_value.specs.{Tree.Tree, ValueLists.pair_trees, View.tree_of, declared.stack.Frame.Frame}
use Rattle.ciborium_value.specs.{declared.tree.Value.Value, inner.Frames.{Filled, fill, fill_map, placed, more}}
use Rattle.ciborium_value.specs.inner.{Frames.{still, waiting_keys, whole, with_last}, Stack.{frame_of, map_frame}}
use Rattle.ciborium_value.specs.inner.Stack.{tree_frames}
use Rattle.ciborium_value.specs.inner.Frames as frames

pub frames_last : (frames : List Frame) (frame : Frame) →
    tree_frames (frames ++ frame ∷ []) ≡ frame_of frame ∷ tree_frames frames
frames_last frames frame = ap (map frame_of) (reverse-append frames (frame ∷ []))

-- a list that is not empty has a last element
snoc : {A : Type 0} (xs : List A) → 0 < length xs → (ys : List A) × (f : A) × (xs ≡ ys ++ f ∷ [])
snoc [] h = absurd (omega (arith, h))
snoc (x ∷ []) h = ([], x, refl)
snoc {A} (x ∷ y ∷ xs) h = let s = snoc (y ∷ xs) (omega arith) in (x ∷ s.0, s.1, ap (λ (l : List A). x ∷ l) s.2)

set-last : {A : Type 0} (ys : List A) (f g : A) → slice_set (ys ++ f ∷ []) (length ys) g ≡ ys ++ g ∷ []
set-last [] f g = refl
set-last {A} (y ∷ ys) f g = ap (λ (l : List A). y ∷ l) (set-last ys f g)

at-last : {A : Type 0} (ys : List A) (f d : A) → slice_index_or (ys ++ f ∷ []) (length ys) d ≡ f
at-last [] f d = refl
at-last (y ∷ ys) f d = at-last ys f d

-- a value that does not complete the innermost frame changes that frame alone
pub still-placed : (xs : List Frame) (n : ℕ) (f g : Frame) (v : Tree) → n ≡ length xs → 0 < n →
    f ≡ slice_index_or xs (n - 1) f → still (frame_of g) ≡ fill (frame_of f) v →
    more (tree_frames (slice_set xs (n - 1) g)) ≡ placed (tree_frames xs) v
still-placed xs n f g v size some at filled =
    let s = snoc xs (omega (arith, size, some)) in
    let ys : List Frame = s.0 in
    let index : n - 1 ≡ length ys = omega (arith, size, simp length-append at (ap length s.2)) in
    let here = rw (s.2, index, at-last ys s.1 f) at at in
    rw (s.2, index, set-last ys s.1 g, frames_last ys g, frames_last ys s.1)
    (stays (tree_frames ys) (frame_of s.1) (rw here at filled))
  where
    stays : (os : List frames.TreeFrame) (o : frames.TreeFrame) → still (frame_of g) ≡ fill o v →
        more (frame_of g ∷ os) ≡ placed (o ∷ os) v
    stays os o e = ap (λ (w : Filled). elim w [ whole t ↦ placed os t | still p ↦ more (p ∷ os) ]) e

-- the value of the key that waits in the last pair
pub waiting-filled : (ps : List (Value × Value)) (n : ℕ) (p : Value × Value) (v : Value) (behind : Option ℕ)
    (b : Option ℕ) (waits : Bool) → n ≡ length ps → 0 < n → p ≡ slice_index_or ps (n - 1) p → waits ≡ true →
    behind ≡ b → fill_map (map pair_trees (slice_set ps (n - 1) (p.0, v))) b
    ≡ fill (map_frame (map pair_trees ps) behind waits) (tree_of v)
waiting-filled ps n p v behind b waits size some at waiting there =
    let s = snoc ps (omega (arith, size, some)) in
    let ys : List (Value × Value) = s.0 in
    let index : n - 1 ≡ length ys = omega (arith, size, simp length-append at (ap length s.2)) in
    let here = rw (s.2, index, at-last ys s.1 p) at at in
    rw (
      s.2,
      index,
      set-last ys s.1 (p.0, v),
      map-append pair_trees ys ((p.0, v) ∷ []),
      map-append pair_trees ys (s.1 ∷ []),
      ← here,
      there,
      waiting,
      reverse-append (map pair_trees ys) (pair_trees p ∷ []),
      reverse-reverse (map pair_trees ys),
    ) refl

-- a list of two at least has a last element and one before it
snoc-two : {A : Type 0} (xs : List A) → 1 < length xs → (zs : List A) × (z : A) × (y : A) × (xs ≡ zs ++ z ∷ y ∷ [])
snoc-two (x ∷ y ∷ []) h = ([], x, y, refl)
snoc-two {A} (w ∷ x ∷ y ∷ xs) h =
    let s = snoc-two (x ∷ y ∷ xs) (omega arith) in (w ∷ s.0, s.1, s.2, ap (λ (l : List A). w ∷ l) s.3)
snoc-two u h = absurd (omega (arith, h))

at-second : {A : Type 0} (zs : List A) (z y d : A) → slice_index_or (zs ++ z ∷ y ∷ []) (length zs) d ≡ z
at-second [] z y d = refl
at-second (x ∷ zs) z y d = at-second zs z y d

at-first : {A : Type 0} (zs : List A) (z y d : A) → slice_index_or (zs ++ z ∷ y ∷ []) (suc (length zs)) d ≡ y
at-first [] z y d = refl
at-first (x ∷ zs) z y d = at-first zs z y d

with-last-of : (ps : List (Tree × Tree)) (p : Tree × Tree) (k : Tree) → with_last (ps ++ p ∷ []) k ≡ Some (p.0, k)
with-last-of (q ∷ r ∷ ps) p k = with-last-of (r ∷ ps) p k
with-last-of u p k = refl

-- the keys of the last two pairs
pub last-two : (ps : List (Value × Value)) (d e : Value × Value) → 1 < length ps →
    Some (tree_of (slice_index_or ps (length ps - 2) d).0, tree_of (slice_index_or ps (length ps - 1) e).0)
    ≡ waiting_keys (map_frame (map pair_trees ps) None true ∷ [])
last-two ps d e some =
    let s = snoc-two ps some in
    let zs : List (Value × Value) = s.0 in
    let second : length (zs ++ s.1 ∷ s.2 ∷ []) - 2 ≡ length zs = simp length-append (omega arith) in
    let first : length (zs ++ s.1 ∷ s.2 ∷ []) - 1 ≡ suc (length zs) = simp length-append (omega arith) in
    let again : reverse (pair_trees s.1 ∷ reverse (map pair_trees zs)) ≡ map pair_trees zs ++ pair_trees s.1 ∷ [] =
    reverse-append (pair_trees s.1 ∷ []) (reverse (map pair_trees zs)) ∙
    ap (λ l. l ++ pair_trees s.1 ∷ []) (reverse-reverse (map pair_trees zs)) in
    rw (
      s.3,
      second,
      first,
      at-second zs s.1 s.2 d,
      at-first zs s.1 s.2 e,
      map-append pair_trees zs (s.1 ∷ s.2 ∷ []),
      reverse-append (map pair_trees zs) (pair_trees s.1 ∷ pair_trees s.2 ∷ []),
      again,
    )
    (sym (with-last-of (map pair_trees zs) (pair_trees s.1) (tree_of s.2.0)))
