-- What a turn of the loop makes of what is unfinished: a value placed, a container ended, a refusal.
use Rattle.std.proofs.Common.{◌≡◌, ℕ, zero, suc, ◌+◌, ◌-◌, ◌^◌, ◌<◌, min, List, [], ◌∷◌, ◌++◌, length, Option, Some}
use Rattle.std.proofs.Common.{None, MatchOption, IsSome, option_map, refl, sym, ap, ◌∙◌, subst, arith}
use Rattle.std.specs.declared.cmp.Ordering.TheVariants.{Less}
use Rattle.ciborium_ll.specs.{Bytes.greatest_offset, Head.{IsHead, information, argument_bytes, initial_byte}}
use Rattle.ciborium_ll.specs.{Head.{open_byte, break_byte}, Refusal.{Refusal, semantic, IsAtFront}}
use Rattle.ciborium_ll.proofs.UsableHeads.{information-below}
use Rattle.ciborium_value.specs.{Canonical.key_order, Deterministic.AreRising, Encoding.{encoding, encoded_size}}
use Rattle.ciborium_value.specs.Refuses.{Due, items, keys, values, next_due, IsDue}
use Rattle.ciborium_value.specs.{Refuses.{BeginsContainer, IsInside, Refuses}, Spelling.{Spelling, any, deterministic}}
use Rattle.ciborium_value.specs.{Spelling.{AreInOrder, keys_in}, Tree.Tree, View.{trees_from, tree_pairs_from}}
use Rattle.ciborium_value.specs.inner.Frames.{TreeFrame, array, map, tag, Placed, done, more, placed, closed, with_last}
use Rattle.ciborium_value.specs.{inner.ReadItems.ReadsItem, declared.key_order.KeyOrder.KeyOrder}
use Rattle.ciborium_value.proofs.GoodItems.Introduced.{inside-more, IsNoKey, no-key-order, order-now, never-open}
use Rattle.ciborium_value.proofs.GoodItems.Introduced.{parts_of, reads-container, reads-tag}
use Rattle.ciborium.specs.{inner.Around.{trees_in_turn, map_due, IsAround}, inner.Rules.HasKeyInOrder}
use Rattle.ciborium.specs.{inner.Rules.HasKeyOutOfOrder, inner.ValuesInBytes.IsBreakAt}
use Rattle.ciborium.proofs.Turns.Paired.{in_turn-key, in_turn-value, turns-paired}
use Rattle.ciborium_ll.specs.declared.kind.Kind.TheVariants as kinds
use Rattle.ciborium_value.specs.Tree as trees

abbrev both : Tree → List TreeFrame → Tree × List TreeFrame
both v os = (v, os)

some-both : (v w : Tree) (os us : List TreeFrame) → Some (both v os) ≡ Some (both w us) → (v ≡ w) × (os ≡ us)
some-both v w os us e = let same : both v os ≡ both w us = cc in (ap (λ x. x.0) same, ap (λ x. x.1) same)

-- a break would end the innermost container
abbrev pub EndsHere : List TreeFrame → Type 0
EndsHere os = IsSome (closed os)

-- ---- keys in order

rises-with : (order : KeyOrder) (ps : List (Tree × Tree)) (k : Tree) → AreRising order (keys_in (trees_in_turn ps None))
    → MatchOption (with_last ps k) (Unit {0}) (λ keys. key_order order keys.0 keys.1 ≡ Less) →
    AreRising order (keys_in (trees_in_turn ps (Some k)))
rises-with order [] k h o = tt
rises-with order (p ∷ []) k h o = (o, tt)
rises-with order (p ∷ (q ∷ ps)) k h o = (h.0, rises-with order (q ∷ ps) k h.1 o)

last-rises : (order : KeyOrder) (ps : List (Tree × Tree)) (k a b : Tree) →
    AreRising order (keys_in (trees_in_turn ps (Some k))) → with_last ps k ≡ Some (a, b) → key_order order a b ≡ Less
last-rises order [] k a b h e = absurd cc
last-rises order (p ∷ []) k a b h e = same (p.0, k) (a, b) e h.0
  where
    same : (x y : Tree × Tree) → Some x ≡ Some y → key_order order x.0 x.1 ≡ Less → key_order order y.0 y.1 ≡ Less
    same x y e o = let is : x ≡ y = cc in subst (λ (z : Tree × Tree). key_order order z.0 z.1 ≡ Less) is o
last-rises order (p ∷ (q ∷ ps)) k a b h e = last-rises order (q ∷ ps) k a b h.1 e

last-key : (ps : List (Tree × Tree)) (k x y : Tree) → with_last ps k ≡ Some (x, y) → y ≡ k
last-key [] k x y e = absurd cc
last-key (p ∷ []) k x y e = second (p.0, k) (x, y) e
  where
    second : (u v : Tree × Tree) → Some u ≡ Some v → v.1 ≡ u.1
    second u v f = let same : v ≡ u = cc in ap (λ (z : Tree × Tree). z.1) same
last-key (p ∷ (q ∷ ps)) k x y e = last-key (q ∷ ps) k x y e

-- a head of another major type than 7 is no break
not-break : (m n : ℕ) (h b r : List ℕ) → m < 7 → IsHead h m n → b ≡ h ++ r → ¬ IsAtFront break_byte b
not-break m n h b r lt (w, holds, is) split (s, begins) =
    let info = information-below w n holds in
    let same : initial_byte m (information w n) ∷ (argument_bytes w n ++ r) ≡ break_byte ∷ s =
    sym (split ∙ ap (λ (z : List ℕ). z ++ r) is) ∙ begins in
    let first : initial_byte m (information w n) ≡ break_byte = cc same in
    absurd (omega (arith, first, info, lt))

-- an open container is none either
open-no-break : (m : ℕ) (b r : List ℕ) → m < 7 → b ≡ open_byte m ∷ r → ¬ IsAtFront break_byte b
open-no-break m b r lt e (s, begins) = let first = same-first (open_byte m) break_byte r s (sym e ∙ begins) in
    absurd (omega (arith, first, lt))
  where
    same-first : (x y : ℕ) (r s : List ℕ) → x ∷ r ≡ y ∷ s → x ≡ y
    same-first x y r s e = cc e

container-no-break : {b : List ℕ} {k : ℕ} {r : List ℕ} {w : Due} → BeginsContainer b k r w → ¬ IsAtFront break_byte b
container-no-break {b} {r = r} (BeginsContainer.array n (h, is, len, e)) = not-break 4 n h b r (omega arith) is e
container-no-break {b} {r = r} (BeginsContainer.open_array one e) = open-no-break 4 b r (omega arith) e
container-no-break {b} {r = r} (BeginsContainer.map n (h, is, len, e)) = not-break 5 n h b r (omega arith) is e
container-no-break {b} {r = r} (BeginsContainer.open_map one e) = open-no-break 5 b r (omega arith) e

key-next : (behind : Option ℕ) → next_due (keys (option_map suc behind)) ≡ Some (values behind)
key-next None = refl
key-next (Some n) = refl

-- a part is due where no break ends the container
array-due : (behind : Option ℕ) (vs : List Tree) (os : List TreeFrame) (ys : List ℕ) (q : ℕ) →
    (EndsHere (array vs behind ∷ os) → ¬ IsBreakAt ys q) → IsDue (items (option_map suc behind)) ys q
array-due None vs os ys q h = λ lt begins. h refl (lt, begins)
array-due (Some n) vs os ys q h = omega arith

part-due : (behind : Option ℕ) (key : Option Tree) (ps : List (Tree × Tree)) (os : List TreeFrame) (ys : List ℕ)
    (q : ℕ) → (EndsHere (map ps behind key ∷ os) → ¬ IsBreakAt ys q) → IsDue (map_due behind key) ys q
part-due None None ps os ys q h = λ lt begins. h refl (lt, begins)
part-due (Some n) None ps os ys q h = omega arith
part-due behind (Some k) ps os ys q h = tt

module _ (spelling : Spelling) where
  -- ---- a value is placed

  -- where reading stands behind a value that was placed: a key that waits is still to be judged
  abbrev pub LandsIn : List TreeFrame → ℕ → List ℕ → ℕ → List ℕ → ℕ → Type 0
  LandsIn [] l xs p zs r = ⊥
  LandsIn (array vs b ∷ os) l xs p zs r = (m : ℕ) × IsAround spelling l xs p (array vs b ∷ os) m zs r
  LandsIn (map ps b None ∷ os) l xs p zs r = (m : ℕ) × IsAround spelling l xs p (map ps b None ∷ os) m zs r
  LandsIn (map ps b (Some k) ∷ os) l xs p zs r = (m : ℕ) × (ys : List ℕ) ×
      (q : ℕ) × IsAround spelling l xs p (map ps b None ∷ os) m ys q × ReadsItem spelling (Some m) ys q k zs r
  LandsIn (tag t ∷ os) l xs p zs r = (m : ℕ) × IsAround spelling l xs p (tag t ∷ os) m zs r

  abbrev pub Lands : Placed → ℕ → List ℕ → ℕ → List ℕ → ℕ → Type 0
  Lands (done v) l xs p zs r = ReadsItem spelling (Some l) xs p v zs r
  Lands (more os) l xs p zs r = LandsIn os l xs p zs r

  top : (l : ℕ) (xs : List ℕ) (p m : ℕ) (ys : List ℕ) (q : ℕ) (v : Tree) (zs : List ℕ) (r : ℕ) →
      IsAround spelling l xs p [] m ys q → ReadsItem spelling (Some m) ys q v zs r →
      ReadsItem spelling (Some l) xs p v zs r
  top l xs p m ys q v zs r a i =
      let x : ReadsItem spelling (Some l) ys q v zs r = subst (λ n. ReadsItem spelling (Some n) ys q v zs r) a.0 i in
      let y : ReadsItem spelling (Some l) xs q v zs r = subst (λ b. ReadsItem spelling (Some l) b q v zs r) a.1 x in
      subst (λ n. ReadsItem spelling (Some l) xs n v zs r) a.2 y

  -- an item of an array, or a value behind its key
  part-more : {b : List ℕ} {q m : ℕ} {vs ws : List Tree} {v : Tree} {ys zs : List ℕ} {u r : ℕ} {now next : Due} →
      IsInside spelling b q (Some (suc m)) vs ys u now (Some m) → ReadsItem spelling (Some m) ys u v zs r →
      IsNoKey now → next_due now ≡ Some next → vs ++ (v ∷ []) ≡ ws →
      IsInside spelling b q (Some (suc m)) ws zs r next (Some m)
  part-more {b} {q} {m} {vs} {ws} {v} {ys} {zs} {u} {r} {now} {next} a i other due same =
      subst (λ us. IsInside spelling b q (Some (suc m)) us zs r next (Some m)) same
      (inside-more spelling b q (Some (suc m)) (Some m) vs v ys zs u r now next a i due
      (no-key-order spelling (parts_of spelling a) v other))

  pub landed : (l : ℕ) (xs : List ℕ) (p : ℕ) (os : List TreeFrame) {m : ℕ} {ys : List ℕ} {q : ℕ} {v : Tree}
      {zs : List ℕ} {r : ℕ} → IsAround spelling l xs p os m ys q → ReadsItem spelling (Some m) ys q v zs r →
      Lands (placed os v) l xs p zs r
  landed l xs p [] {m} {ys} {q} {v} {zs} {r} a i = top l xs p m ys q v zs r a i
  landed l xs p (array vs None ∷ os) {m} (bs, b, around, c) i = (m, (bs, b, around, part-more c i tt refl refl))
  landed l xs p (array vs (Some (suc n)) ∷ os) {m} (bs, b, around, c) i =
      (m, (bs, b, around, part-more c i tt refl refl))
  landed l xs p (array vs (Some zero) ∷ os) {m} {v = v} {zs} {r} (bs, b, around, c) i = landed l xs p os around
      (reads-container spelling bs b (Some (suc m)) (Some m) (vs ++ v ∷ []) zs zs r r (items (Some 0))
      (part-more c i tt refl refl) (refl, refl, refl))
  landed l xs p (map ps behind None ∷ os) {m} {ys} {q} a i = (m, ys, q, a, i)
  landed l xs p (map ps None (Some k) ∷ os) {m} {v = v} (bs, b, around, c) i =
      (m, (bs, b, around, part-more c i tt refl (in_turn-value ps k v)))
  landed l xs p (map ps (Some (suc n)) (Some k) ∷ os) {m} {v = v} (bs, b, around, c) i =
      (m, (bs, b, around, part-more c i tt refl (in_turn-value ps k v)))
  landed l xs p (map ps (Some zero) (Some k) ∷ os) {m} {v = v} {zs} {r} (bs, b, around, c) i =
      let ws : List (Tree × Tree) = ps ++ (k, v) ∷ [] in
      landed l xs p os around (subst (λ ts. ReadsItem spelling (Some (suc m)) bs b (trees.map ts) zs r)
      (turns-paired ws) (reads-container spelling bs b (Some (suc m)) (Some m) (trees_in_turn ws None) zs zs r r
      (keys (Some 0)) (part-more c i tt refl (in_turn-value ps k v)) (refl, refl, refl)))
  landed l xs p (tag t ∷ os) {m} {ys} {q} {v} {zs} {r} (bs, b, around, (a, never)) i =
      landed l xs p os around (reads-tag spelling bs b t (Some (suc m)) (Some m) ys zs q r v a never refl i)

  -- in order, the key goes on
  pub kept : (l : ℕ) (xs : List ℕ) (p : ℕ) (os : List TreeFrame) (zs : List ℕ) (r : ℕ) → LandsIn os l xs p zs r →
      HasKeyInOrder spelling os → (m : ℕ) × IsAround spelling l xs p os m zs r
  kept l xs p [] zs r a o = absurd a
  kept l xs p (array vs b ∷ os) zs r a o = a
  kept l xs p (map ps b None ∷ os) zs r a o = a
  kept l xs p (map ps behind (Some k) ∷ os) zs r (m, ys, q, (bs, b, around, c), i) o = (
    m,
    (
      bs,
      b,
      around,
      subst (λ us. IsInside spelling bs b (Some (suc m)) us zs r (values behind) (Some m)) (in_turn-key ps k)
          (inside-more spelling bs b (Some (suc m)) (Some m) (trees_in_turn ps None) k ys zs q r
          (keys (option_map suc behind)) (values behind) c i (key-next behind)
          (in-order spelling (order-now spelling (parts_of spelling c)) o)),
    ),
  )
    where
      in-order : (s : Spelling) → AreInOrder s (keys_in (trees_in_turn ps None)) →
          HasKeyInOrder s (map ps behind (Some k) ∷ os) → AreInOrder s (keys_in (trees_in_turn ps None ++ k ∷ []))
      in-order any h o = tt
      in-order (deterministic order) h o = subst (λ us. AreRising order (keys_in us)) (sym (in_turn-key ps k))
          (rises-with order ps k h o)
  kept l xs p (tag t ∷ os) zs r a o = a

  -- ---- a break ends a container

  -- the container that the break ends, with what is unfinished around it
  abbrev pub Closes : ℕ → List ℕ → ℕ → List TreeFrame → Tree → List ℕ → ℕ → Type 0
  Closes l xs p os v zs r = (m : ℕ) × (ys : List ℕ) × (q : ℕ) × IsAround spelling l xs p os m ys q ×
      ReadsItem spelling (Some m) ys q v zs r

  closes-as : (l : ℕ) (xs : List ℕ) (p : ℕ) {os us : List TreeFrame} {m : ℕ} {ys : List ℕ} {q : ℕ} {t v : Tree}
      {zs : List ℕ} {r : ℕ} → (t ≡ v) × (os ≡ us) → IsAround spelling l xs p os m ys q →
      ReadsItem spelling (Some m) ys q t zs r → Closes l xs p us v zs r
  closes-as l xs p {m = m} {ys} {q} {zs = zs} {r} same a i = (
    m,
    ys,
    q,
    subst (λ o. IsAround spelling l xs p o m ys q) same.1 a,
    subst (λ x. ReadsItem spelling (Some m) ys q x zs r) same.0 i,
  )

  pub closed-item : (l : ℕ) (xs : List ℕ) (p : ℕ) (os us : List TreeFrame) (m : ℕ) (ys : List ℕ) (q : ℕ) (v : Tree)
      (zs : List ℕ) → IsAround spelling l xs p os m ys q → closed os ≡ Some (v, us) → ys ≡ break_byte ∷ zs →
      q < greatest_offset → Closes l xs p us v zs (q + 1)
  closed-item l xs p [] us m ys q v zs a e f g = absurd cc
  closed-item l xs p (array vs None ∷ os) us m ys q v zs (bs, b, around, c) e f g =
      closes-as l xs p (some-both (trees.array (trees_from vs)) v os us e) around
      (reads-container spelling bs b (Some (suc m)) (Some m) vs ys zs q (q + 1) (items None) c
      (f, refl, omega (arith, g)))
  closed-item l xs p (array vs (Some n) ∷ os) us m ys q v zs a e f g = absurd cc
  closed-item l xs p (tag t ∷ os) us m ys q v zs a e f g = absurd cc
  closed-item l xs p (map ps None None ∷ os) us m ys q v zs (bs, b, around, c) e f g =
      closes-as l xs p (some-both (trees.map (tree_pairs_from ps)) v os us e) around
      (subst (λ ts. ReadsItem spelling (Some (suc m)) bs b (trees.map ts) zs (q + 1)) (turns-paired ps)
      (reads-container spelling bs b (Some (suc m)) (Some m) (trees_in_turn ps None) ys zs q (q + 1) (keys None) c
      (f, refl, omega (arith, g))))
  closed-item l xs p (map ps None (Some k) ∷ os) us m ys q v zs a e f g = absurd cc
  closed-item l xs p (map ps (Some n) key ∷ os) us m ys q v zs a e f g = absurd cc

  -- ---- a refusal

  pub refused-turn : (l : ℕ) (xs : List ℕ) (p : ℕ) (os : List TreeFrame) {m : ℕ} {ys : List ℕ} {q : ℕ} {e : Refusal} →
      IsAround spelling l xs p os m ys q → Refuses spelling ys q (Some m) e → (EndsHere os → ¬ IsBreakAt ys q) →
      Refuses spelling xs p (Some l) e
  refused-turn l xs p [] {m} {ys} {q} {e} a f h =
      let x : Refuses spelling ys q (Some l) e = subst (λ n. Refuses spelling ys q (Some n) e) a.0 f in
      let y : Refuses spelling xs q (Some l) e = subst (λ b. Refuses spelling b q (Some l) e) a.1 x in
      subst (λ n. Refuses spelling xs n (Some l) e) a.2 y
  refused-turn l xs p (array vs behind ∷ os) {m} {ys} {q} (bs, b, around, c) f h = refused-turn l xs p os around
      (Refuses.part vs ys q (items (option_map suc behind)) (Some m) c (array-due behind vs os ys q h) f)
      (λ ends break. let i = parts_of spelling c in container-no-break i.begins break.1)
  refused-turn l xs p (map ps behind key ∷ os) {m} {ys} {q} (bs, b, around, c) f h = refused-turn l xs p os around
      (Refuses.part (trees_in_turn ps key) ys q (map_due behind key) (Some m) c (part-due behind key ps os ys q h) f)
      (λ ends break. let i = parts_of spelling c in container-no-break i.begins break.1)
  refused-turn l xs p (tag t ∷ os) {m} {ys} {q} (bs, b, around, (a, never)) f h = refused-turn l xs p os around
      (Refuses.tagged t ys q (Some m) a never refl f)
      (λ ends break. not-break 6 t a.tag.0 bs ys (omega arith) a.tag.1 a.tag.3 break.1)

-- out of order, a key refuses
pub disordered : (spelling : Spelling) (l : ℕ) (xs : List ℕ) (p : ℕ) (os : List TreeFrame) (zs : List ℕ) (r at : ℕ) →
    LandsIn spelling os l xs p zs r → HasKeyOutOfOrder spelling os r at →
    Refuses spelling xs p (Some l) (semantic at kinds.KeyOrder)
disordered any l xs p os zs r at a o = absurd o
disordered (deterministic order) l xs p [] zs r at a o = absurd a
disordered (deterministic order) l xs p (array vs b ∷ os) zs r at a (x, y, is, never, here) = absurd cc
disordered (deterministic order) l xs p (map ps b None ∷ os) zs r at a (x, y, is, never, here) = absurd cc
disordered (deterministic order) l xs p (tag t ∷ os) zs r at a (x, y, is, never, here) = absurd cc
disordered (deterministic order) l xs p (map ps behind (Some k) ∷ os) zs r at (m, ys, q, (bs, b, around, c), i)
    (x, y, is, never, here) =
    let end = i.at in
    let fits = i.read.4 in
    let len : length i.taken ≡ length (encoding k) = ap length i.read.5.0 in
    let size : encoded_size y ≡ min (length (encoding k)) (2 ^ 64 - 1) = ap encoded_size (last-key ps k x y is) in
    let place : at ≡ q = omega (arith, here, size, end, fits, len) in
    refused-turn (deterministic order) l xs p os around
    (subst (λ j. Refuses (deterministic order) bs b (Some (suc m)) (semantic j kinds.KeyOrder)) (sym place)
    (Refuses.key_order (trees_in_turn ps None) ys i.taken zs k q (keys (option_map suc behind)) (Some m) c
    (due behind c) i.read i.split wrong))
    (λ ends break. let i = parts_of (deterministic order) c in container-no-break i.begins break.1)
  where
    due : (behind : Option ℕ) → IsInside (deterministic order) bs b (Some (suc m))
        (trees_in_turn ps None) ys q (keys (option_map suc behind)) (Some m) → IsDue (keys (option_map suc behind)) ys q
    due None c = absurd (never-open order bs b (Some (suc m)) (trees_in_turn ps None) ys q (Some m)
        (parts_of (deterministic order) c))
    due (Some n) c = omega arith

    wrong : AreRising order (keys_in (trees_in_turn ps None ++ k ∷ [])) → ⊥
    wrong h = never (last-rises order ps k x y (subst (λ us. AreRising order (keys_in us)) (in_turn-key ps k) h) is)
