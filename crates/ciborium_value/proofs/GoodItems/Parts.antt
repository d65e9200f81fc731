-- The parts of containers: what is due, limits, and lists of what is read as items and as encodings.
use Rattle.std.proofs.Common.{◌≡◌, ℕ, zero, suc, ◌+◌, ◌≤◌, max, List, [], ◌∷◌, ◌++◌, length, Option, Some, None}
use Rattle.std.proofs.Common.{option_and_then, refl, sym, ap, ◌∙◌, subst, arith, length-append, append_assoc}
use Rattle.std.{proofs.Common.{append-nil, true, ◌&&◌}, specs.declared.cmp.Ordering.{Ordering, TheVariants.Less}}
use Rattle.ciborium_ll.specs.{Bytes.greatest_offset, Item.{Items, no_items, item, Pairs, no_pairs, pair, items_count}}
use Rattle.ciborium_ll.specs.{Item.pairs_count, Spells.{SpellsItems, SpellsPairs}}
use Rattle.ciborium_value.proofs.GoodItems.{Accepted.accepted, Reader.{Answer, levels, is_less, rising, in_order}}
use Rattle.ciborium_value.specs.{Canonical.key_order, Counts.{trees_count, tree_pairs_count}, Deterministic.AreRising}
use Rattle.ciborium_value.specs.{Deterministic.{HaveRisingKeys, PairsHaveRisingKeys, keys_of}, Encoding.encoding}
use Rattle.ciborium_value.specs.{Encoding.{items_of, pairs_of, items_bytes, pairs_bytes}, Folded.{folded, trees_folded}}
use Rattle.ciborium_value.specs.{Folded.tree_pairs_folded, Meaning.{meaning, items_meaning, pairs_meaning, trees_more}}
use Rattle.ciborium_value.specs.{Meaning.tree_pairs_more, Nesting.{items_nesting, pairs_nesting, Limit, IsWithin}}
use Rattle.ciborium_value.specs.{Nesting.IsOneLess, ProperTrees.{AreProperTrees, AreProperTreePairs}, Refuses.Due}
use Rattle.ciborium_value.specs.Refuses.{items, keys, values, next_due, keys_among, HasGoodHead}
use Rattle.ciborium_value.specs.{Refuses.BeginsContainer, Spelling.{Spelling, any, deterministic, IsReadAs}}
use Rattle.ciborium_value.specs.{Spelling.{AreInOrder, keys_in}, Tree.{Tree, Trees, no_trees, tree, TreePairs}}
use Rattle.ciborium_value.specs.{Tree.{no_tree_pairs, tree_pair}, View.trees_from}
use Rattle.ciborium_value.specs.{declared.key_order.KeyOrder.KeyOrder, inner.ReadItems.pairs_in}
use Rattle.ciborium_value.specs.lemmas.{Descriptions.both, ReadsBackParts.{within-left, within-right}}

-- ---- limits

pub within-max : (l : Limit) (m n : ℕ) → IsWithin l m → IsWithin l n → IsWithin l (max m n)
within-max None m n h k = tt
within-max (Some l) m n h k = omega arith

pub within-zero : (l : Limit) → IsWithin l 0
within-zero None = tt
within-zero (Some l) = omega arith

-- the limit below, for what nests one level
pub lower : (l : Limit) (n : ℕ) → IsWithin l (suc n) → (m : Limit) × IsWithin m n × IsOneLess l m
lower None n h = (None, tt, tt)
lower (Some zero) n h = let never : ⊥ = omega arith in absurd never
lower (Some (suc l)) n h = (Some l, omega arith, refl)

pub raise : (l m : Limit) (n : ℕ) → IsOneLess l m → IsWithin m n → IsWithin l (suc n)
raise None m n h k = tt
raise (Some l) None n h k = absurd h
raise (Some l) (Some m) n h k = omega arith

pub levels-below : {A : Type 0} (l m : Limit) (f : Limit → Answer A) → IsOneLess l m → levels l f ≡ f m
levels-below None None f h = refl
levels-below (Some zero) (Some m) f h = let never : ⊥ = omega arith in absurd never
levels-below (Some (suc l)) (Some m) f h = let e : l ≡ m = omega arith in ap (λ k. f (Some k)) e
levels-below u v f h = absurd h

-- ---- what is due

-- what is due behind some parts
abbrev pub due_after : Due → List Tree → Option Due
due_after w [] = Some w
due_after w (v ∷ vs) = option_and_then (λ next. due_after next vs) (next_due w)

-- the bytes s, whose first is at offset p, are read as these trees, one behind the other
abbrev pub AreReadAs : Spelling → List ℕ → ℕ → Limit → List Tree → Type 0
AreReadAs spelling s p l [] = s ≡ []
AreReadAs spelling s p l (v ∷ vs) = (a : List ℕ) × (b : List ℕ) × IsReadAs spelling a p l v ×
    AreReadAs spelling b (p + length a) l vs × (s ≡ a ++ b)

-- the parts of an array or map, taken together: behind its head of `size` bytes stand the parts `good`,
-- of which `start` was due first
pub record HasParts (spelling : Spelling) (b : List ℕ) (p : ℕ) (l : Limit) (vs : List Tree)
    (r : List ℕ) (q : ℕ) (now : Due) (below : Limit) : Type 0 where
  pub size : ℕ
  pub good : List ℕ
  pub start : Due
  pub head : HasGoodHead spelling b p
  pub begins : BeginsContainer b size (good ++ r) start
  pub level : IsOneLess l below
  pub parts : AreReadAs spelling good (p + size) below vs
  pub in_order : AreInOrder spelling (keys_among start vs)
  pub due : due_after start vs ≡ Some now
  pub at : q ≡ p + size + length good
  pub fits : q ≤ greatest_offset

-- some parts are due where more than none follow
pub due-first : (now : Due) (v : Tree) (vs : List Tree) (next : Due) → due_after now (v ∷ vs) ≡ Some next → (w : Due) ×
    (next_due now ≡ Some w) × (due_after w vs ≡ Some next)
due-first now v vs next h = by (next_due now) h
  where
    by : (o : Option Due) → option_and_then (λ w. due_after w vs) o ≡ Some next → (w : Due) × (o ≡ Some w) ×
        (due_after w vs ≡ Some next)
    by None k = absurd cc
    by (Some w) k = (w, refl, k)

-- one part more
pub due-more : (start : Due) (vs : List Tree) (v : Tree) (now next : Due) → due_after start vs ≡ Some now →
    next_due now ≡ Some next → due_after start (vs ++ (v ∷ [])) ≡ Some next
due-more start [] v now next h e =
    let same : start ≡ now = cc in ap (λ w. option_and_then (λ n. Some n) (next_due w)) same ∙
    ap (option_and_then (λ n. Some n)) e
due-more start (u ∷ vs) v now next h e = by (next_due start) (λ w k. due-more w vs v now next k e) h
  where
    by : (o : Option Due) → ((w : Due) → due_after w vs ≡ Some now → due_after w (vs ++ (v ∷ [])) ≡ Some next) →
        option_and_then (λ n. due_after n vs) o ≡ Some now →
        option_and_then (λ n. due_after n (vs ++ (v ∷ []))) o ≡ Some next
    by None f k = absurd cc
    by (Some w) f k = f w k

pub counted-items : (vs : List Tree) (n : ℕ) → due_after (items (Some n)) vs ≡ Some (items (Some 0)) → length vs ≡ n
counted-items [] n h = let same : n ≡ 0 = cc in sym same
counted-items (v ∷ vs) zero h = absurd cc
counted-items (v ∷ vs) (suc n) h = ap suc (counted-items vs n h)

-- keys and values in turn, a value last
abbrev pub ArePaired : List Tree → Type 0
ArePaired [] = Unit {0}
ArePaired (k ∷ []) = ⊥
ArePaired (k ∷ (v ∷ vs)) = ArePaired vs

pub open-pairs : (vs : List Tree) → due_after (keys None) vs ≡ Some (keys None) → ArePaired vs
open-pairs [] h = tt
open-pairs (k ∷ []) h = absurd cc
open-pairs (k ∷ (v ∷ vs)) h = open-pairs vs h

pub counted-pairs : (vs : List Tree) (n : ℕ) → due_after (keys (Some n)) vs ≡ Some (keys (Some 0)) → ArePaired vs ×
    (tree_pairs_count (pairs_in vs) ≡ n)
counted-pairs [] n h = let same : n ≡ 0 = cc in (tt, sym same)
counted-pairs (k ∷ vs) zero h = absurd cc
counted-pairs (k ∷ []) (suc n) h = absurd cc
counted-pairs (k ∷ (v ∷ vs)) (suc n) h = let r = counted-pairs vs n h in (r.0, ap suc r.1)

-- ---- trees as their parts

abbrev pub elements : Trees → List Tree
elements no_trees = []
elements (tree v vs) = v ∷ elements vs

abbrev pub turns : TreePairs → List Tree
turns no_tree_pairs = []
turns (tree_pair k v ps) = k ∷ (v ∷ turns ps)

pub elements-in : (ts : Trees) → trees_from (elements ts) ≡ ts
elements-in no_trees = refl
elements-in (tree v vs) = ap (tree v) (elements-in vs)

pub turns-in : (ps : TreePairs) → pairs_in (turns ps) ≡ ps
turns-in no_tree_pairs = refl
turns-in (tree_pair k v ps) = ap (tree_pair k v) (turns-in ps)

pub elements-due : (ts : Trees) → due_after (items (Some (trees_count ts))) (elements ts) ≡ Some (items (Some 0))
elements-due no_trees = refl
elements-due (tree v vs) = elements-due vs

pub open-elements-due : (ts : Trees) → due_after (items None) (elements ts) ≡ Some (items None)
open-elements-due no_trees = refl
open-elements-due (tree v vs) = open-elements-due vs

pub turns-due : (ps : TreePairs) → due_after (keys (Some (tree_pairs_count ps))) (turns ps) ≡ Some (keys (Some 0))
turns-due no_tree_pairs = refl
turns-due (tree_pair k v ps) = turns-due ps

pub open-turns-due : (ps : TreePairs) → due_after (keys None) (turns ps) ≡ Some (keys None)
open-turns-due no_tree_pairs = refl
open-turns-due (tree_pair k v ps) = open-turns-due ps

pub keys-turns : (ps : TreePairs) → keys_in (turns ps) ≡ keys_of ps
keys-turns no_tree_pairs = refl
keys-turns (tree_pair k v ps) = ap (λ (ks : List Tree). k ∷ ks) (keys-turns ps)

pub keys-paired : (vs : List Tree) → ArePaired vs → keys_of (pairs_in vs) ≡ keys_in vs
keys-paired [] h = refl
keys-paired (k ∷ []) h = absurd h
keys-paired (k ∷ (v ∷ vs)) h = ap (λ (ks : List Tree). k ∷ ks) (keys-paired vs h)

-- a value changes no keys
pub keys_in-value : (m n vs v : _) → due_after (keys m) vs ≡ Some (values n) → keys_in (vs ++ (v ∷ [])) ≡ keys_in vs
keys_in-value m n (k ∷ []) v h = refl
keys_in-value None n (k ∷ (u ∷ vs)) v h = ap (λ (ks : List Tree). k ∷ ks) (keys_in-value None n vs v h)
keys_in-value (Some (suc m)) n (k ∷ (u ∷ vs)) v h = ap (λ (ks : List Tree). k ∷ ks) (keys_in-value (Some m) n vs v h)
keys_in-value u n w v h = absurd cc

-- each part of one container leaves the same keys among all
pub same-keys : (now next : Due) (us : List Tree) → next_due now ≡ Some next → keys_among next us ≡ keys_among now us
same-keys (items None) (items n) us e = refl
same-keys (items (Some (suc m))) (items n) us e = refl
same-keys (keys None) (values n) us e = refl
same-keys (keys (Some (suc m))) (values n) us e = refl
same-keys (values m) (keys n) us e = refl
same-keys u v us e = absurd cc

pub keys-from : (start now vs us : _) → due_after start vs ≡ Some now → keys_among now us ≡ keys_among start us
keys-from start now [] us h = let same : start ≡ now = cc in ap (λ w. keys_among w us) (sym same)
keys-from start now (v ∷ vs) us h =
    let one = due-first start v vs now h in keys-from one.0 now vs us one.2 ∙ same-keys start one.0 us one.1

-- ---- order of keys

pub empty-order : (s : Spelling) → AreInOrder s []
empty-order any = tt
empty-order (deterministic order) = tt

less-is : (o : Ordering) → is_less o ≡ true → o ≡ Less
less-is Less h = refl
less-is u h = absurd cc

pub in_order-is : (spelling : Spelling) (ks : List Tree) → in_order spelling ks ≡ true → AreInOrder spelling ks
in_order-is (deterministic order) (k ∷ (j ∷ ks)) h = let a = both _ _ h in
    (less-is (key_order order k j) a.0, in_order-is (deterministic order) (j ∷ ks) a.1)
in_order-is u v h = tt

pub is-in_order : (spelling : Spelling) (ks : List Tree) → AreInOrder spelling ks → in_order spelling ks ≡ true
is-in_order (deterministic order) (k ∷ (j ∷ ks)) h = ap (λ o. is_less o && rising order (j ∷ ks)) h.0 ∙
    is-in_order (deterministic order) (j ∷ ks) h.1
is-in_order u v h = refl

rising-before : (order vs ws : _) → AreRising order (keys_in (vs ++ ws)) → AreRising order (keys_in vs)
rising-before order (k ∷ (v ∷ (j ∷ vs))) ws h = (h.0, rising-before order (j ∷ vs) ws h.1)
rising-before order u ws h = tt

-- the parts before others are in order
pub order-before : (spelling : Spelling) (start : Due) (vs ws : List Tree) →
    AreInOrder spelling (keys_among start (vs ++ ws)) → AreInOrder spelling (keys_among start vs)
order-before (deterministic order) (keys n) vs ws h = rising-before order vs ws h
order-before (deterministic order) (values n) vs ws h = rising-before order vs ws h
order-before u v w ws h = tt

-- ---- lists of what is read, one more

pub read-more : (spelling vs s t v p l : _) → AreReadAs spelling s p l vs → IsReadAs spelling t (p + length s) l v →
    AreReadAs spelling (s ++ t) p l (vs ++ (v ∷ []))
read-more spelling [] s t v p l h k =
    let none : length s ≡ 0 = ap length h in (
      t,
      [],
      subst (λ q. IsReadAs spelling t q l v) (omega (arith, none)) k,
      refl,
      ap (λ (c : List ℕ). c ++ t) h ∙ sym (append-nil t),
    )
read-more spelling (w ∷ vs) s t v p l (a, b, first, rest, e) k =
    let len : length s ≡ length a + length b = ap length e ∙ length-append a b in (
      a,
      b ++ t,
      first,
      read-more spelling vs b t v (p + length a) l rest (subst (λ q. IsReadAs spelling t q l v) (omega (arith, len)) k),
      ap (λ (c : List ℕ). c ++ t) e ∙ append_assoc a b t,
    )

-- ---- as items

pub items-read : (spelling : Spelling) (vs : List Tree) (s : List ℕ) (p : ℕ) (l : Limit) →
    AreReadAs spelling s p l vs → (is : Items) × SpellsItems s is × (items_meaning is ≡ Some (trees_from vs)) ×
    IsWithin l (items_nesting is) × (items_count is ≡ length vs)
items-read spelling [] s p l h = (no_items, h, refl, within-zero l, refl)
items-read spelling (v ∷ vs) s p l (a, b, (i, spelled, means, nests, fits, so), rest, e) =
    let r = items-read spelling vs b (p + length a) l rest in (
      item i r.0,
      (a, b, spelled, r.1, e),
      ap (λ o. trees_more o (items_meaning r.0)) means ∙ ap (trees_more (Some v)) r.2,
      within-max l _ _ nests r.3,
      ap suc r.4,
    )

pub pairs-read : (spelling : Spelling) (vs : List Tree) (s : List ℕ) (p : ℕ) (l : Limit) → ArePaired vs →
    AreReadAs spelling s p l vs → (ps : Pairs) × SpellsPairs s ps × (pairs_meaning ps ≡ Some (pairs_in vs)) ×
    IsWithin l (pairs_nesting ps) × (pairs_count ps ≡ tree_pairs_count (pairs_in vs))
pairs-read spelling [] s p l even h = (no_pairs, h, refl, within-zero l, refl)
pairs-read spelling (k ∷ []) s p l even h = absurd even
pairs-read spelling (k ∷ (v ∷ vs)) s p l even
    (a, b, (i, s1, m1, n1, f1, so), (c, d, (j, s2, m2, n2, f2, then), rest, f), e) =
    let r = pairs-read spelling vs d (p + length a + length c) l even rest in (
      pair i j r.0,
      (a, c, d, s1, s2, r.1, e ∙ ap (λ (z : List ℕ). a ++ z) f),
      ap (λ o. tree_pairs_more o (meaning j) (pairs_meaning r.0)) m1 ∙
          ap (λ o. tree_pairs_more (Some k) o (pairs_meaning r.0)) m2 ∙ ap (tree_pairs_more (Some k) (Some v)) r.2,
      within-max l _ _ (within-max l _ _ n1 n2) r.3,
      ap suc r.4,
    )

trees-some : (m : Option Tree) (ms : Option Trees) (ts : Trees) → trees_more m ms ≡ Some ts → (v : Tree) ×
    (vs : Trees) × (m ≡ Some v) × (ms ≡ Some vs) × (ts ≡ tree v vs)
trees-some (Some v) (Some vs) ts e = (v, vs, refl, refl, cc)
trees-some u v ts e = absurd cc

pairs-some : (m n : Option Tree) (ms : Option TreePairs) (ts : TreePairs) → tree_pairs_more m n ms ≡ Some ts →
    (k : Tree) × (v : Tree) × (ps : TreePairs) × (m ≡ Some k) × (n ≡ Some v) × (ms ≡ Some ps) × (ts ≡ tree_pair k v ps)
pairs-some (Some k) (Some v) (Some ps) ts e = (k, v, ps, refl, refl, refl, cc)
pairs-some u v w ts e = absurd cc

pub read-items : (is ts s p l : _) → SpellsItems s is → items_meaning is ≡ Some ts → IsWithin l (items_nesting is) →
    p + length s ≤ greatest_offset → AreReadAs any s p l (elements ts) × (items_count is ≡ trees_count ts)
read-items no_items ts s p l h means nests fits =
    let none : no_trees ≡ ts = cc in
    subst (λ us. AreReadAs any s p l (elements us) × (0 ≡ trees_count us)) none (h, refl)
read-items (item i is) ts s p l (a, b, spelled, rest, e) means nests fits =
    let m = trees-some (meaning i) (items_meaning is) ts means in
    let len : length s ≡ length a + length b = ap length e ∙ length-append a b in
    let r = read-items is m.1 b (p + length a) l rest m.3 (within-right l _ _ nests) (omega (arith, len, fits)) in
    subst (λ us. AreReadAs any s p l (elements us) × (suc (items_count is) ≡ trees_count us)) (sym m.4)
    ((a, b, (i, spelled, m.2, within-left l _ _ nests, omega (arith, len, fits), tt), r.0, e), ap suc r.1)

pub read-pairs : (ps ts s p l : _) → SpellsPairs s ps → pairs_meaning ps ≡ Some ts → IsWithin l (pairs_nesting ps) →
    p + length s ≤ greatest_offset → AreReadAs any s p l (turns ts) × (pairs_count ps ≡ tree_pairs_count ts)
read-pairs no_pairs ts s p l h means nests fits =
    let none : no_tree_pairs ≡ ts = cc in
    subst (λ us. AreReadAs any s p l (turns us) × (0 ≡ tree_pairs_count us)) none (h, refl)
read-pairs (pair i j ps) ts s p l (a, b, c, s1, s2, rest, e) means nests fits =
    let m = pairs-some (meaning i) (meaning j) (pairs_meaning ps) ts means in
    let l1 : length s ≡ length a + length (b ++ c) = ap length e ∙ length-append a (b ++ c) in
    let l2 : length (b ++ c) ≡ length b + length c = length-append b c in
    let both = within-left l _ _ nests in
    let r = read-pairs ps m.2 c (p + length a + length b) l rest m.5 (within-right l _ _ nests)
    (omega (arith, l1, l2, fits)) in
    subst (λ us. AreReadAs any s p l (turns us) × (suc (pairs_count ps) ≡ tree_pairs_count us)) (sym m.6) (
      (
        a,
        b ++ c,
        (i, s1, m.3, within-left l _ _ both, omega (arith, l1, fits), tt),
        (b, c, (j, s2, m.4, within-right l _ _ both, omega (arith, l1, l2, fits), tt), r.0, refl),
        e,
      ),
      ap suc r.1,
    )

-- ---- as encodings

module _ (order : KeyOrder) where
  -- what the trees of deterministic encodings in a row have in common
  abbrev pub AreAllowed : Limit → Trees → Type 0
  AreAllowed l ts = AreProperTrees ts × (trees_folded ts ≡ Some ts) × HaveRisingKeys order ts ×
      IsWithin l (items_nesting (items_of ts))

  abbrev pub PairsAreAllowed : Limit → TreePairs → Type 0
  PairsAreAllowed l ps = AreProperTreePairs ps × (tree_pairs_folded ps ≡ Some ps) × PairsHaveRisingKeys order ps ×
      IsWithin l (pairs_nesting (pairs_of ps))

  pub trees-written : (vs : List Tree) (s : List ℕ) (p : ℕ) (l : Limit) → AreReadAs (deterministic order) s p l vs →
      (s ≡ items_bytes (items_of (trees_from vs))) × HaveRisingKeys order (trees_from vs) ×
      (items_count (items_of (trees_from vs)) ≡ length vs)
  trees-written [] s p l h = (h, tt, refl)
  trees-written (v ∷ vs) s p l (a, b, (i, spelled, means, nests, fits, (bytes, rises)), rest, e) =
      let r = trees-written vs b (p + length a) l rest in (
        e ∙ ap (λ (z : List ℕ). z ++ b) bytes ∙ ap (λ (z : List ℕ). encoding v ++ z) r.0,
        (rises, r.1),
        ap suc r.2,
      )

  pub pairs-written : (vs : List Tree) (s : List ℕ) (p : ℕ) (l : Limit) →
      ArePaired vs → AreReadAs (deterministic order) s p l vs → (s ≡ pairs_bytes (pairs_of (pairs_in vs))) ×
      PairsHaveRisingKeys order (pairs_in vs) × (pairs_count (pairs_of (pairs_in vs)) ≡ tree_pairs_count (pairs_in vs))
  pairs-written [] s p l even h = (h, tt, refl)
  pairs-written (k ∷ []) s p l even h = absurd even
  pairs-written (k ∷ (v ∷ vs)) s p l even
      (a, b, (i, s1, m1, n1, f1, (b1, r1)), (c, d, (j, s2, m2, n2, f2, (b2, r2)), rest, f), e) =
      let r = pairs-written vs d (p + length a + length c) l even rest in (
        e ∙ ap (λ (z : List ℕ). z ++ b) b1 ∙ ap (λ (z : List ℕ). encoding k ++ z)
            (f ∙ ap (λ (z : List ℕ). z ++ d) b2 ∙ ap (λ (z : List ℕ). encoding v ++ z) r.0),
        (r1, r2, r.1),
        ap suc r.2,
      )

  more-folds : (m : Option Tree) (ms : Option Trees) (v : Tree) (vs : Trees) → trees_more m ms ≡ Some (tree v vs) →
      (m ≡ Some v) × (ms ≡ Some vs)
  more-folds (Some w) (Some ws) v vs e = (cc, cc)
  more-folds u w v vs e = absurd cc

  pairs-fold : (m n : Option Tree) (ms : Option TreePairs) (k v : Tree) (ps : TreePairs) →
      tree_pairs_more m n ms ≡ Some (tree_pair k v ps) → (m ≡ Some k) × (n ≡ Some v) × (ms ≡ Some ps)
  pairs-fold (Some j) (Some w) (Some qs) k v ps e = (cc, cc, cc)
  pairs-fold u w x k v ps e = absurd cc

  pub written-trees : (ts p l : _) → AreAllowed l ts → p + length (items_bytes (items_of ts)) ≤ greatest_offset →
      AreReadAs (deterministic order) (items_bytes (items_of ts)) p l (elements ts)
  written-trees no_trees p l h fits = refl
  written-trees (tree v ts) p l (proper, folds, rises, nests) fits =
      let m = more-folds (folded v) (trees_folded ts) v ts folds in
      let b : List ℕ = items_bytes (items_of ts) in
      let len : length (encoding v ++ b) ≡ length (encoding v) + length b = length-append (encoding v) b in (
        encoding v,
        b,
        accepted order (encoding v) p l v (refl, record { proper = proper.0; folds = m.0; rises = rises.0 })
            (within-left l _ _ nests) (omega (arith, len, fits)),
        written-trees ts (p + length (encoding v)) l
            (proper.1, m.1, rises.1, within-right l _ _ nests) (omega (arith, len, fits)),
        refl,
      )

  pub written-pairs : (ps p l : _) → PairsAreAllowed l ps → p + length (pairs_bytes (pairs_of ps)) ≤ greatest_offset →
      AreReadAs (deterministic order) (pairs_bytes (pairs_of ps)) p l (turns ps)
  written-pairs no_tree_pairs p l h fits = refl
  written-pairs (tree_pair k v ps) p l (proper, folds, rises, nests) fits =
      let m = pairs-fold (folded k) (folded v) (tree_pairs_folded ps) k v ps folds in
      let b : List ℕ = pairs_bytes (pairs_of ps) in
      let l1 : length (encoding k ++ (encoding v ++ b)) ≡ length (encoding k) + length (encoding v ++ b) =
      length-append (encoding k) (encoding v ++ b) in
      let l2 : length (encoding v ++ b) ≡ length (encoding v) + length b = length-append (encoding v) b in
      let both = within-left l _ _ nests in (
        encoding k,
        encoding v ++ b,
        accepted order (encoding k) p l k (refl, record { proper = proper.0; folds = m.0; rises = rises.0 })
            (within-left l _ _ both) (omega (arith, l1, fits)),
        (
          encoding v,
          b,
          accepted order (encoding v) (p + length (encoding k)) l v
              (refl, record { proper = proper.1; folds = m.1; rises = rises.1 }) (within-right l _ _ both)
              (omega (arith, l1, l2, fits)),
          written-pairs ps (p + length (encoding k) + length (encoding v)) l
              (proper.2, m.2, rises.2, within-right l _ _ nests) (omega (arith, l1, l2, fits)),
          refl,
        ),
        refl,
      )
