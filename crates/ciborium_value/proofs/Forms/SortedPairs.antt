-- Pairs sorted by their keys: in whatever order they were given, and refused where two keys tie.
use Rattle.std.proofs.Common.{◌≡◌, ◌⊎◌, inl, inr, refl, sym, ap, ◌∙◌, Ordering, Less, Equal, Greater, is_eq, is_lt}
use Rattle.std.proofs.{Common.{true, false, length}, lemmas.Cmp.{nat_cmp_total, tied_itself}}
use Rattle.std.specs.{FinMap.{nat_cmp-IsAntisymmetric, slice_cmp-IsAntisymmetric}, Ordering.{nat_cmp, ordering_reverse}}
use Rattle.std.specs.Ordering.{ordering_then}
use Rattle.ciborium_value.{proofs.Orders.TotalOrders.key_order_total, specs.Canonical.{bytewise_order, key_order}}
use Rattle.ciborium_value.specs.{Deterministic.{AreRising, keys_of}, DeterministicForms.{placed_pair, inserted}}
use Rattle.ciborium_value.specs.{DeterministicForms.sorted_pairs, Encoding.{encoded_size, encoding}, Given.Outcome}
use Rattle.ciborium_value.specs.{Given.{gives, refuses, nests, then_take, outcome_map}, Tree.{Tree, TreePairs}}
use Rattle.ciborium_value.specs.{Tree.{no_tree_pairs, tree_pair}, Visits.saturated}
use Rattle.ciborium_value.specs.declared.key_order.KeyOrder.{KeyOrder, TheVariants.{LengthFirst, Bytewise}}
use Rattle.ciborium_value.specs.{inner.OwnForms.AreApart, lemmas.PutEntries.not-at}
use Rattle.ciborium_ll.specs.declared.kind.Kind.TheVariants as kinds

-- ---- one pair among others

module _ (o : KeyOrder) (k v p x : Tree) (ps : TreePairs) where
  pub inserted-Less : key_order o k p ≡ Less → inserted o k v (tree_pair p x ps) ≡ gives
      (tree_pair k v (tree_pair p x ps))
  inserted-Less e = ap (λ r. placed_pair r k v p x ps (inserted o k v ps)) e

  pub inserted-Equal : key_order o k p ≡ Equal → inserted o k v (tree_pair p x ps) ≡ refuses kinds.DuplicateKey
  inserted-Equal e = ap (λ r. placed_pair r k v p x ps (inserted o k v ps)) e

  pub inserted-Greater : key_order o k p ≡ Greater → inserted o k v (tree_pair p x ps) ≡ outcome_map (tree_pair p x)
      (inserted o k v ps)
  inserted-Greater e = ap (λ r. placed_pair r k v p x ps (inserted o k v ps)) e

-- pairs, or a duplicate key
abbrev pub IsSortedOrDuplicate : Outcome TreePairs → Type 0
IsSortedOrDuplicate r = ((qs : TreePairs) × (r ≡ gives qs)) ⊎ (r ≡ refuses kinds.DuplicateKey)

placed-either : (a : Ordering) (k v l w : Tree) (ps : TreePairs) (behind : Outcome TreePairs) →
    IsSortedOrDuplicate behind → IsSortedOrDuplicate (placed_pair a k v l w ps behind)
placed-either Less k v l w ps behind h = inl (tree_pair k v (tree_pair l w ps), refl)
placed-either Equal k v l w ps behind h = inr refl
placed-either Greater k v l w ps behind (inl (qs, e)) = inl (tree_pair l w qs, ap (outcome_map (tree_pair l w)) e)
placed-either Greater k v l w ps behind (inr e) = inr (ap (outcome_map (tree_pair l w)) e)

pub inserted-either : (o : KeyOrder) (k v : Tree) (ps : TreePairs) → IsSortedOrDuplicate (inserted o k v ps)
inserted-either o k v no_tree_pairs = inl (tree_pair k v no_tree_pairs, refl)
inserted-either o k v (tree_pair l w ps) = placed-either (key_order o k l) k v l w ps (inserted o k v ps)
    (inserted-either o k v ps)

pub sorted-either : (o : KeyOrder) (ps : TreePairs) → IsSortedOrDuplicate (sorted_pairs o ps)
sorted-either o no_tree_pairs = inl (no_tree_pairs, refl)
sorted-either o (tree_pair k v ps) = behind (sorted_pairs o ps) (sorted-either o ps)
  where
    behind : (r : Outcome TreePairs) → IsSortedOrDuplicate r → IsSortedOrDuplicate (then_take r (inserted o k v))
    behind (gives qs) h = inserted-either o k v qs
    behind (refuses j) (inl (qs, e)) = absurd cc
    behind (refuses j) (inr e) = inr e
    behind nests (inl (qs, e)) = absurd cc
    behind nests (inr e) = absurd cc

-- ---- two pairs, one after the other

-- of which neither stands before the other's place
front_either : (a b : Ordering) (k v l w : Tree) (ps : TreePairs) → a ≡ ordering_reverse b
    → placed_pair a k v l w ps (gives (tree_pair k v ps)) ≡ placed_pair b l w k v ps (gives (tree_pair l w ps))
front_either Less Greater k v l w ps e = refl
front_either Equal Equal k v l w ps e = refl
front_either Greater Less k v l w ps e = refl
front_either u x k v l w ps e = absurd cc

-- a first pair that stays first
behind_first : (f : TreePairs → Outcome TreePairs) (p x : Tree) →
    ((qs : TreePairs) → f (tree_pair p x qs) ≡ outcome_map (tree_pair p x) (f qs)) →
    (r : Outcome TreePairs) → then_take (outcome_map (tree_pair p x) r) f ≡ outcome_map (tree_pair p x) (then_take r f)
behind_first f p x stays (gives qs) = stays qs
behind_first f p x stays u = refl

-- a pair that goes before it
before_first : (f : TreePairs → Outcome TreePairs) (k v p x : Tree) →
    ((qs : TreePairs) → f (tree_pair p x qs) ≡ gives (tree_pair k v (tree_pair p x qs))) → (r : Outcome TreePairs) →
    then_take (outcome_map (tree_pair p x) r) f ≡ outcome_map (tree_pair k v) (outcome_map (tree_pair p x) r)
before_first f k v p x goes (gives qs) = goes qs
before_first f k v p x goes u = refl

-- a pair that ties with it
ties_first : (f : TreePairs → Outcome TreePairs) (p x : Tree) →
    ((qs : TreePairs) → f (tree_pair p x qs) ≡ refuses kinds.DuplicateKey) → (r : Outcome TreePairs) →
    IsSortedOrDuplicate r → then_take (outcome_map (tree_pair p x) r) f ≡ refuses kinds.DuplicateKey
ties_first f p x ties r (inl (qs, e)) = ap (λ z. then_take (outcome_map (tree_pair p x) z) f) e ∙ ties qs
ties_first f p x ties r (inr e) = ap (λ z. then_take (outcome_map (tree_pair p x) z) f) e

greater_where_less : (o : KeyOrder) (k l : Tree) → key_order o k l ≡ Less → key_order o l k ≡ Greater
greater_where_less o k l e = (key_order_total o).antisymm l k ∙ ap ordering_reverse e

pub less_where_greater : (o : KeyOrder) (k l : Tree) → key_order o k l ≡ Greater → key_order o l k ≡ Less
less_where_greater o k l e = (key_order_total o).antisymm l k ∙ ap ordering_reverse e

-- two pairs are put among others in either order
abbrev pub Commutes : KeyOrder → Tree → Tree → Tree → Tree → TreePairs → Type 0
Commutes o k v l w ps = then_take (inserted o l w ps) (inserted o k v) ≡ then_take (inserted o k v ps) (inserted o l w)

module _ (o : KeyOrder) (k v l w p x : Tree) (ps : TreePairs) where
  less_less : key_order o k p ≡ Less → key_order o l p ≡ Less → Commutes o k v l w (tree_pair p x ps)
  less_less e h = rw (inserted-Less o l w p x ps h, inserted-Less o k v p x ps e, inserted-Less o l w p x ps h)
      (front_either (key_order o k l) (key_order o l k) k v l w (tree_pair p x ps) ((key_order_total o).antisymm k l))

  less_equal : key_order o k p ≡ Less → key_order o l p ≡ Equal → Commutes o k v l w (tree_pair p x ps)
  less_equal e h =
      let qs = tree_pair p x ps in
      let behind : key_order o l k ≡ Greater = (key_order_total o).congr l p k h ∙ greater_where_less o k p e in
      ap (λ z. then_take z (inserted o k v)) (inserted-Equal o l w p x ps h)
      ∙ sym (ap (λ z. then_take z (inserted o l w)) (inserted-Less o k v p x ps e) ∙
      inserted-Greater o l w k v qs behind ∙ ap (outcome_map (tree_pair k v)) (inserted-Equal o l w p x ps h))

  less_greater : key_order o k p ≡ Less → key_order o l p ≡ Greater → Commutes o k v l w (tree_pair p x ps)
  less_greater e h =
      let qs = tree_pair p x ps in
      let behind : key_order o l k ≡ Greater = greater_where_less o k l
      ((key_order_total o).trans k p l e (less_where_greater o l p h)) in
      ap (λ z. then_take z (inserted o k v)) (inserted-Greater o l w p x ps h)
      ∙ before_first (inserted o k v) k v p x (λ rs. inserted-Less o k v p x rs e) (inserted o l w ps)
      ∙ sym (ap (λ z. then_take z (inserted o l w)) (inserted-Less o k v p x ps e) ∙
      inserted-Greater o l w k v qs behind ∙ ap (outcome_map (tree_pair k v)) (inserted-Greater o l w p x ps h))

  equal_equal : key_order o k p ≡ Equal → key_order o l p ≡ Equal → Commutes o k v l w (tree_pair p x ps)
  equal_equal e h = rw (inserted-Equal o l w p x ps h, inserted-Equal o k v p x ps e)

  equal_greater : key_order o k p ≡ Equal → key_order o l p ≡ Greater → Commutes o k v l w (tree_pair p x ps)
  equal_greater e h = rw (inserted-Greater o l w p x ps h, inserted-Equal o k v p x ps e) (ties_first (inserted o k v) p
      x (λ rs. inserted-Equal o k v p x rs e) (inserted o l w ps) (inserted-either o l w ps))

  greater_greater : key_order o k p ≡ Greater → key_order o l p ≡ Greater → Commutes o k v l w ps →
      Commutes o k v l w (tree_pair p x ps)
  greater_greater e h same = ap (λ z. then_take z (inserted o k v)) (inserted-Greater o l w p x ps h) ∙
      behind_first (inserted o k v) p x (λ rs. inserted-Greater o k v p x rs e) (inserted o l w ps) ∙
      ap (outcome_map (tree_pair p x)) same ∙
      sym (ap (λ z. then_take z (inserted o l w)) (inserted-Greater o k v p x ps e) ∙
      behind_first (inserted o l w) p x (λ rs. inserted-Greater o l w p x rs h) (inserted o k v ps))

pub commutes : (o : KeyOrder) (k v l w : Tree) (ps : TreePairs) → Commutes o k v l w ps
commutes o k v l w no_tree_pairs = front_either (key_order o k l) (key_order o l k) k v l w no_tree_pairs
    ((key_order_total o).antisymm k l)
commutes o k v l w (tree_pair p x ps) = by (commutes o k v l w ps) (key_order o k p) (key_order o l p) refl refl
  where
    by : Commutes o k v l w ps → (a b : Ordering) → key_order o k p ≡ a → key_order o l p ≡ b →
        Commutes o k v l w (tree_pair p x ps)
    by same Less Less e h = less_less o k v l w p x ps e h
    by same Less Equal e h = less_equal o k v l w p x ps e h
    by same Less Greater e h = less_greater o k v l w p x ps e h
    by same Equal Less e h = sym (less_equal o l w k v p x ps h e)
    by same Equal Equal e h = equal_equal o k v l w p x ps e h
    by same Equal Greater e h = equal_greater o k v l w p x ps e h
    by same Greater Less e h = sym (less_greater o l w k v p x ps h e)
    by same Greater Equal e h = sym (equal_greater o l w k v p x ps h e)
    by same Greater Greater e h = greater_greater o k v l w p x ps e h same

-- two neighbours in each other's place
pub sorted-exchanged : (o : KeyOrder) (k v l w : Tree) (ps : TreePairs)
    → sorted_pairs o (tree_pair k v (tree_pair l w ps)) ≡ sorted_pairs o (tree_pair l w (tree_pair k v ps))
sorted-exchanged o k v l w ps = behind (sorted_pairs o ps)
  where
    behind : (r : Outcome TreePairs) → then_take (then_take r (inserted o l w)) (inserted o k v) ≡ then_take
        (then_take r (inserted o k v)) (inserted o l w)
    behind (gives qs) = commutes o k v l w qs
    behind (refuses j) = refl
    behind nests = refl

-- ---- pairs in order

-- pairs whose keys rise are sorted
pub rising-sorted : (o : KeyOrder) (ps : TreePairs) → AreRising o (keys_of ps) → sorted_pairs o ps ≡ gives ps
rising-sorted o (tree_pair k v (tree_pair l w ps)) h =
    ap (λ r. then_take r (inserted o k v)) (rising-sorted o (tree_pair l w ps) h.1) ∙ inserted-Less o k v l w ps h.0
rising-sorted o u h = refl

-- ---- neighbours that tie

tie_refused : (o : KeyOrder) (k v l w : Tree) (ps : TreePairs) → key_order o k l ≡ Equal →
    then_take (inserted o l w ps) (inserted o k v) ≡ refuses kinds.DuplicateKey
tie_refused o k v l w no_tree_pairs e = inserted-Equal o k v l w no_tree_pairs e
tie_refused o k v l w (tree_pair p x ps) e = by (tie_refused o k v l w ps e) (key_order o l p) refl
  where
    by : then_take (inserted o l w ps) (inserted o k v) ≡ refuses kinds.DuplicateKey
        → (b : Ordering) → key_order o l p ≡ b → then_take (inserted o l w (tree_pair p x ps)) (inserted o k v) ≡
        refuses kinds.DuplicateKey
    by same Less h = ap (λ z. then_take z (inserted o k v)) (inserted-Less o l w p x ps h) ∙
        inserted-Equal o k v l w (tree_pair p x ps) e
    by same Equal h = ap (λ z. then_take z (inserted o k v)) (inserted-Equal o l w p x ps h)
    by same Greater h = ap (λ z. then_take z (inserted o k v)) (inserted-Greater o l w p x ps h) ∙
        behind_first (inserted o k v) p x (λ rs. inserted-Greater o k v p x rs ((key_order_total o).congr k l p e ∙ h))
        (inserted o l w ps) ∙ ap (outcome_map (tree_pair p x)) same

pub neighbours_refused : (o : KeyOrder) (k v l w : Tree) (ps : TreePairs) → key_order o k l ≡ Equal →
    sorted_pairs o (tree_pair k v (tree_pair l w ps)) ≡ refuses kinds.DuplicateKey
neighbours_refused o k v l w ps e = behind (sorted_pairs o ps) (sorted-either o ps)
  where
    behind : (r : Outcome TreePairs) → IsSortedOrDuplicate r →
        then_take (then_take r (inserted o l w)) (inserted o k v) ≡ refuses kinds.DuplicateKey
    behind (gives qs) h = tie_refused o k v l w qs e
    behind (refuses j) (inl (qs, f)) = absurd cc
    behind (refuses j) (inr f) = f
    behind nests (inl (qs, f)) = absurd cc
    behind nests (inr f) = absurd cc

-- no key stands before the one in front of it
abbrev pub NeverFall : KeyOrder → TreePairs → Type 0
NeverFall o no_tree_pairs = Unit {0}
NeverFall o (tree_pair k v no_tree_pairs) = Unit {0}
NeverFall o (tree_pair k v (tree_pair l w ps)) = (is_lt (key_order o l k) ≡ false) × NeverFall o (tree_pair l w ps)

-- keys in order rise, or two neighbours tie
pub rising_or_refused : (o : KeyOrder) (ps : TreePairs) → NeverFall o ps →
    AreRising o (keys_of ps) ⊎ (sorted_pairs o ps ≡ refuses kinds.DuplicateKey)
rising_or_refused o no_tree_pairs h = inl tt
rising_or_refused o (tree_pair k v no_tree_pairs) h = inl tt
rising_or_refused o (tree_pair k v (tree_pair l w ps)) h =
    by (key_order o k l) refl (rising_or_refused o (tree_pair l w ps) h.1)
  where
    by : (a : Ordering) → key_order o k l ≡ a → AreRising o (keys_of (tree_pair l w ps)) ⊎
        (sorted_pairs o (tree_pair l w ps) ≡ refuses kinds.DuplicateKey)
        → AreRising o (keys_of (tree_pair k v (tree_pair l w ps))) ⊎
        (sorted_pairs o (tree_pair k v (tree_pair l w ps)) ≡ refuses kinds.DuplicateKey)
    by Less e (inl rises) = inl (e, rises)
    by a e (inr refused) = inr (ap (λ r. then_take r (inserted o k v)) refused)
    by Equal e (inl rises) = inr (neighbours_refused o k v l w ps e)
    by Greater e (inl rises) = absurd (let no : true ≡ false = sym (ap is_lt (less_where_greater o k l e)) ∙ h.0 in cc)

-- keys in order that do not rise
pub tied_refused : (o : KeyOrder) (ps : TreePairs) → NeverFall o ps → ¬ AreRising o (keys_of ps) →
    sorted_pairs o ps ≡ refuses kinds.DuplicateKey
tied_refused o ps h flat = by (rising_or_refused o ps h)
  where
    by : AreRising o (keys_of ps) ⊎ (sorted_pairs o ps ≡ refuses kinds.DuplicateKey) →
        sorted_pairs o ps ≡ refuses kinds.DuplicateKey
    by (inl rises) = absurd (flat rises)
    by (inr refused) = refused

-- ---- neighbours that differ

-- keys that tie have one encoding
tied_bytewise : (o : KeyOrder) (k l : Tree) → key_order o k l ≡ Equal → bytewise_order k l ≡ Equal
tied_bytewise LengthFirst k l e = by (nat_cmp (encoded_size k) (encoded_size l)) (bytewise_order k l) e
  where
    by : (a b : Ordering) → ordering_then a b ≡ Equal → b ≡ Equal
    by Less b f = absurd cc
    by Equal b f = f
    by Greater b f = absurd cc
tied_bytewise Bytewise k l e = e

-- and those of one encoding tie
bytewise_tied : (o : KeyOrder) (k l : Tree) → bytewise_order k l ≡ Equal → key_order o k l ≡ Equal
bytewise_tied LengthFirst k l e =
    let same : encoding k ≡ encoding l = slice_cmp-IsAntisymmetric nat_cmp-IsAntisymmetric (encoding k) (encoding l) e
    in
    let size : encoded_size k ≡ encoded_size l = ap (λ b. saturated (length b)) same in
    ap (λ b. ordering_then (nat_cmp (encoded_size k) (encoded_size l)) b) e ∙
    ap (λ n. ordering_then (nat_cmp n (encoded_size l)) Equal) size
    ∙ ap (λ a. ordering_then a Equal) (tied_itself nat_cmp_total (encoded_size l))
bytewise_tied Bytewise k l e = e

eq_where_equal : (a : Ordering) → a ≡ Equal → is_eq a ≡ false → ⊥
eq_where_equal u e h = absurd cc

-- keys that rise differ
pub rising_apart : (o : KeyOrder) (ps : TreePairs) → AreRising o (keys_of ps) → AreApart (keys_of ps)
rising_apart o (tree_pair k v (tree_pair l w ps)) h = (
  not-at (bytewise_order k l) (λ e. let no : Less ≡ Equal = sym h.0 ∙ bytewise_tied o k l e in cc),
  rising_apart o (tree_pair l w ps) h.1,
)
rising_apart o u h = tt

-- and keys in order that differ rise
pub apart_rising : (o : KeyOrder) (ps : TreePairs) → NeverFall o ps → AreApart (keys_of ps) → AreRising o (keys_of ps)
apart_rising o no_tree_pairs h d = tt
apart_rising o (tree_pair k v no_tree_pairs) h d = tt
apart_rising o (tree_pair k v (tree_pair l w ps)) h d =
    (by (key_order o k l) refl, apart_rising o (tree_pair l w ps) h.1 d.1)
  where
    by : (a : Ordering) → key_order o k l ≡ a → key_order o k l ≡ Less
    by Less e = e
    by Equal e = absurd (eq_where_equal (bytewise_order k l) (tied_bytewise o k l e) d.0)
    by Greater e = absurd (let no : true ≡ false = sym (ap is_lt (less_where_greater o k l e)) ∙ h.0 in cc)
