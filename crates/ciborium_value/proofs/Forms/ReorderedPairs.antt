-- The same pairs in another order.
use Rattle.std.proofs.Common.{◌≡◌, ℕ, zero, suc, ◌+◌, ◌<◌, List, [], ◌∷◌, length, get_or, set, refl, sym, ap, ◌∙◌}
use Rattle.std.proofs.Common.{subst, arith, Ordering, Less, Equal, Greater, is_lt, false, Bool}
use Rattle.std.proofs.lemmas.List.Sorted.{IsPermutation-keeps, ranks_by}
use Rattle.std.specs.{Cmp.IsStrictWeakOrder, List.swap, List.Sorted.{IsPermutation, IsSortedBy}}
use Rattle.ciborium_value.proofs.Forms.SortedPairs.{NeverFall, sorted-exchanged, inserted-Less, inserted-Equal}
use Rattle.ciborium_value.proofs.Forms.SortedPairs.{inserted-Greater, less_where_greater}
use Rattle.ciborium_value.{proofs.Orders.TotalOrders.key_order_total, specs.Canonical.key_order}
use Rattle.ciborium_value.specs.{Deterministic.{AreRising, keys_of}, DeterministicForms.{inserted, sorted_pairs}}
use Rattle.ciborium_value.specs.{Given.{gives, then_take}, SameContents.{PairsAreAlike, no_pairs, more_pairs}}
use Rattle.ciborium_value.specs.{SameContents.{exchanged, one_after_another}, Tree.{Tree, TreePairs, no_tree_pairs}}
use Rattle.ciborium_value.specs.{Tree.tree_pair, ValueLists.tree_pairs_of, View.tree_of}
use Rattle.ciborium_value.specs.declared.{key_order.KeyOrder.KeyOrder, tree.Value.Value}
use Rattle.ciborium_value.specs.lemmas.GivenOutcomes.{one_given, refused_or_given, mapped_gives, then_gives}
use Rattle.ciborium_value.specs.SameContents as same

-- each pair and the same one of the others, in any order
pub data AreReordered : TreePairs → TreePairs → Type 0 where
  as_they_are : {ps : TreePairs} → AreReordered ps ps
  behind : {k v : Tree} {ps qs : TreePairs} → AreReordered ps qs → AreReordered (tree_pair k v ps) (tree_pair k v qs)
  neighbours : {k v l w : Tree} {ps : TreePairs} → AreReordered (tree_pair k v (tree_pair l w ps))
      (tree_pair l w (tree_pair k v ps))
  then_again : {ps qs rs : TreePairs} → AreReordered ps qs → AreReordered qs rs → AreReordered ps rs

pub sorted-reordered : (o : KeyOrder) {ps qs : TreePairs} → AreReordered ps qs → sorted_pairs o ps ≡ sorted_pairs o qs
sorted-reordered o as_they_are = refl
sorted-reordered o (behind {k} {v} h) = ap (λ r. then_take r (inserted o k v)) (sorted-reordered o h)
sorted-reordered o (neighbours {k} {v} {l} {w} {ps}) = sorted-exchanged o k v l w ps
sorted-reordered o (then_again h l) = sorted-reordered o h ∙ sorted-reordered o l

pub PairsAreAlike-refl : (ps : TreePairs) → PairsAreAlike ps ps
PairsAreAlike-refl no_tree_pairs = no_pairs
PairsAreAlike-refl (tree_pair k v ps) = more_pairs same.itself same.itself (PairsAreAlike-refl ps)

pub alike-reordered : {ps qs : TreePairs} → AreReordered ps qs → PairsAreAlike ps qs
alike-reordered (as_they_are {ps}) = PairsAreAlike-refl ps
alike-reordered (behind h) = more_pairs same.itself same.itself (alike-reordered h)
alike-reordered neighbours = exchanged
alike-reordered (then_again h l) = one_after_another (alike-reordered h) (alike-reordered l)

-- ---- exchanges in a list

-- the first pair and one behind it
first_exchanged : (d x : Value × Value) (ys : List (Value × Value)) (m : ℕ) → m < length ys →
    AreReordered (tree_pairs_of (x ∷ ys)) (tree_pairs_of (get_or ys m d ∷ set ys m x))
first_exchanged d x [] m h = absurd (omega (arith, h))
first_exchanged d x (y ∷ ys) zero h = neighbours
first_exchanged d x (y ∷ ys) (suc m) h = then_again neighbours
    (then_again (behind (first_exchanged d x ys m (omega (arith, h)))) neighbours)

-- any two
two_exchanged : (d : Value × Value) (xs : List (Value × Value)) (i j : ℕ) → i < length xs → j < length xs
    → AreReordered (tree_pairs_of xs) (tree_pairs_of (set (set xs i (get_or xs j d)) j (get_or xs i d)))
two_exchanged d [] i j h k = absurd (omega (arith, h))
two_exchanged d (x ∷ xs) zero zero h k = as_they_are
two_exchanged d (x ∷ xs) zero (suc j) h k = first_exchanged d x xs j (omega (arith, k))
two_exchanged d (x ∷ xs) (suc i) zero h k = first_exchanged d x xs i (omega (arith, h))
two_exchanged d (x ∷ xs) (suc i) (suc j) h k = behind (two_exchanged d xs i j (omega (arith, h)) (omega (arith, k)))

swapped : (xs : List (Value × Value)) (i j : ℕ) → i < length xs → j < length xs →
    AreReordered (tree_pairs_of xs) (tree_pairs_of (swap xs i j))
swapped [] i j h k = as_they_are
swapped (x ∷ xs) i j h k = two_exchanged x (x ∷ xs) i j h k

pub permuted-reordered : (xs ys : List (Value × Value)) → IsPermutation xs ys →
    AreReordered (tree_pairs_of xs) (tree_pairs_of ys)
permuted-reordered xs ys = IsPermutation-keeps xs (λ l. AreReordered (tree_pairs_of xs) (tree_pairs_of l)) as_they_are
    (λ l i j h k before. then_again before (swapped l i j h k)) ys

-- ---- what a sort gives

-- the test by which pairs are sorted
abbrev pub stands_before : KeyOrder → Value × Value → Value × Value → Bool
stands_before o p q = is_lt (key_order o (tree_of p.0) (tree_of q.0))

pub stands_before-orders : (o : KeyOrder) → IsStrictWeakOrder (stands_before o)
stands_before-orders o = ranks_by (key_order_total o) (λ p. tree_of p.0)

pub sorted-never_falls : (o : KeyOrder) (ps : List (Value × Value)) → IsSortedBy (stands_before o) ps →
    NeverFall o (tree_pairs_of ps)
sorted-never_falls o (p ∷ (q ∷ ps)) h = (
  h 0 p (omega arith) (omega arith),
  sorted-never_falls o (q ∷ ps) (λ k d le below.
      let next : suc k + 1 ≡ suc (k + 1) = omega arith in
      subst (λ n. stands_before o (get_or (p ∷ (q ∷ ps)) n d) (get_or (p ∷ (q ∷ ps)) (suc k) d) ≡ false) next
      (h (suc k) d (omega arith) (omega (arith, below)))),
)
sorted-never_falls o u h = tt

-- ---- what sorting by the definition gives

-- what was put in is there, in some order
pub inserted-reorders : (o : KeyOrder) (k v : Tree) (ps qs : TreePairs) → inserted o k v ps ≡ gives qs →
    AreReordered (tree_pair k v ps) qs
inserted-reorders o k v no_tree_pairs qs e = subst (AreReordered (tree_pair k v no_tree_pairs)) (one_given _ _ e)
    as_they_are
inserted-reorders o k v (tree_pair l w ps) qs e = by (inserted-reorders o k v ps) (key_order o k l) refl
  where
    by : ((rs : TreePairs) → inserted o k v ps ≡ gives rs → AreReordered (tree_pair k v ps) rs) → (a : Ordering) →
        key_order o k l ≡ a → AreReordered (tree_pair k v (tree_pair l w ps)) qs
    by more Less h = subst (AreReordered (tree_pair k v (tree_pair l w ps)))
        (one_given _ _ (sym (inserted-Less o k v l w ps h) ∙ e)) as_they_are
    by more Equal h = absurd (refused_or_given _ _ (sym (inserted-Equal o k v l w ps h) ∙ e))
    by more Greater h =
        let (rs, is, given) = mapped_gives (tree_pair l w) (inserted o k v ps) qs
        (sym (inserted-Greater o k v l w ps h) ∙ e) in
        subst (AreReordered (tree_pair k v (tree_pair l w ps))) given (then_again neighbours (behind (more rs is)))

pub sorted-reorders : (o : KeyOrder) (ps qs : TreePairs) → sorted_pairs o ps ≡ gives qs → AreReordered ps qs
sorted-reorders o no_tree_pairs qs e = subst (AreReordered no_tree_pairs) (one_given _ _ e) as_they_are
sorted-reorders o (tree_pair k v ps) qs e =
    let (rs, is, given) = then_gives (sorted_pairs o ps) (inserted o k v) qs e in
    then_again (behind (sorted-reorders o ps rs is)) (inserted-reorders o k v rs qs given)

-- a key stands before the first of others
abbrev IsAhead : KeyOrder → Tree → TreePairs → Type 0
IsAhead o l no_tree_pairs = Unit {0}
IsAhead o l (tree_pair p x ps) = key_order o l p ≡ Less

rising-more : (o : KeyOrder) (l w : Tree) (ps : TreePairs) → IsAhead o l ps → AreRising o (keys_of ps) →
    AreRising o (keys_of (tree_pair l w ps))
rising-more o l w no_tree_pairs h up = tt
rising-more o l w (tree_pair p x ps) h up = (h, up)

rising-ahead : (o : KeyOrder) (l w : Tree) (ps : TreePairs) → AreRising o (keys_of (tree_pair l w ps)) →
    IsAhead o l ps × AreRising o (keys_of ps)
rising-ahead o l w no_tree_pairs up = (tt, tt)
rising-ahead o l w (tree_pair p x ps) up = up

-- what is ahead of the others and of a pair is ahead of them together
ahead-inserted : (o : KeyOrder) (l k v : Tree) (ps qs : TreePairs) → key_order o l k ≡ Less → IsAhead o l ps →
    inserted o k v ps ≡ gives qs → IsAhead o l qs
ahead-inserted o l k v no_tree_pairs qs h ahead e = subst (IsAhead o l) (one_given _ _ e) h
ahead-inserted o l k v (tree_pair p x ps) qs h ahead e = by (key_order o k p) refl
  where
    by : (a : Ordering) → key_order o k p ≡ a → IsAhead o l qs
    by Less f = subst (IsAhead o l) (one_given _ _ (sym (inserted-Less o k v p x ps f) ∙ e)) h
    by Equal f = absurd (refused_or_given _ _ (sym (inserted-Equal o k v p x ps f) ∙ e))
    by Greater f =
        let (rs, is, given) = mapped_gives (tree_pair p x) (inserted o k v ps) qs
        (sym (inserted-Greater o k v p x ps f) ∙ e) in
        subst (IsAhead o l) given ahead

pub inserted-rises : (o : KeyOrder) (k v : Tree) (ps qs : TreePairs) → AreRising o (keys_of ps) →
    inserted o k v ps ≡ gives qs → AreRising o (keys_of qs)
inserted-rises o k v no_tree_pairs qs up e = subst (λ rs. AreRising o (keys_of rs)) (one_given _ _ e) tt
inserted-rises o k v (tree_pair l w ps) qs up e = by (inserted-rises o k v ps) (key_order o k l) refl
  where
    by : ((rs : TreePairs) → AreRising o (keys_of ps) → inserted o k v ps ≡ gives rs → AreRising o (keys_of rs)) →
        (a : Ordering) → key_order o k l ≡ a → AreRising o (keys_of qs)
    by more Less f = subst (λ rs. AreRising o (keys_of rs)) (one_given _ _ (sym (inserted-Less o k v l w ps f) ∙ e))
        (f, up)
    by more Equal f = absurd (refused_or_given _ _ (sym (inserted-Equal o k v l w ps f) ∙ e))
    by more Greater f =
        let (rs, is, given) = mapped_gives (tree_pair l w) (inserted o k v ps) qs
        (sym (inserted-Greater o k v l w ps f) ∙ e) in
        let (ahead, rest) = rising-ahead o l w ps up in
        subst (λ rs. AreRising o (keys_of rs)) given (rising-more o l w rs
        (ahead-inserted o l k v ps rs (less_where_greater o k l f) ahead is) (more rs rest is))

pub sorted-rises : (o : KeyOrder) (ps qs : TreePairs) → sorted_pairs o ps ≡ gives qs → AreRising o (keys_of qs)
sorted-rises o no_tree_pairs qs e = subst (λ rs. AreRising o (keys_of rs)) (one_given _ _ e) tt
sorted-rises o (tree_pair k v ps) qs e =
    let (rs, is, given) = then_gives (sorted_pairs o ps) (inserted o k v) qs e in
    inserted-rises o k v rs qs (sorted-rises o ps rs is) given
