-- The same elements in another order, as the pairs of a deterministic form are those of the tree.
use Rattle.std.{proofs.Common.subst, specs.{List.AllByRecursion, Prelude.{◌≡◌, List, [], ◌∷◌}}}
use Rattle.std.specs.declared.cmp.Ordering.{Ordering, TheVariants.{Less, Equal, Greater}}
use Rattle.ciborium_ll.specs.Item.{Item}
use Rattle.ciborium_value.specs.{Canonical.key_order, DeterministicForms.{inserted, placed_pair, sorted_pairs}}
use Rattle.ciborium_value.specs.{Encoding.{item_of, pairs_of}, Given.{gives, unpack_pairs}, Tree.{Tree, TreePairs}}
use Rattle.ciborium_value.specs.{Tree.{no_tree_pairs, tree_pair}, declared.key_order.KeyOrder.KeyOrder}
use Rattle.ciborium_value.specs.lemmas.GivenOutcomes.{mapped_gives, one_given, then_gives}

pub data AreReordered {X : Type 0} : List X → List X → Type 0 where
  as_they_are : {xs : List X} → AreReordered xs xs
  first_stays : {x : X} {xs ys : List X} → AreReordered xs ys → AreReordered (x ∷ xs) (x ∷ ys)
  neighbours : {x y : X} {xs : List X} → AreReordered (x ∷ y ∷ xs) (y ∷ x ∷ xs)
  then_again : {xs ys zs : List X} → AreReordered xs ys → AreReordered ys zs → AreReordered xs zs

pub all-reordered : {X : Type 0} (P : X → Type 0) {xs ys : List X} → AreReordered xs ys →
    AllByRecursion P xs → AllByRecursion P ys
all-reordered P as_they_are h = h
all-reordered P (first_stays r) h = (h.0, all-reordered P r h.1)
all-reordered P neighbours h = (h.1.0, (h.0, h.1.1))
all-reordered P (then_again r s) h = all-reordered P s (all-reordered P r h)

-- ---- elements side by side

-- what holds of each element and the one beside it, of which there are as many
abbrev pub AreEach : {X E : Type 0} → (X → E → Type 0) → List X → List E → Type 0
AreEach R [] [] = Unit {0}
AreEach R [] (e ∷ es) = ⊥
AreEach R (x ∷ xs) [] = ⊥
AreEach R (x ∷ xs) (e ∷ es) = R x e × AreEach R xs es

-- those beside elements in another order
pub each-reordered : {X E : Type 0} (R : X → E → Type 0) {xs ys : List X} → AreReordered xs ys →
    (es : List E) → AreEach R xs es → (fs : List E) × AreReordered es fs × AreEach R ys fs
each-reordered R as_they_are es h = (es, as_they_are, h)
each-reordered R (first_stays r) [] h = absurd h
each-reordered R (first_stays r) (e ∷ es) h =
    let (fs, s, each) = each-reordered R r es h.1 in
    (e ∷ fs, first_stays s, (h.0, each))
each-reordered R neighbours [] h = absurd h
each-reordered R neighbours (e ∷ []) h = absurd h.1
each-reordered R neighbours (e ∷ f ∷ es) h = (f ∷ e ∷ es, neighbours, (h.1.0, (h.0, h.1.1)))
each-reordered R (then_again r s) es h =
    let (fs, t, each) = each-reordered R r es h in
    let (gs, u, all) = each-reordered R s fs each in
    (gs, then_again t u, all)

-- ---- one element alone

abbrev IsNone : {X : Type 0} → List X → Type 0
IsNone [] = Unit {0}
IsNone (x ∷ xs) = ⊥

-- this holds of the one element
abbrev pub IsAlone : {X : Type 0} → (X → Type 0) → List X → Type 0
IsAlone P [] = ⊥
IsAlone P (x ∷ xs) = P x × IsNone xs

none-reordered : {X : Type 0} {xs ys : List X} → AreReordered xs ys → IsNone xs → IsNone ys
none-reordered as_they_are h = h
none-reordered (first_stays r) h = absurd h
none-reordered neighbours h = absurd h
none-reordered (then_again r s) h = none-reordered s (none-reordered r h)

pub alone-reordered : {X : Type 0} (P : X → Type 0) {xs ys : List X} → AreReordered xs ys → IsAlone P xs → IsAlone P ys
alone-reordered P as_they_are h = h
alone-reordered P (first_stays r) h = (h.0, none-reordered r h.1)
alone-reordered P neighbours h = absurd h.1
alone-reordered P (then_again r s) h = alone-reordered P s (alone-reordered P r h)

-- ---- the pairs of a form

-- the items of the keys and values
abbrev pub item_pairs : TreePairs → List (Item × Item)
item_pairs ps = unpack_pairs (pairs_of ps)

inserted-reordered : (o : KeyOrder) (k v : Tree) (ps qs : TreePairs) →
    inserted o k v ps ≡ gives qs → AreReordered ((item_of k, item_of v) ∷ item_pairs ps) (item_pairs qs)
inserted-reordered o k v no_tree_pairs qs put = subst (λ rs. AreReordered ((item_of k, item_of v) ∷ []) (item_pairs rs))
    (one_given (tree_pair k v no_tree_pairs) qs put) as_they_are
inserted-reordered o k v (tree_pair l w ps) qs put =
    by (inserted-reordered o k v ps) (key_order o k l) put
  where
    by : ((rs : TreePairs) → inserted o k v ps ≡ gives rs →
        AreReordered ((item_of k, item_of v) ∷ item_pairs ps) (item_pairs rs)) →
        (a : Ordering) → placed_pair a k v l w ps (inserted o k v ps) ≡ gives qs →
        AreReordered ((item_of k, item_of v) ∷ (item_of l, item_of w) ∷ item_pairs ps) (item_pairs qs)
    by more Less is = subst (λ rs. AreReordered
        ((item_of k, item_of v) ∷ (item_of l, item_of w) ∷ item_pairs ps) (item_pairs rs))
        (one_given (tree_pair k v (tree_pair l w ps)) qs is) as_they_are
    by more Equal is = absurd cc
    by more Greater is = let (rs, there, same) =
        mapped_gives (tree_pair l w) (inserted o k v ps) qs is in
        subst (λ us. AreReordered
        ((item_of k, item_of v) ∷ (item_of l, item_of w) ∷ item_pairs ps) (item_pairs us)) same
        (then_again neighbours (first_stays (more rs there)))

pub sorted-reordered : (o : KeyOrder) (ps qs : TreePairs) → sorted_pairs o ps ≡ gives qs →
    AreReordered (item_pairs ps) (item_pairs qs)
sorted-reordered o no_tree_pairs qs sorted = subst (λ rs. AreReordered [] (item_pairs rs))
    (one_given no_tree_pairs qs sorted) as_they_are
sorted-reordered o (tree_pair k v ps) qs sorted =
    let (rs, is, put) = then_gives (sorted_pairs o ps) (inserted o k v) qs sorted in
    then_again (first_stays (sorted-reordered o ps rs is)) (inserted-reordered o k v rs qs put)
