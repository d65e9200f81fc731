-- What is written for an item spells it.
use Rattle.std.proofs.Common.{◌≡◌, ℕ, suc, ◌<◌, ◌≤◌, Bool, true, false, List, [], ◌∷◌, ◌++◌, length, refl, sym, ap}
use Rattle.std.proofs.Common.{lit<, arith, ◌⊎◌, inl, inr, pos, negsuc, IsUtf8, append-nil}
use Rattle.std.proofs.lemmas.Bool.Decides.{nat_tests}
use Rattle.ciborium_ll.specs.{Bytes.{AreBytes, greatest_offset}, Head.{shortest_head, simple_bytes, IsSimple, IsFloat}}
use Rattle.ciborium_ll.specs.Item.{Item, unsigned, negative, bytes, text, array, map, tag, simple, float, Items}
use Rattle.ciborium_ll.specs.Item.{no_items, item, items_count, Pairs, no_pairs, pair, pairs_count}
use Rattle.ciborium_ll.specs.ProperItems.{IsArgument, IsProperItem, AreProperItems, AreProperPairs}
use Rattle.ciborium_ll.specs.Spells.{IsDefiniteString, IsString, IsContainer, Spells, SpellsItems, SpellsPairs}
use Rattle.ciborium_ll.proofs.ShortestHead.{shortest_is_head}
use Rattle.ciborium_value.specs.{Counts.{trees_count, tree_pairs_count}, Encoding.{item_of, items_of, pairs_of}}
use Rattle.ciborium_value.specs.Encoding.{enclosed, written_string, float_bytes, written_bytes, items_bytes}
use Rattle.ciborium_value.specs.{Encoding.pairs_bytes, ProperTrees.{IsProperTree, AreProperTrees, AreProperTreePairs}}
use Rattle.ciborium_value.specs.{Tree.{Tree, Trees, TreePairs}, laws.FoldingLaws.EncodingIsGood}
use Rattle.ciborium_value.specs.Tree as trees

-- ---- strings, containers, simple values and floats

pub string_written : (open_ : Bool) (major : ℕ) (IsAllowed : List ℕ → Type 0) (b : List ℕ) →
    IsAllowed b → length b ≤ greatest_offset → IsString open_ major IsAllowed (written_string open_ major b) b
string_written false major IsAllowed b h fits = (
  shortest_head major (length b),
  shortest_is_head major (length b) (omega arith),
  h,
  refl,
)
string_written true major IsAllowed b h fits =
    let s : List ℕ = shortest_head major (length b) ++ b in
    let part : IsDefiniteString major IsAllowed s b = (
      shortest_head major (length b),
      shortest_is_head major (length b) (omega arith),
      h,
      refl,
    ) in
    (b ∷ [], s, (s, [], part, refl, sym (append-nil s)), sym (append-nil b), refl)

pub parts_enclosed : (open_ : Bool) (major count : ℕ) (r : List ℕ) → count ≤ greatest_offset →
    IsContainer open_ major count (enclosed open_ major count r) r
parts_enclosed false major count r fits = (shortest_head major count, shortest_is_head major count (omega arith), refl)
parts_enclosed true major count r fits = refl

pub simple_written : (n : ℕ) → (n < 24) ⊎ ((32 ≤ n) × (n < 256)) → IsSimple (simple_bytes n) n
simple_written n (inl h) = inl (h, grind (arith, nat_tests))
simple_written n (inr h) = let least : 32 ≤ n = h.0 in inr (least, h.1, grind (arith, nat_tests))

float_written : (raw : List ℕ) → (length raw ≡ 2) ⊎ (length raw ≡ 4) ⊎ (length raw ≡ 8) → IsFloat (float_bytes raw) raw
float_written raw (inl h) = inl (h, grind (arith, nat_tests))
float_written raw (inr (inl h)) = inr (inl (h, grind (arith, nat_tests)))
float_written raw (inr (inr h)) = inr (inr (h, grind (arith, nat_tests)))

-- ---- what is written for an item spells it

-- for these items, lists of items and lists of pairs it does, where it does for those without parts
module _ (Is : Item → Type 0) (Are : Items → Type 0) (ArePairs : Pairs → Type 0)
    (argument : (n : ℕ) → Is (unsigned n) → IsArgument n) (below : (n : ℕ) → Is (negative n) → IsArgument n)
    (of_bytes : (o : Bool) (b : List ℕ) → Is (bytes o b) → Spells (written_bytes (bytes o b)) (bytes o b))
    (of_text : (o : Bool) (b : List ℕ) → Is (text o b) → Spells (written_bytes (text o b)) (text o b))
    (items : (o : Bool) (is : Items) → Is (array o is) →
    IsContainer o 4 (items_count is) (written_bytes (array o is)) (items_bytes is) × Are is)
    (entries : (o : Bool) (ps : Pairs) → Is (map o ps) →
    IsContainer o 5 (pairs_count ps) (written_bytes (map o ps)) (pairs_bytes ps) × ArePairs ps)
    (content : (t : ℕ) (i : Item) → Is (tag t i) → IsArgument t × Is i)
    (of_simple : (n : ℕ) → Is (simple n) → Spells (written_bytes (simple n)) (simple n))
    (of_float : (raw : List ℕ) → Is (float raw) → Spells (written_bytes (float raw)) (float raw))
    (first : (i : Item) (is : Items) → Are (item i is) → Is i × Are is)
    (entry : (k v : Item) (ps : Pairs) → ArePairs (pair k v ps) → Is k × Is v × ArePairs ps) where
  mutual
    pub spells_item : (i : Item) → Is i → Spells (written_bytes i) i
    spells_item (unsigned n) h = shortest_is_head 0 n (argument n h)
    spells_item (negative n) h = shortest_is_head 1 n (below n h)
    spells_item (bytes o b) h = of_bytes o b h
    spells_item (text o b) h = of_text o b h
    spells_item (array o is) h = let (open_, all) = items o is h in (items_bytes is, spells_items is all, open_)
    spells_item (map o ps) h = let (open_, all) = entries o ps h in (pairs_bytes ps, spells_pairs ps all, open_)
    spells_item (tag t i) h = let (n, is) = content t i h in
        (shortest_head 6 t, written_bytes i, shortest_is_head 6 t n, spells_item i is, refl)
    spells_item (simple n) h = of_simple n h
    spells_item (float raw) h = of_float raw h

    spells_items : (is : Items) → Are is → SpellsItems (items_bytes is) is
    spells_items no_items h = refl
    spells_items (item i is) h = let (one, all) = first i is h in
        (written_bytes i, items_bytes is, spells_item i one, spells_items is all, refl)

    spells_pairs : (ps : Pairs) → ArePairs ps → SpellsPairs (pairs_bytes ps) ps
    spells_pairs no_pairs h = refl
    spells_pairs (pair k v ps) h = let (key, value, all) = entry k v ps h in (
      written_bytes k,
      written_bytes v,
      pairs_bytes ps,
      spells_item k key,
      spells_item v value,
      spells_pairs ps all,
      refl,
    )

-- a proper one
pub written_spells : (i : Item) → IsProperItem i → Spells (written_bytes i) i
written_spells = spells_item IsProperItem AreProperItems AreProperPairs (λ n h. h) (λ n h. h)
    (λ o b h. string_written o 2 AreBytes b h.0 h.1) (λ o b h. string_written o 3 IsUtf8 b h.0 h.1.1)
    (λ o is h. (parts_enclosed o 4 (items_count is) (items_bytes is) h.0, h.1))
    (λ o ps h. (parts_enclosed o 5 (pairs_count ps) (pairs_bytes ps) h.0, h.1)) (λ t i h. h) simple_written
    (λ raw h. float_written raw h.1) (λ i is h. h) (λ k v ps h. h)

-- ---- the item of a proper tree is proper

pub items_count-items_of : (vs : Trees) → items_count (items_of vs) ≡ trees_count vs
items_count-items_of trees.no_trees = refl
items_count-items_of (trees.tree v vs) = ap suc (items_count-items_of vs)

pub pairs_count-pairs_of : (ps : TreePairs) → pairs_count (pairs_of ps) ≡ tree_pairs_count ps
pairs_count-pairs_of trees.no_tree_pairs = refl
pairs_count-pairs_of (trees.tree_pair k v ps) = ap suc (pairs_count-pairs_of ps)

mutual
  pub IsProperItem-item_of : (v : Tree) → IsProperTree v → IsProperItem (item_of v)
  IsProperItem-item_of (trees.integer (pos n)) h = h
  IsProperItem-item_of (trees.integer (negsuc n)) h = h
  IsProperItem-item_of (trees.bytes b) h = h
  IsProperItem-item_of (trees.text b) h = h
  IsProperItem-item_of (trees.boolean false) h = inl (lit< tt)
  IsProperItem-item_of (trees.boolean true) h = inl (lit< tt)
  IsProperItem-item_of trees.null h = inl (lit< tt)
  IsProperItem-item_of (trees.tag t v) h = (h.0, IsProperItem-item_of v h.1)
  IsProperItem-item_of (trees.array vs) h = (rw (items_count-items_of vs) h.0, AreProperItems-items_of vs h.1)
  IsProperItem-item_of (trees.map ps) h = (rw (pairs_count-pairs_of ps) h.0, AreProperPairs-pairs_of ps h.1)

  AreProperItems-items_of : (vs : Trees) → AreProperTrees vs → AreProperItems (items_of vs)
  AreProperItems-items_of trees.no_trees h = tt
  AreProperItems-items_of (trees.tree v vs) h = (IsProperItem-item_of v h.0, AreProperItems-items_of vs h.1)

  AreProperPairs-pairs_of : (ps : TreePairs) → AreProperTreePairs ps → AreProperPairs (pairs_of ps)
  AreProperPairs-pairs_of trees.no_tree_pairs h = tt
  AreProperPairs-pairs_of (trees.tree_pair k v ps) h =
      (IsProperItem-item_of k h.0, IsProperItem-item_of v h.1, AreProperPairs-pairs_of ps h.2)

-- ---- so it is good

pub encoding_is_good : EncodingIsGood
encoding_is_good v w l proper folds within fits = (
  item_of v,
  written_spells (item_of v) (IsProperItem-item_of v proper),
  folds,
  within,
  omega (arith, fits),
  tt,
)
