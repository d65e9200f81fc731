-- What typed writing puts out is read back.
use Rattle.std.proofs.Common.{◌≡◌, ℕ, zero, suc, ◌+◌, ◌-◌, ◌<◌, ◌≤◌, Bool, true, false, List, pos, negsuc, cond, None}
use Rattle.std.proofs.Common.{option_map, inl, IsUtf8, length, refl, sym, ◌∙◌, ap, subst, arith}
use Rattle.ciborium_ll.specs.{Bytes.{AreBytes, greatest_offset}, Item.{Item, bytes, array, map, tag, simple, float}}
use Rattle.ciborium_ll.specs.Item.{Items, no_items, item, items_count, Pairs, no_pairs, pair, pairs_count}
use Rattle.ciborium_ll.specs.Spells.{IsContainer, IsString}
use Rattle.ciborium_value.proofs.Writing.Written.{string_written, parts_enclosed, simple_written, spells_item}
use Rattle.ciborium_value.{proofs.Writing.Written.{items_count-items_of, pairs_count-pairs_of}, specs.Encoding.item_of}
use Rattle.ciborium_value.specs.Encoding.{items_of, pairs_of, enclosed, items_bytes, pairs_bytes, written_string}
use Rattle.ciborium_value.specs.Folded.{folded, trees_folded, tree_pairs_folded, short_bytes, tree_folding_bytes}
use Rattle.ciborium_value.specs.Meaning.{meaning, items_meaning, pairs_meaning, simple_meaning, short_string}
use Rattle.ciborium_value.specs.Meaning.{is_bignum_tag, tag_meaning, trees_more, tree_pairs_more}
use Rattle.ciborium_value.specs.{ProperTrees.{IsProperTree, AreProperTrees, AreProperTreePairs}, Tree.{Tree, Trees}}
use Rattle.ciborium_value.specs.{Tree.TreePairs, WrittenItems.{IsAnnounced, IsWritten, AreWritten, PairsAreWritten}}
use Rattle.ciborium_value.specs.WrittenItems.{WrittenSpells, WrittenTreeFolds, WrittenTreeIsProper}
use Rattle.ciborium_value.specs.WrittenTrees.{simple_tree, written_pairs, written_tree, written_trees}
use Rattle.ciborium_value.specs.Tree as trees

-- ---- it spells the item

enclosed_as_announced : (open_ : Bool) (major count : ℕ) (r : List ℕ) → IsAnnounced open_ count →
    IsContainer open_ major count (enclosed open_ major count r) r
enclosed_as_announced false major count r fits = parts_enclosed false major count r fits
enclosed_as_announced true major count r fits = refl

string_as_written : (o : Bool) (major : ℕ) (IsAllowed : List ℕ → Type 0) (b : List ℕ) → o ≡ false → IsAllowed b →
    length b ≤ greatest_offset → IsString o major IsAllowed (written_string o major b) b
string_as_written false major IsAllowed b closed h fits = string_written false major IsAllowed b h fits
string_as_written true major IsAllowed b closed h fits = cc

pub written_spells_item : WrittenSpells
written_spells_item = spells_item IsWritten AreWritten PairsAreWritten (λ n h. h) (λ n h. h)
    (λ o b h. string_as_written o 2 AreBytes b h.0 h.1.0 h.1.1)
    (λ o b h. string_as_written o 3 IsUtf8 b h.0 h.1.0 h.1.1.1)
    (λ o is h. (enclosed_as_announced o 4 (items_count is) (items_bytes is) h.0, h.1))
    (λ o ps h. (enclosed_as_announced o 5 (pairs_count ps) (pairs_bytes ps) h.0, h.1)) (λ t i h. h)
    (λ n h. let small : n < 23 = h.1 in simple_written n (inl (omega (arith, small)))) (λ raw h. absurd h)
    (λ i is h. h) (λ k v ps h. h)

-- ---- it means the folding of its tree

-- a simple value that is written is false, true or null
by_simple : (P : ℕ → Type 0) → P 20 → P 21 → P 22 → (n : ℕ) → 20 ≤ n → n < 23 → P n
by_simple P a b c n low high = by (n - 20) (omega (arith, low, high)) (omega (arith, low))
  where
    by : (m : ℕ) → m < 3 → n ≡ 20 + m → P n
    by zero lt e = subst P (sym e) a
    by (suc zero) lt e = subst P (sym e) b
    by (suc (suc zero)) lt e = subst P (sym e) c
    by (suc (suc (suc m))) lt e = absurd (omega (arith, lt))

simple-folds : (n : ℕ) → 20 ≤ n → n < 23 → simple_meaning n ≡ folded (simple_tree n)
unfolding simple_meaning
simple-folds n low high = by_simple (λ n. simple_meaning n ≡ folded (simple_tree n)) refl refl refl n low high

simple-no_bytes : (n : ℕ) → 20 ≤ n → n < 23 → None ≡ short_bytes (simple_tree n)
simple-no_bytes n low high = by_simple (λ n. None ≡ short_bytes (simple_tree n)) refl refl refl n low high

short-bytes : (i : Item) → IsWritten i → short_string i ≡ short_bytes (written_tree i)
short-bytes (bytes true b) h = let no : true ≡ false = h.0 in cc
short-bytes (simple n) h = simple-no_bytes n h.0 h.1
short-bytes (float raw) h = absurd h
short-bytes _ h = refl

mutual
  pub written_item_folds : (i : Item) → IsWritten i → meaning i ≡ folded (written_tree i)
  written_item_folds (array open_ is) h = ap (option_map trees.array) (written_items_fold is h.1)
  written_item_folds (map open_ ps) h = ap (option_map trees.map) (written_pairs_fold ps h.1)
  written_item_folds (tag t i) h = ap (λ o. tag_meaning t (cond (is_bignum_tag t) o None) (meaning i))
      (short-bytes i h.1) ∙ ap (tag_meaning t (tree_folding_bytes t (written_tree i))) (written_item_folds i h.1)
  written_item_folds (simple n) h = simple-folds n h.0 h.1
  written_item_folds (float raw) h = absurd h
  written_item_folds _ h = refl

  written_items_fold : (is : Items) → AreWritten is → items_meaning is ≡ trees_folded (written_trees is)
  written_items_fold no_items h = refl
  written_items_fold (item i is) h = ap (λ m. trees_more m (items_meaning is)) (written_item_folds i h.0) ∙
      ap (trees_more (folded (written_tree i))) (written_items_fold is h.1)

  written_pairs_fold : (ps : Pairs) → PairsAreWritten ps → pairs_meaning ps ≡ tree_pairs_folded (written_pairs ps)
  written_pairs_fold no_pairs h = refl
  written_pairs_fold (pair k v ps) h =
      ap (λ m. tree_pairs_more m (meaning v) (pairs_meaning ps)) (written_item_folds k h.0) ∙
      ap (λ m. tree_pairs_more (folded (written_tree k)) m (pairs_meaning ps)) (written_item_folds v h.1) ∙
      ap (tree_pairs_more (folded (written_tree k)) (folded (written_tree v))) (written_pairs_fold ps h.2)

pub written_tree_folds : WrittenTreeFolds
written_tree_folds i h = written_item_folds i h

-- ---- the item of a tree

mutual
  proper : (v : Tree) → IsWritten (item_of v) → IsProperTree v
  proper (trees.integer (pos n)) h = h
  proper (trees.integer (negsuc n)) h = h
  proper (trees.bytes b) h = h.1
  proper (trees.text b) h = h.1
  proper (trees.boolean b) h = tt
  proper trees.null h = tt
  proper (trees.tag t v) h = (h.0, proper v h.1)
  proper (trees.array vs) h = (rw (sym (items_count-items_of vs)) h.0, all_proper vs h.1)
  proper (trees.map ps) h = (rw (sym (pairs_count-pairs_of ps)) h.0, pairs_proper ps h.1)

  all_proper : (vs : Trees) → AreWritten (items_of vs) → AreProperTrees vs
  all_proper trees.no_trees h = tt
  all_proper (trees.tree v vs) h = (proper v h.0, all_proper vs h.1)

  pairs_proper : (ps : TreePairs) → PairsAreWritten (pairs_of ps) → AreProperTreePairs ps
  pairs_proper trees.no_tree_pairs h = tt
  pairs_proper (trees.tree_pair k v ps) h = (proper k h.0, proper v h.1, pairs_proper ps h.2)

pub written_tree_is_proper : WrittenTreeIsProper
written_tree_is_proper v h = proper v h
