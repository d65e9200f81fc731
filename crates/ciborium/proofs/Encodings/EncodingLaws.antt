-- The encoding of a tree is its own alone, and the shortest spelling.
use Rattle.std.proofs.Common.{◌≡◌, ℕ, ◌<◌, ◌⊎◌, inl, inr, List, [], ◌++◌, length, true, false, pos, negsuc, IsUtf8}
use Rattle.std.proofs.Common.{refl, sym, ap, ◌∙◌, subst, arith, length-append, append-nil, nat_cmp}
use Rattle.std.proofs.{Math.Nat.eq-or-lt_of_le, lemmas.{Bool.Decides.nat_tests, Cmp.{tied_itself, nat_cmp_total}}}
use Rattle.std.specs.{Cmp.Lexicographic.slice_cmp, Ordering.ordering_then}
use Rattle.ciborium_ll.proofs.{HeadOrder.then_equal, ShortestHead.{none_is_shorter, no_other_is_as_short}}
use Rattle.ciborium_ll.{proofs.UniqueSpelling.one_item, specs.{Bytes.AreBytes, Head.{IsHead, shortest_head, IsSimple}}}
use Rattle.ciborium_ll.specs.{Head.simple_bytes, Item.{items_count, pairs_count}, Spells.IsDefiniteString}
use Rattle.ciborium_ll.specs.Spells.{IsContainer, Spells, SpellsItems, SpellsPairs}
use Rattle.ciborium_value.proofs.Orders.{HeadsInOrder.heads_decide, TreeEncodings.encoding-spells}
use Rattle.ciborium_value.specs.{Encoding.{item_of, items_of, pairs_of, encoding, items_bytes, pairs_bytes}, Tree.Tree}
use Rattle.ciborium_value.specs.Tree.{integer, bytes, text, boolean, null, tag, array, map, Trees, no_trees, tree}
use Rattle.ciborium_value.specs.{Tree.{TreePairs, no_tree_pairs, tree_pair}, WrittenTrees.written_tree}
use Rattle.ciborium_value.specs.lemmas.ItemsOfTrees.{tree_is_written_as_itself}
use Rattle.ciborium.specs.laws.EncodingLaws.{OneTree, EncodingSpells, OthersAreLonger, HeadsRise}

pub encoding_spells : EncodingSpells
encoding_spells = encoding-spells

-- ---- one tree

pub one_tree : OneTree
one_tree v w h k e =
    let same : item_of v ≡ item_of w = one_item (encoding v) (item_of v) (item_of w) (encoding-spells v h)
    (subst (λ b. Spells b (item_of w)) (sym e) (encoding-spells w k)) in
    sym (tree_is_written_as_itself v) ∙ ap written_tree same ∙ tree_is_written_as_itself w

-- ---- the shortest spelling

-- s is b, or longer
abbrev IsOrLonger : List ℕ → List ℕ → Type 0
IsOrLonger b s = (s ≡ b) ⊎ (length b < length s)

joined_longer : (a b s t : List ℕ) → IsOrLonger a s → IsOrLonger b t → IsOrLonger (a ++ b) (s ++ t)
joined_longer a b s t (inl h) (inl k) = inl (ap (λ l. l ++ t) h ∙ ap (λ l. a ++ l) k)
joined_longer a b s t (inl h) (inr k) = inr (omega (arith, ap length h, k, length-append a b, length-append s t))
joined_longer a b s t (inr h) (inl k) = inr (omega (arith, h, ap length k, length-append a b, length-append s t))
joined_longer a b s t (inr h) (inr k) = inr (omega (arith, h, k, length-append a b, length-append s t))

head_longer : (major n : ℕ) (s : List ℕ) → IsHead s major n → IsOrLonger (shortest_head major n) s
head_longer major n s h = by_length (eq-or-lt_of_le (none_is_shorter s major n h))
  where
    by_length : (length (shortest_head major n) ≡ length s) ⊎ (length (shortest_head major n) < length s) →
        IsOrLonger (shortest_head major n) s
    by_length (inl same) = inl (no_other_is_as_short s major n h (omega (arith, same)))
    by_length (inr long) = inr long

string_longer : (major : ℕ) (IsAllowed : List ℕ → Type 0) (s b : List ℕ) → IsDefiniteString major IsAllowed s b →
    IsOrLonger (shortest_head major (length b) ++ b) s
string_longer major IsAllowed s b (h, spelled, allowed, e) = subst (IsOrLonger (shortest_head major (length b) ++ b))
    (sym e) (joined_longer (shortest_head major (length b)) b h b (head_longer major (length b) h spelled) (inl refl))

enclosed_longer : (major count : ℕ) (s r b : List ℕ) → IsContainer false major count s r → IsOrLonger b r →
    IsOrLonger (shortest_head major count ++ b) s
enclosed_longer major count s r b (h, spelled, e) parts = subst (IsOrLonger (shortest_head major count ++ b)) (sym e)
    (joined_longer (shortest_head major count) b h r (head_longer major count h spelled) parts)

simple_longer : (n : ℕ) (s : List ℕ) → n < 24 → IsSimple s n → IsOrLonger (simple_bytes n) s
simple_longer n s small (inl h) = inl (h.1 ∙ grind (arith, nat_tests, small))
simple_longer n s small (inr h) = absurd (let large = h.0 in omega (arith, small, large))

mutual
  others_longer : (v : Tree) (s : List ℕ) → Spells s (item_of v) → IsOrLonger (encoding v) s
  others_longer (integer (pos n)) s h = head_longer 0 n s h
  others_longer (integer (negsuc n)) s h = head_longer 1 n s h
  others_longer (bytes b) s h = string_longer 2 AreBytes s b h
  others_longer (text b) s h = string_longer 3 IsUtf8 s b h
  others_longer (boolean false) s h = simple_longer 20 s (omega arith) h
  others_longer (boolean true) s h = simple_longer 21 s (omega arith) h
  others_longer null s h = simple_longer 22 s (omega arith) h
  others_longer (tag t v) s (h, r, spelled, content, e) = subst (IsOrLonger (encoding (tag t v))) (sym e)
      (joined_longer (shortest_head 6 t) (encoding v) h r (head_longer 6 t h spelled) (others_longer v r content))
  others_longer (array vs) s h = enclosed_longer 4 (items_count (items_of vs)) s h.0 (items_bytes (items_of vs)) h.2
      (other_items_longer vs h.0 h.1)
  others_longer (map ps) s h = enclosed_longer 5 (pairs_count (pairs_of ps)) s h.0 (pairs_bytes (pairs_of ps)) h.2
      (other_pairs_longer ps h.0 h.1)

  other_items_longer : (vs : Trees) (s : List ℕ) → SpellsItems s (items_of vs) →
      IsOrLonger (items_bytes (items_of vs)) s
  other_items_longer no_trees s h = inl h
  other_items_longer (tree v vs) s (t, r, first, more, e) = subst (IsOrLonger (items_bytes (items_of (tree v vs))))
      (sym e) (joined_longer (encoding v) (items_bytes (items_of vs)) t r (others_longer v t first)
      (other_items_longer vs r more))

  other_pairs_longer : (ps : TreePairs) (s : List ℕ) → SpellsPairs s (pairs_of ps) →
      IsOrLonger (pairs_bytes (pairs_of ps)) s
  other_pairs_longer no_tree_pairs s h = inl h
  other_pairs_longer (tree_pair k v ps) s h = subst (IsOrLonger (pairs_bytes (pairs_of (tree_pair k v ps)))) (sym h.6)
      (joined_longer (encoding k) (encoding v ++ pairs_bytes (pairs_of ps)) h.0 (h.1 ++ h.2) (others_longer k h.0 h.3)
      (joined_longer (encoding v) (pairs_bytes (pairs_of ps)) h.1 h.2 (others_longer v h.1 h.4)
      (other_pairs_longer ps h.2 h.5)))

pub others_are_longer : OthersAreLonger
others_are_longer v s h spelled = others_longer v s spelled

-- ---- heads

pub heads_rise : HeadsRise
heads_rise major n k h l =
    ap (λ b. slice_cmp nat_cmp b (shortest_head major k)) (sym (append-nil (shortest_head major n))) ∙
    ap (slice_cmp nat_cmp (shortest_head major n ++ [])) (sym (append-nil (shortest_head major k))) ∙
    heads_decide major major n k [] [] h l ∙ then_equal (ordering_then (nat_cmp major major) (nat_cmp n k)) ∙
    ap (λ o. ordering_then o (nat_cmp n k)) (tied_itself nat_cmp_total major)
