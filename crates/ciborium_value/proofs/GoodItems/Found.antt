-- What is read at the front, in any spelling, is what the reader answers.
use Rattle.std.proofs.Common.{◌≡◌, ℕ, zero, suc, ◌+◌, ◌*◌, ◌<◌, ◌≤◌, cond, ltb, eqb, Bool, true, false, ◌&&◌, List, []}
use Rattle.std.proofs.Common.{◌∷◌, ◌++◌, length, Option, Some, None, option_map, pos, negsuc, refl, sym, ap, ◌∙◌, subst}
use Rattle.std.proofs.Common.{arith, inl, inr, length-append, append_assoc, append-nil, lt-ltb, eqb-true}
use Rattle.std.proofs.lemmas.{Bool.{cond-true, Decides.nat_tests}, Str.is_utf8-from_IsUtf8}
use Rattle.ciborium_ll.proofs.{CutHeads.each-byte, FrontHeads.{plain, front, front-simple}}
use Rattle.ciborium_ll.proofs.{ShortestHead.shortest_is_head, UsableHeads.{stands-usable, stands-length, IsStringMajor}}
use Rattle.ciborium_ll.{proofs.UsableHeads.pass, specs.{Bytes.greatest_offset, Head.{IsHead, IsSimple, shortest_head}}}
use Rattle.ciborium_ll.specs.{Item.Item, ProperItems.IsArgument, Refusal.{is_reserved, semantic, IsUsable, HasHead}}
use Rattle.ciborium_ll.specs.{Spells.{AreChunks, joined, IsString, Spells}, StringRefusal.{string_major, IsAllowed}}
use Rattle.ciborium_ll.specs.declared.{kind.Kind.TheVariants.{Break, Simple, TooLarge}, strings.StringType.StringType}
use Rattle.ciborium_value.proofs.GoodItems.{Accepted.{anyway, accepted, deterministic_tree}, Bignums.foldable-is}
use Rattle.ciborium_value.proofs.GoodItems.{Bignums.kept-whole, Faults.{short-fault, fault-simple}}
use Rattle.ciborium_value.proofs.GoodItems.{Introduced.type-below, Parts.{within-zero, lower, levels-below, due-first}}
use Rattle.ciborium_value.proofs.GoodItems.Parts.{is-in_order, order-before, elements, turns, elements-in, turns-in}
use Rattle.ciborium_value.proofs.GoodItems.Parts.{due_after, AreReadAs, HasParts, empty-order, same-keys}
use Rattle.ciborium_value.proofs.GoodItems.Parts.{elements-due, turns-due, open-elements-due, open-turns-due}
use Rattle.ciborium_value.proofs.GoodItems.Parts.{keys-turns, read-items, read-pairs, written-trees, written-pairs}
use Rattle.ciborium_value.proofs.GoodItems.Reader.{Answer, ends, refused, and_then, made, given, past, allowed, string}
use Rattle.ciborium_value.proofs.GoodItems.Reader.{pieces, break_at, end_at, or_end, is_unwanted, bignum, counted_item}
use Rattle.ciborium_value.proofs.GoodItems.{Reader.{opened_item, next_part, read, parts}, Spelled.spells-pos}
use Rattle.ciborium_value.proofs.GoodItems.{Spelled.{folds-front, folds-some, none-folds, not_so}, Steps.opened-has}
use Rattle.ciborium_value.proofs.GoodItems.Steps.{simple-has, read-head, read-counted, read-opened, ended-has}
use Rattle.ciborium_value.proofs.GoodItems.Steps.{opens-read, tag-at, string-good, pieces-run, pieces-break}
use Rattle.ciborium_value.proofs.Writing.Written.{written_spells, IsProperItem-item_of, items_count-items_of}
use Rattle.ciborium_value.{proofs.Writing.Written.pairs_count-pairs_of, specs.Counts.{trees_count, tree_pairs_count}}
use Rattle.ciborium_value.specs.{Deterministic.AreRising, DeterministicTrees.IsDeterministicTree, Encoding.encoding}
use Rattle.ciborium_value.specs.{Encoding.{item_of, items_of, pairs_of, items_bytes, pairs_bytes}, Folded.folded}
use Rattle.ciborium_value.specs.Meaning.{meaning, items_meaning, pairs_meaning, simple_meaning, bignum_meaning}
use Rattle.ciborium_value.specs.{Meaning.{folding_bytes, tag_meaning}, Nesting.{nesting, tag_nesting, items_nesting}}
use Rattle.ciborium_value.specs.{Nesting.{pairs_nesting, Limit, IsWithin, IsOneLess}, ProperTrees.IsProperTree}
use Rattle.ciborium_value.specs.Refuses.{HasGoodHead, Due, items, keys, values, next_due, keys_among, BeginsContainer}
use Rattle.ciborium_value.specs.{Refuses.{IsTagAt}, Spelling.{Spelling, keys_in}}
use Rattle.ciborium_value.specs.Spelling.{any, deterministic, IsReadAs, spelling_fault, IsUnwanted, AreInOrder}
use Rattle.ciborium_value.specs.{Tree.{Tree, Trees, TreePairs}, View.trees_from, WrittenTrees.written_tree}
use Rattle.ciborium_value.specs.{declared.key_order.KeyOrder.KeyOrder, inner.ReadItems.{string_tree, IsComplete}}
use Rattle.ciborium_value.specs.inner.ReadItems.{pairs_in, container_of}
use Rattle.ciborium_value.specs.lemmas.ItemsOfTrees.{tree_is_written_as_itself}
use Rattle.ciborium_ll.specs.Item as item
use Rattle.ciborium_value.specs.Tree as trees

pub type_allowed : (c : StringType) (t : List ℕ) → IsAllowed c t → allowed (string_major c) t ≡ true
type_allowed StringType.Bytes t h = refl
type_allowed StringType.Text t h = is_utf8-from_IsUtf8 t h

pub kind_major : (c : StringType) → IsStringMajor (string_major c)
kind_major StringType.Bytes = inl refl
kind_major StringType.Text = inr refl

pub simple-front : (s : List ℕ) (n : ℕ) (r : List ℕ) → IsSimple s n → front (s ++ r) ≡ plain n r
simple-front s n r (inl h) = ap (λ (c : List ℕ). front (c ++ r)) h.1 ∙ front-simple n r h.0
simple-front s n r (inr h) = ap (λ (c : List ℕ). front (c ++ r)) h.2

simple_high : (n : ℕ) → 32 ≤ n → simple_meaning n ≡ None
unfolding simple_meaning
simple_high n h = grind (arith, nat_tests)

complete-end : (now : Due) (b r : List ℕ) (p q : ℕ) → IsComplete now b p r q → end_at now b p ≡ Some (r, q)
complete-end (items None) b r p q (e, at, fits) =
    ap (λ (c : List ℕ). break_at c p) e ∙ ap (λ t. cond (t && true) (Some (r, p + 1)) None)
    (lt-ltb p greatest_offset (omega (arith, at, fits))) ∙ ap (λ u. Some (r, u)) at
complete-end (items (Some zero)) b r p q (z, e, at) = ap (λ c. Some (c, p)) e ∙ ap (λ u. Some (r, u)) at
complete-end (items (Some (suc n))) b r p q (z, e, at) = let never : ⊥ = omega (arith, z) in absurd never
complete-end (keys None) b r p q (e, at, fits) =
    ap (λ (c : List ℕ). break_at c p) e ∙ ap (λ t. cond (t && true) (Some (r, p + 1)) None)
    (lt-ltb p greatest_offset (omega (arith, at, fits))) ∙ ap (λ u. Some (r, u)) at
complete-end (keys (Some zero)) b r p q (z, e, at) = ap (λ c. Some (c, p)) e ∙ ap (λ u. Some (r, u)) at
complete-end (keys (Some (suc n))) b r p q (z, e, at) = let never : ⊥ = omega (arith, z) in absurd never
complete-end (values n) b r p q h = absurd h

module _ (spelling : Spelling) where
  -- a break cannot be read
  not-break : (d p q b r v l : _) → read spelling d b p l ≡ ends v r q → break_at b p ≡ None
  not-break zero p q b r v l h = absurd cc
  not-break (suc d) p q [] r v l h = refl
  not-break (suc d) p q (x ∷ b) r v l h = by (ltb p greatest_offset) (eqb x 255)
      (λ e f. broken (eqb-true x 255 f))
    where
      broken : x ≡ 255 → ⊥
      broken e =
          let s : x ∷ b ≡ 255 ∷ b = ap (λ y. y ∷ b) e in
          let has = ended-has spelling (suc d) p q (x ∷ b) r v l h in
          let g : ends v r q ≡ refused (semantic p Break) = sym h ∙ read-opened spelling d p (x ∷ b) l 7 b s has in
          cc

      by : (t u : Bool) → (t ≡ true → u ≡ true → ⊥) → ◌≡◌ {A = Option (List ℕ × ℕ)}
          (cond (t && u) (Some (b, p + 1)) None) None
      by true true f = absurd (f refl refl)
      by u v f = refl

  open-on : (d p q : ℕ) (now next : Due) (b r : List ℕ) (v : Tree) (l : Limit) → next_due now ≡ Some next →
      read spelling d b p l ≡ ends v r q → end_at now b p ≡ None
  open-on d p q (items None) next b r v l h e = not-break d p q b r v l e
  open-on d p q (items (Some (suc n))) next b r v l h e = refl
  open-on d p q (keys None) next b r v l h e = not-break d p q b r v l e
  open-on d p q (keys (Some (suc n))) next b r v l h e = refl
  open-on d p q (values n) next b r v l h e = refl
  open-on d p q u next b r v l h e = absurd cc

  parts-end : (d : ℕ) (now : Due) (vs : List Tree) (b r : List ℕ) (p q : ℕ) (l : Limit) → 0 < d →
      end_at now b p ≡ Some (r, q) → parts spelling d (Some now) vs b p l ≡ ends (container_of now vs) r q
  parts-end zero now vs b r p q l h e = let never : ⊥ = omega (arith, h) in absurd never
  parts-end (suc d) now vs b r p q l h e = ap (λ o. or_end o (container_of now vs)
      (and_then (next_part spelling (parts spelling d) now vs p l) (read spelling d b p l))) e

  abbrev pub ReadsAt : ℕ → Type 0
  ReadsAt d = (v : Tree) (s x b : List ℕ) (p q : ℕ) (l : Limit) → IsReadAs spelling s p l v → b ≡ s ++ x →
      q ≡ p + length s → 2 * length b < d → read spelling d b p l ≡ ends v x q

  abbrev pub RunsAt : ℕ → Type 0
  RunsAt d = (now next : Due) (vs ws : List Tree) (s x b : List ℕ) (p q : ℕ) (l : Limit) (a : Answer Tree) →
      AreReadAs spelling s p l ws → due_after now ws ≡ Some next → AreInOrder spelling (keys_among now (vs ++ ws)) →
      b ≡ s ++ x → q ≡ p + length s → 2 * length b + 1 < d →
      ((c : ℕ) → 2 * length x + 1 < c → parts spelling c (Some next) (vs ++ ws) x q l ≡ a) →
      parts spelling d (Some now) vs b p l ≡ a

  -- an array or map that is complete
  container-read : (d : ℕ) → RunsAt d → (b p l below vs r s q u now : _) → HasParts spelling b p l vs r q now below →
      IsComplete now r q s u → 2 * length b < suc d → read spelling (suc d) b p l ≡ ends (container_of now vs) s u
  container-read d run b p l below vs r s q u now i done fuel =
      let z = opens-read spelling d p i.size b (i.good ++ r) i.start l i.head i.begins in
      let at = i.at in
      z.0 ∙ levels-below l below (parts spelling d (Some i.start) [] (i.good ++ r) (p + i.size)) i.level ∙
      run i.start now [] vs i.good r (i.good ++ r) (p + i.size) q below (ends (container_of now vs) s u)
      i.parts i.due i.in_order refl at (omega (arith, z.1, z.2, fuel))
      (λ c lc. parts-end c now vs r s q u below (omega (arith, lc)) (complete-end now r s q u done))

  -- ---- heads

  good-head : (b : List ℕ) (m n k p : ℕ) (r : List ℕ) → m < 7 → HasHead b m n k r → spelling_fault spelling b ≡ None →
      p + k ≤ greatest_offset → (IsStringMajor m → p + k + n ≤ greatest_offset) → HasGoodHead spelling b p
  good-head b m n k p r lt st fine fits room = (stands-usable b m n k p r lt st fits room, fine)

  no-string : (m : ℕ) → (m ≡ 2 → ⊥) → (m ≡ 3 → ⊥) → IsStringMajor m → ⊥
  no-string m f g (inl e) = f e
  no-string m f g (inr e) = g e

  positive-read : (d p q n s x b l : _) → IsHead s 0 n → spelling_fault spelling b ≡ None → b ≡ s ++ x →
      q ≡ p + length s → q ≤ greatest_offset → read spelling (suc d) b p l ≡ ends (trees.integer (pos n)) x q
  positive-read d p q n s x b l h fine e k room =
      let st : HasHead b 0 n (length s) x = (s, h, refl, e) in
      read-counted spelling d p q b l 0 n (length s) x (omega arith) st
      (good-head b 0 n (length s) p x (omega arith) st fine (omega (arith, k, room))
      (λ z. absurd (no-string 0 (λ i. omega (arith, i)) (λ i. omega (arith, i)) z))) k

  negative-read : (d p q n s x b l : _) → IsHead s 1 n → spelling_fault spelling b ≡ None → b ≡ s ++ x →
      q ≡ p + length s → q ≤ greatest_offset → read spelling (suc d) b p l ≡ ends (trees.integer (negsuc n)) x q
  negative-read d p q n s x b l h fine e k room =
      let st : HasHead b 1 n (length s) x = (s, h, refl, e) in
      read-counted spelling d p q b l 1 n (length s) x (omega arith) st
      (good-head b 1 n (length s) p x (omega arith) st fine (omega (arith, k, room))
      (λ z. absurd (no-string 1 (λ i. omega (arith, i)) (λ i. omega (arith, i)) z))) k

  string-read : (type : StringType) (d p q : ℕ) (h y x b : List ℕ) (l : Limit) → IsHead h (string_major type)
      (length y) → IsAllowed type y → spelling_fault spelling b ≡ None → b ≡ (h ++ y) ++ x →
      q ≡ p + length (h ++ y) → q ≤ greatest_offset → read spelling (suc d) b p l ≡ ends (string_tree type y) x q
  string-read type d p q h y x b l is ok fine e k room =
      let m : ℕ = string_major type in
      let n : ℕ = length y in
      let st : HasHead b m n (length h) (y ++ x) = (h, is, refl, e ∙ append_assoc h y x) in
      let both : length (h ++ y) ≡ length h + n = length-append h y in
      let u : ℕ = p + length h in
      read-counted spelling d p u b l m n (length h) (y ++ x) (type-below type) st
      (good-head b m n (length h) p (y ++ x) (type-below type) st fine (omega (arith, both, k, room))
      (λ z. omega (arith, both, k, room))) refl ∙
      chosen type u ∙ ap (made (string_tree type)) (string-good m n p u y (y ++ x) x refl refl (type_allowed type y ok))
      ∙
      ap (ends (string_tree type y) x) (omega (arith, both, k))
    where
      chosen : (c : StringType) (u : ℕ) → counted_item spelling (read spelling d)
          (λ w. parts spelling d (Some w) []) (string_major c) (length y) (y ++ x) p u l ≡ made (string_tree c)
          (string (string_major c) (length y) (y ++ x) p u)
      chosen StringType.Bytes u = refl
      chosen StringType.Text u = refl

  open_string-read : (type : StringType) (d p q : ℕ) (c : List ℕ) (ys : List (List ℕ)) (x b : List ℕ) (l : Limit) →
      AreChunks (string_major type) (IsAllowed type) c ys → spelling_fault spelling b ≡ None →
      b ≡ (string_major type * 32 + 31) ∷ ((c ++ (255 ∷ [])) ++ x) → q ≡ p + length c + 2 → q ≤ greatest_offset →
      length b < suc d → read spelling (suc d) b p l ≡ ends (string_tree type (joined ys)) x q
  open_string-read type d p q c ys x b l chunks fine e k room fuel =
      let m : ℕ = string_major type in
      let r : List ℕ = c ++ (255 ∷ x) in
      let is : b ≡ (m * 32 + 31) ∷ r = e ∙ ap (λ (z : List ℕ). (m * 32 + 31) ∷ z) (append_assoc c (255 ∷ []) x) in
      let lb : length b ≡ suc (length r) = ap length is in
      let lr : length r ≡ length c + suc (length x) = length-append c (255 ∷ x) in
      let has : IsUsable b p = subst (λ z. IsUsable z p) (sym is) (opened-has m p r (free type)
      (omega (arith, k, room))) in
      read-opened spelling d p b l m r is (has, fine) ∙ chosen type ∙
      ap (made (string_tree type)) (pieces-run m (IsAllowed type) (type-below type) (type_allowed type) d ys c (255 ∷ x)
      r
      (p + 1) (p + 1 + length c) (ends [] x q) chunks refl refl (omega (arith, k, room)) (omega (arith, lb, fuel))
      (λ z lt. pieces-break m z (p + 1 + length c) q x (omega (arith, lt)) (omega (arith, k, room))
      (omega (arith, k)))) ∙
      ap (λ (z : List ℕ). ends (string_tree type z) x q) (append-nil (joined ys))
    where
      free : (k : StringType) → is_reserved (string_major k) 31 ≡ false
      free StringType.Bytes = refl
      free StringType.Text = refl

      chosen : (k : StringType) → opened_item spelling (λ w. parts spelling d (Some w) []) (pieces d) (string_major k)
          (c ++ (255 ∷ x)) p l ≡ made (string_tree k) (pieces d (string_major k) (c ++ (255 ∷ x)) (p + 1))
      chosen StringType.Bytes = refl
      chosen StringType.Text = refl

  simple-read : (d p q n s x b l v : _) → IsSimple s n → simple_meaning n ≡ Some v → spelling_fault spelling b ≡ None →
      b ≡ s ++ x → q ≡ p + length s → q ≤ greatest_offset → read spelling (suc d) b p l ≡ ends v x q
  simple-read d p q n s x b l v (inl h) means fine e k room =
      let is : b ≡ (224 + n) ∷ x = e ∙ ap (λ (c : List ℕ). c ++ x) h.1 in
      let ls : length s ≡ 1 = ap length h.1 in
      let lb : length b ≡ suc (length x) = ap length is in
      let has : IsUsable b p = subst (λ c. IsUsable c p) (sym is) (simple-has n p x h.0 (omega (arith, ls, k, room))) in
      read-head spelling d p b l (plain n x) (has, fine) (ap front is ∙ front-simple n x h.0) ∙
      ap (λ o. given (semantic p Simple) o x (past p b x)) means ∙ ap (ends v x) (omega (arith, lb, ls, k))
  simple-read d p q n s x b l v (inr h) means fine e k room =
      let none : Some v ≡ None = sym means ∙ simple_high n h.0 in absurd cc

  -- ---- tags

  module _ (d : ℕ) (rd : ReadsAt d) (h r x b : List ℕ) (p t q : ℕ) (l : Limit) (i : Item) (head : IsHead h 6 t)
      (split : b ≡ h ++ (r ++ x)) (fine : spelling_fault spelling b ≡ None) (spelled : Spells r i)
      (at : q ≡ p + length h + length r) (fuel : 2 * length b < suc d) where
    lengths : (length b ≡ length h + length (r ++ x)) × (0 < length h)
    lengths = stands-length b 6 t (length h) (r ++ x) (h, head, refl, split)

    content : (m : Limit) (v : Tree) → IsReadAs spelling r (p + length h) m v →
        read spelling d (r ++ x) (p + length h) m ≡ ends v x q
    content m v item =
        let z = lengths in rd v r x (r ++ x) (p + length h) q m item refl at (omega (arith, z.0, z.1, fuel))

    begun : (m : Limit) (v : Tree) → IsReadAs spelling r (p + length h) m v →
        IsTagAt spelling b p t (r ++ x) (p + length h)
    begun m v item =
        let room = (anyway spelling r (p + length h) m v item).4 in
        let st : HasHead b 6 t (length h) (r ++ x) = (h, head, refl, split) in
        record {
          size = length h;
          head = (
            stands-usable b 6 t (length h) p (r ++ x) (omega arith) st (omega (arith, room))
                (λ z. absurd (no-string 6 (λ i. omega (arith, i)) (λ i. omega (arith, i)) z)),
            fine,
          );
          tag = st;
          usable = (ended-has spelling d (p + length h) q (r ++ x) x v m (content m v item)).0;
          at = refl;
        }

    -- with its item
    pub tag-read : (below : Limit) (v : Tree) → folding_bytes t i ≡ None → IsOneLess l below →
        IsReadAs spelling r (p + length h) below v → read spelling (suc d) b p l ≡ ends (trees.tag t v) x q
    tag-read below v none level item = tag-at spelling d p t b (r ++ x) (p + length h) l (begun below v item) ∙
        pass _ _ _ (none-folds t i r x (r ++ x) spelled refl none) ∙
        levels-below l below (λ m. made (trees.tag t) (read spelling d (r ++ x) (p + length h) m)) level ∙
        ap (made (trees.tag t)) (content below v item)

    wanted : (s : Spelling) (y : List ℕ) → (IsUnwanted s y → ⊥) → is_unwanted s y ≡ false
    wanted any y f = refl
    wanted (deterministic order) y f = not_so _ (λ e. f (foldable-is y e))

    -- folded
    pub folded-read : (y v : _) → folding_bytes t i ≡ Some y → IsReadAs spelling r (p + length h) l (trees.bytes y) →
        (IsUnwanted spelling y → ⊥) → bignum_meaning t y ≡ Some v → read spelling (suc d) b p l ≡ ends v x q
    folded-read y v some item fold means =
        tag-at spelling d p t b (r ++ x) (p + length h) l (begun l (trees.bytes y) item) ∙
        cond-true _ _ _ (folds-front t (r ++ x) (folds-some t i r x (r ++ x) y spelled refl some).0) ∙
        ap (and_then (bignum spelling t p)) (content l (trees.bytes y) item) ∙
        pass _ _ _ (wanted spelling y fold) ∙ ap (λ o. given (semantic p TooLarge) o x q) means

  -- ---- containers

  array-read : (d : ℕ) → RunsAt d → (b : List ℕ) (p n k q : ℕ) (l below : Limit) (vs : List Tree) (g x : List ℕ) →
      HasHead b 4 n k (g ++ x) → spelling_fault spelling b ≡ None → IsOneLess l below →
      AreReadAs spelling g (p + k) below vs → due_after (items (Some n)) vs ≡ Some (items (Some 0)) →
      q ≡ p + k + length g → q ≤ greatest_offset → 2 * length b < suc d →
      read spelling (suc d) b p l ≡ ends (trees.array (trees_from vs)) x q
  array-read d run b p n k q l below vs g x st fine level read due at fits fuel =
      container-read d run b p l below vs x x q q (items (Some 0)) (record {
        size = k;
        good = g;
        start = items (Some n);
        head = good-head b 4 n k p (g ++ x) (omega arith) st fine (omega (arith, at, fits))
            (λ z. absurd (no-string 4 (λ i. omega (arith, i)) (λ i. omega (arith, i)) z));
        begins = BeginsContainer.array n st;
        level = level;
        parts = read;
        in_order = empty-order spelling;
        due = due;
        at = at;
        fits = fits;
      }) (refl, refl, refl) fuel

  map-read : (d : ℕ) → RunsAt d →
      (b : List ℕ) (p n k q : ℕ) (l below : Limit) (vs : List Tree) (g x : List ℕ) → HasHead b 5 n k (g ++ x) →
      spelling_fault spelling b ≡ None → IsOneLess l below → AreReadAs spelling g (p + k) below vs →
      AreInOrder spelling (keys_in vs) → due_after (keys (Some n)) vs ≡ Some (keys (Some 0)) → q ≡ p + k + length g →
      q ≤ greatest_offset → 2 * length b < suc d → read spelling (suc d) b p l ≡ ends (trees.map (pairs_in vs)) x q
  map-read d run b p n k q l below vs g x st fine level read order due at fits fuel =
      container-read d run b p l below vs x x q q (keys (Some 0)) (record {
        size = k;
        good = g;
        start = keys (Some n);
        head = good-head b 5 n k p (g ++ x) (omega arith) st fine (omega (arith, at, fits))
            (λ z. absurd (no-string 5 (λ i. omega (arith, i)) (λ i. omega (arith, i)) z));
        begins = BeginsContainer.map n st;
        level = level;
        parts = read;
        in_order = order;
        due = due;
        at = at;
        fits = fits;
      }) (refl, refl, refl) fuel

  -- parts in a row
  parts-read : (d : ℕ) → ReadsAt d → RunsAt d → RunsAt (suc d)
  parts-read d rd run now next vs [] s x b p q l a read due order e k fuel then =
      let same : now ≡ next = cc in
      let none : length s ≡ 0 = ap length read in
      let is : b ≡ x = e ∙ ap (λ (c : List ℕ). c ++ x) read in
      let lb : length b ≡ length x = ap length is in
      ap (λ w. parts spelling (suc d) (Some w) vs b p l) same ∙
      ap (λ (c : List ℕ). parts spelling (suc d) (Some next) vs c p l) is ∙
      ap (λ z. parts spelling (suc d) (Some next) vs x z l) (omega (arith, k, none)) ∙
      ap (λ (us : List Tree). parts spelling (suc d) (Some next) us x q l) (sym (append-nil vs)) ∙
      then (suc d) (omega (arith, lb, fuel))
  parts-read d rd run now next vs (v ∷ ws) s x b p q l a (c, t, first, rest, f) due order e k fuel then =
      let one = due-first now v ws next due in
      let is : b ≡ c ++ (t ++ x) = e ∙ ap (λ (z : List ℕ). z ++ x) f ∙ append_assoc c t x in
      let lb : length b ≡ length c + length (t ++ x) = ap length is ∙ length-append c (t ++ x) in
      let ls : length s ≡ length c + length t = ap length f ∙ length-append c t in
      let item = anyway spelling c p l v first in
      let some : 0 < length c = spells-pos item.0 c item.1 in
      let done : read spelling d b p l ≡ ends v (t ++ x) (p + length c) =
      rd v c (t ++ x) b p (p + length c) l first is refl (omega (arith, fuel)) in
      let again : vs ++ (v ∷ ws) ≡ (vs ++ (v ∷ [])) ++ ws = sym (append_assoc vs (v ∷ []) ws) in
      let more : AreInOrder spelling (keys_among now ((vs ++ (v ∷ [])) ++ ws)) =
      subst (λ us. AreInOrder spelling (keys_among now us)) again order in
      ap (λ o. or_end o (container_of now vs)
      (and_then (next_part spelling (parts spelling d) now vs p l) (read spelling d b p l)))
      (open-on d p (p + length c) now one.0 b (t ++ x) v l one.1 done) ∙
      ap (and_then (next_part spelling (parts spelling d) now vs p l)) done ∙
      cond-true _ _ _ (is-in_order spelling (keys_among now (vs ++ (v ∷ [])))
      (order-before spelling now (vs ++ (v ∷ [])) ws more)) ∙
      ap (λ o. parts spelling d o (vs ++ (v ∷ [])) (t ++ x) (p + length c) l) one.1 ∙
      run one.0 next (vs ++ (v ∷ [])) ws t x (t ++ x) (p + length c) q l a rest one.2
      (subst (AreInOrder spelling) (sym (same-keys now one.0 ((vs ++ (v ∷ [])) ++ ws) one.1)) more) refl
      (omega (arith, k, ls)) (omega (arith, lb, some, fuel))
      (λ z lt. ap (λ (us : List Tree). parts spelling z (Some next) us x q l) (sym again) ∙ then z lt)

open-usable : (m : ℕ) (g x b : List ℕ) (p : ℕ) → is_reserved m 31 ≡ false → b ≡ (m * 32 + 31) ∷ (g ++ (255 ∷ x)) →
    p < greatest_offset → IsUsable b p
open-usable m g x b p free e room = subst (λ c. IsUsable c p) (sym e) (opened-has m p (g ++ (255 ∷ x)) free room)

-- ---- any spelling

module _ (d : ℕ) (rd : ReadsAt any d) (run : RunsAt any d) (x b : List ℕ) (p q : ℕ) (l : Limit) where
  any-string : (type : StringType) (o : Bool) (y s : List ℕ) → IsString o (string_major type) (IsAllowed type) s y →
      b ≡ s ++ x → q ≡ p + length s → q ≤ greatest_offset → 2 * length b < suc d →
      read any (suc d) b p l ≡ ends (string_tree type y) x q
  any-string type false y s (h, is, ok, e) f k room fuel =
      string-read any type d p q h y x b l is ok refl (f ∙ ap (λ (c : List ℕ). c ++ x) e)
      (k ∙ ap (λ (c : List ℕ). p + length c) e) room
  any-string type true y s (ys, c, chunks, same, e) f k room fuel =
      let ls : length s ≡ suc (length (c ++ (255 ∷ []))) = ap length e in
      let lc : length (c ++ (255 ∷ [])) ≡ length c + 1 = length-append c (255 ∷ []) in
      open_string-read any type d p q c ys x b l chunks refl (f ∙ ap (λ (z : List ℕ). z ++ x) e)
      (omega (arith, k, ls, lc)) room (omega (arith, fuel)) ∙
      ap (λ (z : List ℕ). ends (string_tree type z) x q) (sym same)

  any-array : (o : Bool) (is : item.Items) (ts : Trees) (s : List ℕ) → Spells s (item.array o is) →
      items_meaning is ≡ Some ts → IsWithin l (suc (items_nesting is)) → b ≡ s ++ x → q ≡ p + length s →
      q ≤ greatest_offset → 2 * length b < suc d → read any (suc d) b p l ≡ ends (trees.array ts) x q
  any-array false is ts s (g, spelled, (h, head, e)) means nests f k room fuel =
      let w = lower l (items_nesting is) nests in
      let ls : length s ≡ length h + length g = ap length e ∙ length-append h g in
      let r = read-items is ts g (p + length h) w.0 spelled means w.1 (omega (arith, k, ls, room)) in
      array-read any d run b p (item.items_count is) (length h) q l w.0 (elements ts) g x
      (h, head, refl, f ∙ ap (λ (c : List ℕ). c ++ x) e ∙ append_assoc h g x) refl w.2 r.0
      (ap (λ n. due_after (items (Some n)) (elements ts)) r.1 ∙ elements-due ts) (omega (arith, k, ls)) room fuel ∙
      ap (λ us. ends (trees.array us) x q) (elements-in ts)
  any-array true is ts s (g, spelled, e) means nests f k room fuel =
      let w = lower l (items_nesting is) nests in
      let split : b ≡ 159 ∷ (g ++ (255 ∷ x)) = f ∙ ap (λ (c : List ℕ). c ++ x) e ∙
      ap (λ (c : List ℕ). 159 ∷ c) (append_assoc g (255 ∷ []) x) in
      let ls : length s ≡ suc (length (g ++ (255 ∷ []))) = ap length e in
      let lg : length (g ++ (255 ∷ [])) ≡ length g + 1 = length-append g (255 ∷ []) in
      let r = read-items is ts g (p + 1) w.0 spelled means w.1 (omega (arith, k, ls, lg, room)) in
      container-read any d run b p l w.0 (elements ts) (255 ∷ x) x (p + 1 + length g) q (items None) (record {
        size = 1;
        good = g;
        start = items None;
        head = (open-usable 4 g x b p refl split (omega (arith, k, ls, lg, room)), refl);
        begins = BeginsContainer.open_array refl split;
        level = w.2;
        parts = r.0;
        in_order = tt;
        due = open-elements-due ts;
        at = refl;
        fits = omega (arith, k, ls, lg, room);
      }) (refl, omega (arith, k, ls, lg), room) fuel ∙
      ap (λ us. ends (trees.array us) x q) (elements-in ts)

  any-map : (o : Bool) (ps : item.Pairs) (ts : TreePairs) (s : List ℕ) → Spells s (item.map o ps) →
      pairs_meaning ps ≡ Some ts → IsWithin l (suc (pairs_nesting ps)) → b ≡ s ++ x → q ≡ p + length s →
      q ≤ greatest_offset → 2 * length b < suc d → read any (suc d) b p l ≡ ends (trees.map ts) x q
  any-map false ps ts s (g, spelled, (h, head, e)) means nests f k room fuel =
      let w = lower l (pairs_nesting ps) nests in
      let ls : length s ≡ length h + length g = ap length e ∙ length-append h g in
      let r = read-pairs ps ts g (p + length h) w.0 spelled means w.1 (omega (arith, k, ls, room)) in
      map-read any d run b p (item.pairs_count ps) (length h) q l w.0 (turns ts) g x
      (h, head, refl, f ∙ ap (λ (c : List ℕ). c ++ x) e ∙ append_assoc h g x) refl w.2 r.0 tt
      (ap (λ n. due_after (keys (Some n)) (turns ts)) r.1 ∙ turns-due ts) (omega (arith, k, ls)) room fuel ∙
      ap (λ us. ends (trees.map us) x q) (turns-in ts)
  any-map true ps ts s (g, spelled, e) means nests f k room fuel =
      let w = lower l (pairs_nesting ps) nests in
      let split : b ≡ 191 ∷ (g ++ (255 ∷ x)) = f ∙ ap (λ (c : List ℕ). c ++ x) e ∙
      ap (λ (c : List ℕ). 191 ∷ c) (append_assoc g (255 ∷ []) x) in
      let ls : length s ≡ suc (length (g ++ (255 ∷ []))) = ap length e in
      let lg : length (g ++ (255 ∷ [])) ≡ length g + 1 = length-append g (255 ∷ []) in
      let r = read-pairs ps ts g (p + 1) w.0 spelled means w.1 (omega (arith, k, ls, lg, room)) in
      container-read any d run b p l w.0 (turns ts) (255 ∷ x) x (p + 1 + length g) q (keys None) (record {
        size = 1;
        good = g;
        start = keys None;
        head = (open-usable 5 g x b p refl split (omega (arith, k, ls, lg, room)), refl);
        begins = BeginsContainer.open_map refl split;
        level = w.2;
        parts = r.0;
        in_order = tt;
        due = open-turns-due ts;
        at = refl;
        fits = omega (arith, k, ls, lg, room);
      }) (refl, omega (arith, k, ls, lg), room) fuel ∙
      ap (λ us. ends (trees.map us) x q) (turns-in ts)

  any-tag : (t : ℕ) (i : Item) (v : Tree) (s : List ℕ) → Spells s (item.tag t i) → tag_meaning t (folding_bytes t i)
      (meaning i) ≡ Some v → IsWithin l (tag_nesting (folding_bytes t i) (nesting i)) →
      b ≡ s ++ x → q ≡ p + length s → q ≤ greatest_offset → 2 * length b < suc d → read any (suc d) b p l ≡ ends v x q
  any-tag t i v s (h, r, head, spelled, e) means nests f k room fuel = by (folding_bytes t i) refl means nests
    where
      split : b ≡ h ++ (r ++ x)
      split = f ∙ ap (λ (c : List ℕ). c ++ x) e ∙ append_assoc h r x

      len : length s ≡ length h + length r
      len = ap length e ∙ length-append h r

      by : (o : Option (List ℕ)) → folding_bytes t i ≡ o → tag_meaning t o (meaning i) ≡ Some v →
          IsWithin l (tag_nesting o (nesting i)) → read any (suc d) b p l ≡ ends v x q
      by (Some y) z m n =
          let w = folds-some t i r x (r ++ x) y spelled refl z in
          folded-read any d rd h r x b p t q l i head split refl spelled (omega (arith, k, len)) fuel y v z (
            i,
            spelled,
            ap meaning w.1,
            subst (λ j. IsWithin l (nesting j)) (sym w.1) (within-zero l),
            omega (arith, k, len, room),
            tt,
          ) (λ u. u) m
      by None z m n = of (meaning i) refl m
        where
          of : (o : Option Tree) → meaning i ≡ o → option_map (trees.tag t) o ≡ Some v →
              read any (suc d) b p l ≡ ends v x q
          of None y u = absurd cc
          of (Some w) y u =
              let below = lower l (nesting i) n in
              let same : trees.tag t w ≡ v = cc in
              tag-read any d rd h r x b p t q l i head split refl spelled (omega (arith, k, len)) fuel below.0 w z
              below.2 (i, spelled, y, below.1, omega (arith, k, len, room), tt) ∙ ap (λ z. ends z x q) same

  any-item : (i : Item) (v : Tree) (s : List ℕ) → Spells s i → meaning i ≡ Some v → IsWithin l (nesting i) →
      b ≡ s ++ x → q ≡ p + length s → q ≤ greatest_offset → 2 * length b < suc d → read any (suc d) b p l ≡ ends v x q
  any-item (item.unsigned n) v s h means nests f k room fuel = let same : trees.integer (pos n) ≡ v = cc in
      positive-read any d p q n s x b l h refl f k room ∙ ap (λ w. ends w x q) same
  any-item (item.negative n) v s h means nests f k room fuel = let same : trees.integer (negsuc n) ≡ v = cc in
      negative-read any d p q n s x b l h refl f k room ∙ ap (λ w. ends w x q) same
  any-item (item.bytes o y) v s h means nests f k room fuel = let same : trees.bytes y ≡ v = cc in
      any-string StringType.Bytes o y s h f k room fuel ∙ ap (λ w. ends w x q) same
  any-item (item.text o y) v s h means nests f k room fuel = let same : trees.text y ≡ v = cc in
      any-string StringType.Text o y s h f k room fuel ∙ ap (λ w. ends w x q) same
  any-item (item.array o is) v s h means nests f k room fuel = by (items_meaning is) refl means
    where
      by : (m : Option Trees) → items_meaning is ≡ m → option_map trees.array m ≡ Some v →
          read any (suc d) b p l ≡ ends v x q
      by None e g = absurd cc
      by (Some ts) e g = let same : trees.array ts ≡ v = cc in
          any-array o is ts s h e nests f k room fuel ∙ ap (λ w. ends w x q) same
  any-item (item.map o ps) v s h means nests f k room fuel = by (pairs_meaning ps) refl means
    where
      by : (m : Option TreePairs) → pairs_meaning ps ≡ m → option_map trees.map m ≡ Some v →
          read any (suc d) b p l ≡ ends v x q
      by None e g = absurd cc
      by (Some ts) e g = let same : trees.map ts ≡ v = cc in
          any-map o ps ts s h e nests f k room fuel ∙ ap (λ w. ends w x q) same
  any-item (item.tag t i) v s h means nests f k room fuel = any-tag t i v s h means nests f k room fuel
  any-item (item.simple n) v s h means nests f k room fuel = simple-read any d p q n s x b l v h means refl f k room
  any-item (item.float raw) v s h means nests f k room fuel = absurd cc

-- ---- the deterministic spelling

module _ (order : KeyOrder) (d : ℕ) (rd : ReadsAt (deterministic order) d) (run : RunsAt (deterministic order) d)
    (x b : List ℕ) (p q : ℕ) (l : Limit) where
  abbrev det : Spelling
  det = deterministic order

  -- the shortest head stands at the front
  short : (m n : ℕ) (r : List ℕ) → m < 7 → IsArgument n → b ≡ shortest_head m n ++ r →
      HasHead b m n (length (shortest_head m n)) r × (spelling_fault det b ≡ None)
  short m n r lt few e =
      let st : HasHead b m n (length (shortest_head m n)) r = (
        shortest_head m n,
        shortest_is_head m n few,
        refl,
        e,
      ) in
      (st, short-fault det b m n (length (shortest_head m n)) r lt st (omega arith))

  det-array : (ts : _) → IsDeterministicTree order (trees.array ts) → IsWithin l (nesting (item_of (trees.array ts))) →
      b ≡ encoding (trees.array ts) ++ x → q ≡ p + length (encoding (trees.array ts)) → q ≤ greatest_offset →
      2 * length b < suc d → read det (suc d) b p l ≡ ends (trees.array ts) x q
  det-array ts c nests f k room fuel =
      let n : ℕ = item.items_count (items_of ts) in
      let h : List ℕ = shortest_head 4 n in
      let g : List ℕ = items_bytes (items_of ts) in
      let len : length (h ++ g) ≡ length h + length g = length-append h g in
      let few : trees_count ts ≤ greatest_offset = c.proper.0 in
      let count = items_count-items_of ts in
      let st = short 4 n (g ++ x) (omega arith) (omega (arith, few, count)) (f ∙ append_assoc h g x) in
      let w = lower l (items_nesting (items_of ts)) nests in
      array-read det d run b p n (length h) q l w.0 (elements ts) g x st.0 st.1 w.2
      (written-trees order ts (p + length h) w.0 (c.proper.1, array-some _ _ c.folds, c.rises, w.1)
      (omega (arith, k, len, room)))
      (ap (λ j. due_after (items (Some j)) (elements ts)) count ∙ elements-due ts) (omega (arith, k, len)) room fuel ∙
      ap (λ us. ends (trees.array us) x q) (elements-in ts)
    where
      array-some : (o : Option Trees) (us : Trees) → option_map trees.array o ≡ Some (trees.array us) → o ≡ Some us
      array-some None us e = absurd cc
      array-some (Some ws) us e = cc

  det-map : (ps : _) → IsDeterministicTree order (trees.map ps) → IsWithin l (nesting (item_of (trees.map ps))) →
      b ≡ encoding (trees.map ps) ++ x → q ≡ p + length (encoding (trees.map ps)) → q ≤ greatest_offset →
      2 * length b < suc d → read det (suc d) b p l ≡ ends (trees.map ps) x q
  det-map ps c nests f k room fuel =
      let n : ℕ = item.pairs_count (pairs_of ps) in
      let h : List ℕ = shortest_head 5 n in
      let g : List ℕ = pairs_bytes (pairs_of ps) in
      let len : length (h ++ g) ≡ length h + length g = length-append h g in
      let few : tree_pairs_count ps ≤ greatest_offset = c.proper.0 in
      let count = pairs_count-pairs_of ps in
      let st = short 5 n (g ++ x) (omega arith) (omega (arith, few, count)) (f ∙ append_assoc h g x) in
      let w = lower l (pairs_nesting (pairs_of ps)) nests in
      map-read det d run b p n (length h) q l w.0 (turns ps) g x st.0 st.1 w.2
      (written-pairs order ps (p + length h) w.0 (c.proper.1, map-some _ _ c.folds, c.rises.1, w.1)
      (omega (arith, k, len, room)))
      (subst (AreRising order) (sym (keys-turns ps)) c.rises.0)
      (ap (λ j. due_after (keys (Some j)) (turns ps)) count ∙ turns-due ps) (omega (arith, k, len)) room fuel ∙
      ap (λ us. ends (trees.map us) x q) (turns-in ps)
    where
      map-some : (o : Option TreePairs) (us : TreePairs) → option_map trees.map o ≡ Some (trees.map us) → o ≡ Some us
      map-some None us e = absurd cc
      map-some (Some ws) us e = cc

  det-string : (type : StringType) (y : List ℕ) → IsAllowed type y → length y ≤ greatest_offset →
      b ≡ (shortest_head (string_major type) (length y) ++ y) ++ x →
      q ≡ p + length (shortest_head (string_major type) (length y) ++ y) → q ≤ greatest_offset →
      read det (suc d) b p l ≡ ends (string_tree type y) x q
  det-string type y ok few f k room =
      let m : ℕ = string_major type in
      let h : List ℕ = shortest_head m (length y) in
      let st = short m (length y) (y ++ x) (type-below type) (omega (arith, few)) (f ∙ append_assoc h y x) in
      string-read det type d p q h y x b l (shortest_is_head m (length y) (omega (arith, few))) ok st.1 f k room

  det-simple : (n : ℕ) (v : Tree) → n < 23 → simple_meaning n ≡ Some v → b ≡ ((224 + n) ∷ []) ++ x → q ≡ p + 1 →
      q ≤ greatest_offset → read det (suc d) b p l ≡ ends v x q
  det-simple n v lt means f k room =
      let is : IsSimple ((224 + n) ∷ []) n = inl (omega (arith, lt), refl) in
      simple-read det d p q n ((224 + n) ∷ []) x b l v is means
      (ap (spelling_fault det) f ∙ fault-simple det ((224 + n) ∷ []) n x is (λ e. omega (arith, lt, e))) f k room

  det-tag : (t w : _) → IsDeterministicTree order (trees.tag t w) → IsWithin l (nesting (item_of (trees.tag t w))) →
      b ≡ encoding (trees.tag t w) ++ x → q ≡ p + length (encoding (trees.tag t w)) → q ≤ greatest_offset →
      2 * length b < suc d → read det (suc d) b p l ≡ ends (trees.tag t w) x q
  det-tag t w c nests f k room fuel = by (folding_bytes t (item_of w)) refl nests
    where
      h : List ℕ
      h = shortest_head 6 t

      spelled : Spells (encoding w) (item_of w)
      spelled = written_spells (item_of w) (IsProperItem-item_of w c.proper.1)

      split : b ≡ shortest_head 6 t ++ (encoding w ++ x)
      split = f ∙ append_assoc (shortest_head 6 t) (encoding w) x

      fine : spelling_fault det b ≡ None
      fine = (short 6 t (encoding w ++ x) (omega arith) c.proper.0 split).1

      len : length (encoding (trees.tag t w)) ≡ length (shortest_head 6 t) + length (encoding w)
      len = length-append (shortest_head 6 t) (encoding w)

      folds : tag_meaning t (folding_bytes t (item_of w)) (folded w) ≡ Some (trees.tag t w)
      folds = c.folds

      kept : (o : Option Tree) → option_map (trees.tag t) o ≡ Some (trees.tag t w) → o ≡ Some w
      kept None e = absurd cc
      kept (Some v) e = cc

      by : (o : Option (List ℕ)) → folding_bytes t (item_of w) ≡ o → IsWithin l (tag_nesting o (nesting (item_of w))) →
          read det (suc d) b p l ≡ ends (trees.tag t w) x q
      by (Some y) z n =
          let a = folds-some t (item_of w) (encoding w) x (encoding w ++ x) y spelled refl z in
          let means : bignum_meaning t y ≡ Some (trees.tag t w) =
          ap (λ o. tag_meaning t o (folded w)) (sym z) ∙ folds in
          let same : w ≡ trees.bytes y = sym (tree_is_written_as_itself w) ∙ ap written_tree a.1 in
          let proper : IsProperTree (trees.bytes y) = subst IsProperTree same c.proper.1 in
          let keeps : bignum_meaning t y ≡ Some (trees.tag t (trees.bytes y)) = means ∙
          ap (λ v. Some (trees.tag t v)) same in
          folded-read det d rd h (encoding w) x b p t q l (item_of w) (shortest_is_head 6 t c.proper.0) split fine
          spelled (omega (arith, k, len)) fuel y (trees.tag t w) z (accepted order (encoding w) (p + length h) l
          (trees.bytes y) (ap encoding same, record { proper = proper; folds = refl; rises = tt }) (within-zero l)
          (omega (arith, k, len, room))) (kept-whole t y a.0.0 (each-byte y proper.0) keeps) means
      by None z n =
          let below = lower l (nesting (item_of w)) n in
          tag-read det d rd h (encoding w) x b p t q l (item_of w) (shortest_is_head 6 t c.proper.0) split fine spelled
          (omega (arith, k, len)) fuel below.0 w z below.2 (accepted order (encoding w) (p + length h) below.0 w (
            refl,
            record {
              proper = c.proper.1;
              folds = kept (folded w) (ap (λ o. tag_meaning t o (folded w)) (sym z) ∙ folds);
              rises = c.rises;
            },
          ) below.1 (omega (arith, k, len, room)))

  det-tree : (v : Tree) → IsDeterministicTree order v → IsWithin l (nesting (item_of v)) → b ≡ encoding v ++ x →
      q ≡ p + length (encoding v) → q ≤ greatest_offset → 2 * length b < suc d → read det (suc d) b p l ≡ ends v x q
  unfolding simple_meaning
  det-tree (trees.integer (pos n)) c nests f k room fuel =
      positive-read det d p q n (shortest_head 0 n) x b l (shortest_is_head 0 n c.proper)
      (short 0 n x (omega arith) c.proper f).1 f k room
  det-tree (trees.integer (negsuc n)) c nests f k room fuel =
      negative-read det d p q n (shortest_head 1 n) x b l (shortest_is_head 1 n c.proper)
      (short 1 n x (omega arith) c.proper f).1 f k room
  det-tree (trees.bytes y) c nests f k room fuel = det-string StringType.Bytes y c.proper.0 c.proper.1 f k room
  det-tree (trees.text y) c nests f k room fuel = det-string StringType.Text y c.proper.0 c.proper.1.1 f k room
  det-tree (trees.boolean false) c nests f k room fuel = det-simple 20 (trees.boolean false) (omega arith) refl f k room
  det-tree (trees.boolean true) c nests f k room fuel = det-simple 21 (trees.boolean true) (omega arith) refl f k room
  det-tree trees.null c nests f k room fuel = det-simple 22 trees.null (omega arith) refl f k room
  det-tree (trees.tag t w) c nests f k room fuel = det-tag t w c nests f k room fuel
  det-tree (trees.array ts) c nests f k room fuel = det-array ts c nests f k room fuel
  det-tree (trees.map ps) c nests f k room fuel = det-map ps c nests f k room fuel

-- ---- every item

front-read : (spelling : Spelling) (d : ℕ) → ReadsAt spelling d → RunsAt spelling d → ReadsAt spelling (suc d)
front-read any d rd run v s x b p q l (i, spelled, means, nests, fits, so) e k fuel =
    any-item d rd run x b p q l i v s spelled means nests e k (omega (arith, k, fits)) fuel
front-read (deterministic order) d rd run v s x b p q l h e k fuel =
    let ((bytes, c), nests, fits) = deterministic_tree order s p l v h in
    det-tree order d rd run x b p q l v c nests (e ∙ ap (λ (z : List ℕ). z ++ x) bytes)
    (k ∙ ap (λ (z : List ℕ). p + length z) bytes) (omega (arith, k, fits)) fuel

mutual
  pub read-good : (spelling : Spelling) (d : ℕ) → ReadsAt spelling d
  read-good spelling zero v s x b p q l h e k fuel = let never : ⊥ = omega (arith, fuel) in absurd never
  read-good spelling (suc d) v s x b p q l h e k fuel =
      front-read spelling d (read-good spelling d) (parts-run spelling d) v s x b p q l h e k fuel

  pub parts-run : (spelling : Spelling) (d : ℕ) → RunsAt spelling d
  parts-run spelling zero now next vs ws s x b p q l a read due order e k fuel then =
      let never : ⊥ = omega (arith, fuel) in absurd never
  parts-run spelling (suc d) now next vs ws s x b p q l a read due order e k fuel then =
      parts-read spelling d (read-good spelling d) (parts-run spelling d) now next vs ws s x b p q l a read due
      order e k fuel then
