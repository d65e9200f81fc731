-- One step of the reader, by the head at the front.
use Rattle.std.proofs.Common.{◌≡◌, ℕ, zero, suc, ◌+◌, ◌*◌, ◌%◌, ◌<◌, ◌≤◌, cond, ltb, eqb, true, false, ◌&&◌, ◌||◌, List}
use Rattle.std.proofs.Common.{[], ◌∷◌, ◌++◌, length, take, drop, Option, Some, None, option_map, refl, sym, ap, ◌∙◌}
use Rattle.std.proofs.Common.{subst, arith, length-append, append_assoc, le-ltb, eq-eqb, ne_eqb}
use Rattle.std.proofs.{Math.Seq.{take-append_seam, drop-append_seam}, lemmas.Nat.{div-mul-add, mod-mul-add}}
use Rattle.std.proofs.{lemmas.Bool.Decides.nat_tests, lemmas.Bool.cond-true}
use Rattle.ciborium_ll.proofs.{FrontHeads.{Front, counted, opened, front, front_open}, UsableHeads.{HeadFits, low}}
use Rattle.ciborium_ll.proofs.UsableHeads.{fits-usable, stands-usable, stands-front, stands-length, pass, and_false}
use Rattle.ciborium_ll.specs.{Bytes.greatest_offset, Refusal.{Refusal, semantic, head_refusal, IsUsable, HeadRefuses}}
use Rattle.ciborium_ll.specs.Refusal.{HasHead, argument_length, is_reserved, is_low_simple, payload_length}
use Rattle.ciborium_ll.specs.{Spells.{AreChunks, joined}, declared.kind.Kind.Kind}
use Rattle.ciborium_value.specs.{Nesting.Limit, Refuses.{HasGoodHead, Due, items, keys, BeginsContainer, IsTagAt}}
use Rattle.ciborium_value.specs.{Spelling.{Spelling, spelling_fault}, Tree.Tree}
use Rattle.ciborium_value.proofs.GoodItems.Reader.{Answer, ends, refused, checked, and_then, made, past, allowed}
use Rattle.ciborium_value.proofs.GoodItems.Reader.{string, chunk, piece, pieces, levels, folding, bignum, counted_item}
use Rattle.ciborium_value.proofs.GoodItems.Reader.{opened_item, item_at, read, parts}
use Rattle.ciborium_value.specs.Tree as trees

pub not_low : (x : ℕ) (b : List ℕ) → (x ≡ 248 → ⊥) → is_low_simple x b ≡ false
not_low x [] h = refl
not_low x (y ∷ b) h = ap (λ t. t && ltb y 32) (ne_eqb x 248 h)

payload_length-open : (m a : ℕ) (b : List ℕ) → 28 ≤ a → payload_length m a b ≡ 0
payload_length-open m a b h = pass _ _ _ (and_false _ _ (le-ltb a 28 h))

pub payload_length-other : (m a : ℕ) (b : List ℕ) → 4 ≤ m → payload_length m a b ≡ 0
payload_length-other m a b h = let e : (eqb m 2 || eqb m 3) ≡ false = grind (arith, nat_tests) in
    pass _ _ _ (ap (λ t. t && ltb a 28) e)

-- an initial byte of major type m with additional information a is usable
pub byte-has : (m a : ℕ) (b : List ℕ) (p : ℕ) → a < 32 → p < greatest_offset → low (m * 32 + a) b p ≡ false →
    HeadFits m a b p → IsUsable ((m * 32 + a) ∷ b) p
byte-has m a b p h lp lo u =
    let x : ℕ = m * 32 + a in
    fits-usable x b p lp lo (subst (λ k. HeadFits k (x % 32) b p) (sym (div-mul-add m 32 a h))
    (subst (λ k. HeadFits m k b p) (sym (mod-mul-add m 32 a h)) u))

pub opened-has : (m p r : _) → is_reserved m 31 ≡ false → p < greatest_offset → IsUsable ((m * 32 + 31) ∷ r) p
opened-has m p r e h = byte-has m 31 r p (omega arith) h (and_false _ _ (not_low (m * 32 + 31) r (λ k. omega arith)))
    (e, omega arith, omega arith, omega (arith, payload_length-open m 31 r (omega arith)))

pub simple-has : (n p : ℕ) (r : List ℕ) → n < 24 → p < greatest_offset → IsUsable ((224 + n) ∷ r) p
simple-has n p r h k =
    let x : argument_length n ≡ 0 = grind (arith, nat_tests) in
    byte-has 7 n r p (omega arith) k (and_false _ _ (not_low (224 + n) r (λ e. omega arith))) (
      (let e : is_reserved 7 n ≡ false = grind (arith, nat_tests) in e),
      omega (arith, x),
      omega (arith, x),
      omega (arith, x, payload_length-other 7 n r (omega arith)),
    )

-- ---- steps

pub checked-none : {A : Type 0} (b : List ℕ) (p : ℕ) (a : Answer A) → IsUsable b p → checked (head_refusal b p) a ≡ a
checked-none b p a h = ap (λ o. checked o a) h

pub checked-some : {A : Type 0} (b : List ℕ) (p : ℕ) (a : Answer A) (e : Refusal) → HeadRefuses b p e →
    checked (head_refusal b p) a ≡ refused e
checked-some b p a e h = ap (λ o. checked o a) h

pub past-stands : (b : List ℕ) (m n k p q : ℕ) (r : List ℕ) → HasHead b m n k r → q ≡ p + k → past p b r ≡ q
past-stands b m n k p q r s e = let l = stands-length b m n k r s in omega (arith, l.0, l.1, e)

module _ (spelling : Spelling) where
  pub read-head : (d p : ℕ) (b : List ℕ) (l : Limit) (f : Front) → HasGoodHead spelling b p → front b ≡ f →
      read spelling (suc d) b p l ≡ item_at spelling (read spelling d) (λ w. parts spelling d (Some w) []) (pieces d)
      b p l f
  read-head d p b l f h e =
      checked-none b p _ h.0 ∙ ap (λ o. checked (option_map (semantic p) o) (item_at spelling (read spelling d)
      (λ w. parts spelling d (Some w) []) (pieces d) b p l (front b))) h.1 ∙
      ap (item_at spelling (read spelling d) (λ w. parts spelling d (Some w) []) (pieces d) b p l) e

  -- a head that the spelling does not accept
  pub read-fault : (d p : ℕ) (b : List ℕ) (l : Limit) (kind : Kind) → IsUsable b p →
      spelling_fault spelling b ≡ Some kind → read spelling (suc d) b p l ≡ refused (semantic p kind)
  read-fault d p b l kind h e =
      checked-none b p _ h ∙ ap (λ o. checked (option_map (semantic p) o) (item_at spelling (read spelling d)
      (λ w. parts spelling d (Some w) []) (pieces d) b p l (front b))) e

  -- a good head with an argument
  pub read-counted : (d p q : ℕ) (b : List ℕ) (l : Limit) (m n k : ℕ) (r : List ℕ) → m < 7 → HasHead b m n k r →
      HasGoodHead spelling b p → q ≡ p + k → read spelling (suc d) b p l ≡ counted_item spelling (read spelling d)
      (λ w. parts spelling d (Some w) []) m n r p q l
  read-counted d p q b l m n k r lt s h e = read-head d p b l (counted m n r) h (stands-front b m n k r lt s) ∙
      ap (λ z. counted_item spelling (read spelling d) (λ w. parts spelling d (Some w) []) m n r p z l)
      (past-stands b m n k p q r s e)

  pub read-opened : (d p b l m r : _) → b ≡ (m * 32 + 31) ∷ r → HasGoodHead spelling b p →
      read spelling (suc d) b p l ≡ opened_item spelling (λ w. parts spelling d (Some w) []) (pieces d) m r p l
  read-opened d p b l m r e h = read-head d p b l (opened m r) h (ap front e ∙ front_open m r)

  pub ended-has : (d p q b r v l : _) → read spelling d b p l ≡ ends v r q → HasGoodHead spelling b p
  ended-has zero p q b r v l e = absurd cc
  ended-has (suc d) p q b r v l e =
      let one = has (head_refusal b p) _ e in (one.0, fine (spelling_fault spelling b) _ one.1)
    where
      has : (o : Option Refusal) (a : Answer Tree) → checked o a ≡ ends v r q → (o ≡ None) × (a ≡ ends v r q)
      has None a h = (refl, h)
      has (Some f) a h = absurd cc

      fine : (o : Option Kind) (a : Answer Tree) → checked (option_map (semantic p) o) a ≡ ends v r q → o ≡ None
      fine None a h = refl
      fine (Some f) a h = absurd cc

-- ---- what has parts

module _ (spelling : Spelling) where
  -- the head of an array or map
  pub opens-read : (d p k : ℕ) (b r : List ℕ) (w : Due) (l : Limit) → HasGoodHead spelling b p →
      BeginsContainer b k r w → (read spelling (suc d) b p l ≡ levels l (parts spelling d (Some w) [] r (p + k))) ×
      (length b ≡ k + length r) × (0 < k)
  opens-read d p k b r w l h (BeginsContainer.array n s) = let z = stands-length b 4 n k r s in
      (read-counted spelling d p (p + k) b l 4 n k r (omega arith) s h refl, z.0, z.1)
  opens-read d p k b r w l h (BeginsContainer.open_array e f) = (
    read-opened spelling d p b l 4 r f h ∙
        ap (λ u. levels l (parts spelling d (Some (items None)) [] r u)) (omega (arith, e)),
    ap length f ∙ omega (arith, e),
    omega (arith, e),
  )
  opens-read d p k b r w l h (BeginsContainer.map n s) = let z = stands-length b 5 n k r s in
      (read-counted spelling d p (p + k) b l 5 n k r (omega arith) s h refl, z.0, z.1)
  opens-read d p k b r w l h (BeginsContainer.open_map e f) = (
    read-opened spelling d p b l 5 r f h ∙
        ap (λ u. levels l (parts spelling d (Some (keys None)) [] r u)) (omega (arith, e)),
    ap length f ∙ omega (arith, e),
    omega (arith, e),
  )

  -- the head of a tag
  pub tag-at : (d p t : ℕ) (b r : List ℕ) (q : ℕ) (l : Limit) → IsTagAt spelling b p t r q →
      read spelling (suc d) b p l ≡ cond (folding t (front r)) (and_then (bignum spelling t p) (read spelling d r q l))
      (levels l (λ m. made (trees.tag t) (read spelling d r q m)))
  tag-at d p t b r q l a =
      let at = a.at in
      read-counted spelling d p q b l 6 t a.size r (omega arith) a.tag a.head (omega (arith, at)) ∙
      checked-none r q _ a.usable

pub string-good : (m n p q : ℕ) (y r x : List ℕ) → r ≡ y ++ x → n ≡ length y → allowed m y ≡ true →
    string m n r p q ≡ ends y x (q + n)
string-good m n p q y r x e k h =
    let room : length r ≡ length y + length x = ap length e ∙ length-append y x in
    let t : take n r ≡ y = ap (λ j. take j r) k ∙ ap (take (length y)) e ∙ take-append_seam y x in
    let u : drop n r ≡ x = ap (λ j. drop j r) k ∙ ap (drop (length y)) e ∙ drop-append_seam y x in
    pass _ _ _ (le-ltb (length r) n (omega arith)) ∙ cond-true _ _ _ (ap (allowed m) t ∙ h) ∙
    ap (λ (c : List ℕ). ends c (drop n r) (q + n)) t ∙ ap (λ (c : List ℕ). ends y c (q + n)) u

-- the good parts of an open string, and what is answered after them
pub pieces-run : (m : ℕ) (IsAllowed : List ℕ → Type 0) → m < 7 → ((t : List ℕ) → IsAllowed t → allowed m t ≡ true) →
    (d : ℕ) (ps : List (List ℕ)) (s x b : List ℕ) (q u : ℕ) (a : Answer (List ℕ)) → AreChunks m IsAllowed s ps →
    b ≡ s ++ x → u ≡ q + length s → u ≤ greatest_offset → length b < d →
    ((c : ℕ) → length x < c → pieces c m x u ≡ a) → pieces d m b q ≡ made (λ (z : List ℕ). joined ps ++ z) a
pieces-run m IsAllowed lt ok d [] s x b q u a g e k room fuel then =
    let same : b ≡ x = e ∙ ap (λ (c : List ℕ). c ++ x) g in
    let l : length b ≡ length x = ap length same in
    let none : length s ≡ 0 = ap length g in
    ap (λ (c : List ℕ). pieces d m c q) same ∙ ap (pieces d m x) (omega (arith, k, none)) ∙
    then d (omega (arith, l, fuel)) ∙ itself a
  where
    itself : (a : Answer (List ℕ)) → a ≡ made (λ (z : List ℕ). z) a
    itself (ends y r q) = refl
    itself (refused e) = refl
pieces-run m IsAllowed lt ok zero (y ∷ ps) s x b q u a g e k room fuel then = let never : ⊥ = omega (arith, fuel) in
    absurd never
pieces-run m IsAllowed lt ok (suc d) (y ∷ ps) s x b q u a g e k room fuel then =
    let w = g.2 in
    let h : List ℕ = w.0 in
    let r : List ℕ = y ++ (g.1 ++ x) in
    let is : b ≡ h ++ r = e ∙ ap (λ (c : List ℕ). c ++ x) (g.4 ∙ ap (λ (c : List ℕ). c ++ g.1) w.3) ∙
    append_assoc (h ++ y) g.1 x ∙ append_assoc h y (g.1 ++ x) in
    let st : HasHead b m (length y) (length h) r = (h, w.1, refl, is) in
    let l1 : length s ≡ length g.0 + length g.1 = ap length g.4 ∙ length-append g.0 g.1 in
    let l2 : length g.0 ≡ length h + length y = ap length w.3 ∙ length-append h y in
    let l3 = stands-length b m (length y) (length h) r st in
    let l4 : length r ≡ length y + length (g.1 ++ x) = length-append y (g.1 ++ x) in
    let has : IsUsable b q = stands-usable b m (length y) (length h) q r lt st
    (omega (arith, l1, l2, k, room)) (λ z. omega (arith, l1, l2, k, room)) in
    let at : past q b r ≡ q + length h = omega (arith, l3.0) in
    checked-none b q _ has ∙ ap (piece (pieces d m) m b q) (stands-front b m (length y) (length h) r lt st) ∙
    cond-true _ _ _ (eq-eqb m m refl) ∙
    ap (and_then (chunk (pieces d m))) (string-good m (length y) q (past q b r) y r (g.1 ++ x) refl refl (ok y w.2)) ∙
    ap (made (λ (z : List ℕ). y ++ z)) (pieces-run m IsAllowed lt ok d ps g.1 x (g.1 ++ x) (past q b r + length y) u a
    g.3 refl (omega (arith, at, l1, l2, k)) room (omega (arith, l3.0, l3.1, l4, fuel)) then) ∙ both a
  where
    both : (a : Answer (List ℕ)) → made (λ (z : List ℕ). y ++ z) (made (λ (z : List ℕ). joined ps ++ z) a) ≡ made
        (λ (z : List ℕ). (y ++ joined ps) ++ z) a
    both (ends t r q) = ap (λ (c : List ℕ). ends c r q) (sym (append_assoc y (joined ps) t))
    both (refused e) = refl

-- the break that ends an open string
pub pieces-break : (m d q u x : _) → 0 < d → q < greatest_offset → u ≡ q + 1 → pieces d m (255 ∷ x) q ≡ ends [] x u
pieces-break m zero q u x h lt e = let never : ⊥ = omega (arith, h) in absurd never
pieces-break m (suc d) q u x h lt e = checked-none (255 ∷ x) q _ (opened-has 7 q x refl lt) ∙
    ap (piece (pieces d m) m (255 ∷ x) q) (front_open 7 x) ∙ ap (ends [] x) (sym e)
