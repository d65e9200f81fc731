-- What refuses at the front is what the reader answers.
use Rattle.std.proofs.Common.{◌≡◌, ℕ, zero, suc, ◌+◌, ◌-◌, ◌*◌, ◌^◌, ◌<◌, ◌≤◌, cond, ltb, eqb, Bool, true, false, ◌&&◌}
use Rattle.std.proofs.Common.{List, [], ◌∷◌, ◌++◌, length, take, Option, Some, None, refl, sym, ap, ◌∙◌, subst, arith}
use Rattle.std.proofs.{Common.{length-append, lt-ltb, le-ltb, eq-eqb, eqb-true, ltb-true}, Math.Seq.take-append_seam}
use Rattle.std.proofs.lemmas.Bool.{cond-true}
use Rattle.ciborium_ll.proofs.{CutHeads.each-byte, FrontHeads.{Front, nothing, counted, opened, plain, raw, front}}
use Rattle.ciborium_ll.proofs.{ReadHeads.{Face, faces}, UsableHeads.{EachIsByte, bytes_after, stands-front}}
use Rattle.ciborium_ll.{proofs.UsableHeads.{stands-length, pass}, specs.Bytes.{AreBytes, greatest_offset}}
use Rattle.ciborium_ll.specs.{Head.IsSimple, Refusal.{Refusal, syntax, semantic, IsUsable, HasHead, IsAtFront}}
use Rattle.ciborium_ll.specs.StringRefusal.{string_major, IsAllowed, PayloadRefuses, StringRefuses, ChunkRefuses}
use Rattle.ciborium_ll.specs.{StringRefusal.{OpenStringRefuses, HasStringHead}, declared.kind.Kind.TheVariants.Float}
use Rattle.ciborium_ll.specs.declared.kind.Kind.TheVariants.{Simple, TooLarge}
use Rattle.ciborium_ll.specs.declared.strings.StringType.{StringType}
use Rattle.ciborium_value.proofs.GoodItems.{Answered.{kind_ok, rest-bytes}, Bignums.{foldable-small, foldable-is}}
use Rattle.ciborium_value.proofs.GoodItems.{Bignums.{is-foldable, large-none}, Faults.{fault-break, fault-float}}
use Rattle.ciborium_value.proofs.GoodItems.{Faults.fault-simple, Found.{type_allowed, simple-front, read-good}}
use Rattle.ciborium_value.proofs.GoodItems.{Found.parts-run, Introduced.{folding-reads, type-below, parts_of}}
use Rattle.ciborium_value.proofs.GoodItems.{Parts.levels-below}
use Rattle.ciborium_value.proofs.GoodItems.{Parts.in_order-is, Reader.{Answer, ends, refused, and_then, made, given}}
use Rattle.ciborium_value.proofs.GoodItems.Reader.{past, allowed, string, chunk, piece, pieces, levels, break_at}
use Rattle.ciborium_value.proofs.GoodItems.Reader.{end_at, or_end, is_unwanted, bignum, counted_item, opened_item}
use Rattle.ciborium_value.proofs.GoodItems.{Reader.{next_part, read, parts}, Spelled.{folds-front, seen-folds, not_so}}
use Rattle.ciborium_value.proofs.GoodItems.Steps.{checked-none, checked-some, read-head, read-fault, read-counted}
use Rattle.ciborium_value.proofs.GoodItems.Steps.{read-opened, opens-read, tag-at, pieces-run}
use Rattle.ciborium_value.specs.{Meaning.{simple_meaning, big_endian}, Nesting.Limit, Refuses.{HasGoodHead, Due, items}}
use Rattle.ciborium_value.specs.Refuses.{keys, keys_among, IsDue, BeginsContainer, IsInside, IsTagAt}
use Rattle.ciborium_value.specs.{Refuses.{IsFoldingAt, Refuses}, Spelling.{Spelling, any, deterministic, IsReadAs}}
use Rattle.ciborium_value.specs.{Spelling.{spelling_fault, IsUnwanted}, Tree.Tree, inner.ReadItems.string_tree}
use Rattle.ciborium_value.specs.inner.ReadItems.{container_of}
use Rattle.ciborium_ll.specs.declared.kind.Kind.TheVariants as kinds
use Rattle.ciborium_value.specs.Tree as trees

front_bytes : (s r : List ℕ) → EachIsByte (s ++ r) → EachIsByte s
front_bytes [] r h = tt
front_bytes (x ∷ s) r h = (h.0, front_bytes s r h.1)

-- ---- strings

payload-refused : (c : StringType) {n p : ℕ} {r : List ℕ} {e : Refusal} → PayloadRefuses c n p r e → EachIsByte r →
    (u : ℕ) → string (string_major c) n r p u ≡ refused e
payload-refused c {n} {r = r} (PayloadRefuses.ends_early h) bytes u = cond-true _ _ _ (lt-ltb (length r) n h)
payload-refused c {n} {p} (PayloadRefuses.not_allowed y r l h) bytes u =
    pass _ _ _ (le-ltb (length (y ++ r)) n (let k : length (y ++ r) ≡ length y + length r = length-append y r in
    omega (arith, l, k))) ∙
    pass _ _ _ (ap (λ k. allowed (string_major c) (take k (y ++ r))) (sym l) ∙
    ap (allowed (string_major c)) (take-append_seam y r) ∙
    not_so _ (λ t. h (kind_ok c y (front_bytes y r bytes) t)))

other-refused : (c : StringType) (b : List ℕ) (q : ℕ) (more : List ℕ → ℕ → Answer (List ℕ)) → (HasStringHead c b → ⊥) →
    (IsAtFront 255 b → ⊥) → (f : Front) → Face b q f → piece more (string_major c) b q f ≡ refused (syntax q)
other-refused c b q more x y nothing f = absurd f
other-refused c b q more x y (counted k n r) f = pass _ _ _
    (not_so _ (λ t. x (n, f.1, r, subst (λ j. HasHead b j n f.1 r) (eqb-true k (string_major c) t) f.2)))
other-refused c b q more x y (opened k r) f = pass _ _ _
    (not_so _ (λ t. y (r, f.0 ∙ ap (λ j. (j * 32 + 31) ∷ r) (eqb-true k 7 t))))
other-refused c b q more x y u f = refl

part-refused : (k : StringType) (c : ℕ) → 0 < c → {b : List ℕ} {q : ℕ} {e : Refusal} → ChunkRefuses k b q e →
    EachIsByte b → pieces c (string_major k) b q ≡ refused e
part-refused k zero pos f bytes = let never : ⊥ = omega (arith, pos) in absurd never
part-refused k (suc c) pos {b} {q} {e} (ChunkRefuses.no_head h) bytes = checked-some b q _ e h
part-refused k (suc c) pos {b} {q} {e} (ChunkRefuses.chunk h (n, j, r, st, f)) bytes =
    checked-none b q _ h ∙ ap (piece (pieces c (string_major k)) (string_major k) b q)
    (stands-front b (string_major k) n j r (type-below k) st) ∙
    cond-true _ _ _ (eq-eqb (string_major k) (string_major k) refl) ∙ ap (and_then (chunk (pieces c (string_major k))))
    (payload-refused k f (rest-bytes b st.0 r st.3 bytes) (past q b r))
part-refused k (suc c) pos {b} {q} {e} (ChunkRefuses.other h x y) bytes =
    checked-none b q _ h ∙ other-refused k b q (pieces c (string_major k)) x y (front b) (faces b q bytes h)

undefined : (n : ℕ) → simple_meaning n ≡ None → n ≡ 23 → ⊥
unfolding simple_meaning
undefined n none e = let no : simple_meaning 23 ≡ None = ap simple_meaning (sym e) ∙ none in absurd cc

-- ---- parts

opens-bytes : (b r : List ℕ) (k : ℕ) (w : Due) → BeginsContainer b k r w → EachIsByte b → EachIsByte r
opens-bytes b r k w (BeginsContainer.array n s) x = rest-bytes b s.0 r s.3 x
opens-bytes b r k w (BeginsContainer.open_array e f) x = rest-bytes b (159 ∷ []) r f x
opens-bytes b r k w (BeginsContainer.map n s) x = rest-bytes b s.0 r s.3 x
opens-bytes b r k w (BeginsContainer.open_map e f) x = rest-bytes b (191 ∷ []) r f x

no-break : (b : List ℕ) (p : ℕ) → (p < greatest_offset → IsAtFront 255 b → ⊥) → break_at b p ≡ None
no-break [] p h = refl
no-break (x ∷ b) p h = by (ltb p greatest_offset) (eqb x 255)
    (λ e f. h (ltb-true p greatest_offset e) (b, ap (λ y. y ∷ b) (eqb-true x 255 f)))
  where
    by : (t u : Bool) → (t ≡ true → u ≡ true → ⊥) → ◌≡◌ {A = Option (List ℕ × ℕ)}
        (cond (t && u) (Some (b, p + 1)) None) None
    by true true f = absurd (f refl refl)
    by true false f = refl
    by false u f = refl

due-open : (now : Due) (b : List ℕ) (p : ℕ) → IsDue now b p → end_at now b p ≡ None
due-open (items None) b p h = no-break b p h
due-open (items (Some zero)) b p h = let never : ⊥ = omega (arith, h) in absurd never
due-open (keys None) b p h = no-break b p h
due-open (keys (Some zero)) b p h = let never : ⊥ = omega (arith, h) in absurd never
due-open _ b p h = refl

module _ (spelling : Spelling) where
  -- a head refuses by itself
  string-refused : (d p : ℕ) (b : List ℕ) (l : Limit) (type : StringType) (e : Refusal) → HasGoodHead spelling b p →
      StringRefuses type b p e → EachIsByte b → read spelling (suc d) b p l ≡ refused e
  string-refused d p b l type e h (n, k, r, st, f) bytes =
      read-counted spelling d p (p + k) b l (string_major type) n k r (type-below type) st h refl ∙ chosen type ∙
      ap (made (λ z. string_tree type z)) (payload-refused type f (rest-bytes b st.0 r st.3 bytes) (p + k))
    where
      chosen : (c : StringType) → counted_item spelling (read spelling d) (λ w. parts spelling d (Some w) [])
          (string_major c) n r p (p + k) l ≡ made (string_tree c) (string (string_major c) n r p (p + k))
      chosen StringType.Bytes = refl
      chosen StringType.Text = refl

  open-refused : (k : StringType) (d p : ℕ) (b : List ℕ) (l : Limit) (e : Refusal) → HasGoodHead spelling b p →
      OpenStringRefuses k b p e → EachIsByte b → 2 * length b < suc d → read spelling (suc d) b p l ≡ refused e
  open-refused k d p b l e h (q, at, (good, payloads, r, parts_of, room, split, f)) bytes fuel =
      let m : ℕ = string_major k in
      let wh : b ≡ (m * 32 + 31) ∷ (good ++ r) = at ∙ ap (λ (c : List ℕ). (m * 32 + 31) ∷ c) split in
      let lb : length b ≡ suc (length (good ++ r)) = ap length wh in
      let br : EachIsByte (((m * 32 + 31) ∷ good) ++ r) = subst EachIsByte wh bytes in
      read-opened spelling d p b l m (good ++ r) wh h ∙ chosen k ∙
      ap (made (string_tree k)) (pieces-run m (IsAllowed k) (type-below k) (type_allowed k) d payloads good r
      (good ++ r)
      (p + 1) (p + 1 + length good) (refused e) parts_of refl refl room (omega (arith, lb, fuel))
      (λ c lc. part-refused k c (omega (arith, lc)) f (bytes_after ((m * 32 + 31) ∷ good) r br)))
    where
      chosen : (c : StringType) → opened_item spelling (λ w. parts spelling d (Some w) []) (pieces d)
          (string_major c) (good ++ r) p l ≡ made (string_tree c) (pieces d (string_major c) (good ++ r) (p + 1))
      chosen StringType.Bytes = refl
      chosen StringType.Text = refl

  float-refused : (d p x : ℕ) (b : List ℕ) (l : Limit) → IsUsable (x ∷ b) p → 249 ≤ x → x ≤ 251 →
      read spelling (suc d) (x ∷ b) p l ≡ refused (semantic p Float)
  float-refused d p x b l h lo hi =
      let f = float-front (x - 249) b (omega (arith, hi)) in
      let e : x ≡ 249 + (x - 249) = omega (arith, lo) in
      let fine : spelling_fault spelling (x ∷ b) ≡ None = ap (λ y. spelling_fault spelling (y ∷ b)) e ∙
      fault-float spelling (x - 249) b (omega (arith, hi)) in
      read-head spelling d p (x ∷ b) l (raw f.0 b) (h, fine) (ap (λ y. front (y ∷ b)) e ∙ f.1)
    where
      float-front : (j : ℕ) (b : List ℕ) → j < 3 → (w : ℕ) × (front ((249 + j) ∷ b) ≡ raw w b)
      float-front zero b h = (2, refl)
      float-front (suc zero) b h = (4, refl)
      float-front (suc (suc zero)) b h = (8, refl)
      float-front (suc (suc (suc j))) b h = let never : ⊥ = omega (arith, h) in absurd never

  simple-refused : (d p n : ℕ) (s b r : List ℕ) (l : Limit) → IsUsable b p → IsSimple s n → simple_meaning n ≡ None →
      b ≡ s ++ r → read spelling (suc d) b p l ≡ refused (semantic p Simple)
  simple-refused d p n s b r l h is none e =
      let fine : spelling_fault spelling b ≡ None = ap (spelling_fault spelling) e ∙
      fault-simple spelling s n r is (undefined n none) in
      read-head spelling d p b l (plain n r) (h, fine) (ap front e ∙ simple-front s n r is) ∙
      ap (λ o. given (semantic p Simple) o r (past p b r)) none

  -- parts stand before what refuses, and with it
  part-run : (d b p l below vs r q now a : _) → IsInside spelling b p l vs r q now below → IsDue now r q →
      2 * length b < suc d → ((c : ℕ) → 2 * length r < c →
      and_then (next_part spelling (parts spelling c) now vs q below) (read spelling c r q below) ≡ a) →
      read spelling (suc d) b p l ≡ a
  part-run d b p l below vs r q now a inside due fuel then =
      let i = parts_of spelling inside in
      let z = opens-read spelling d p i.size b (i.good ++ r) i.start l i.head i.begins in
      let at = i.at in
      z.0 ∙ levels-below l below (parts spelling d (Some i.start) [] (i.good ++ r) (p + i.size)) i.level ∙
      parts-run spelling d i.start now [] vs i.good r (i.good ++ r) (p + i.size) q below a i.parts i.due
      i.in_order refl at (omega (arith, z.1, z.2, fuel)) (λ c lc. at-part c lc)
    where
      at-part : (c : ℕ) → 2 * length r + 1 < c → parts spelling c (Some now) vs r q below ≡ a
      at-part zero lc = let never : ⊥ = omega (arith, lc) in absurd never
      at-part (suc c) lc = ap (λ o. or_end o (container_of now vs)
          (and_then (next_part spelling (parts spelling c) now vs q below) (read spelling c r q below)))
          (due-open now r q due) ∙ then c (omega (arith, lc))

  inside-bytes : (b p l below vs r q now : _) → IsInside spelling b p l vs r q now below → EachIsByte b → EachIsByte r
  inside-bytes b p l below vs r q now inside bytes =
      let i = parts_of spelling inside in
      bytes_after i.good r (opens-bytes b (i.good ++ r) i.size i.start i.begins bytes)

  -- ---- tags

  module _ (d : ℕ) (b r : List ℕ) (p t q : ℕ) (l : Limit) (a : IsTagAt spelling b p t r q) where
    tag-bytes : EachIsByte b → EachIsByte r
    tag-bytes bytes = let s = a.tag in rest-bytes b s.0 r s.3 bytes

    tag-length : (length b ≡ a.size + length r) × (0 < a.size)
    tag-length = stands-length b 6 t a.size r a.tag

    folding-at : IsFoldingAt t r → (c : Answer Tree) → read spelling d r q l ≡ c →
        read spelling (suc d) b p l ≡ and_then (bignum spelling t p) c
    folding-at f c e = tag-at spelling d p t b r q l a ∙ cond-true _ _ _ (folds-front t r f) ∙
        ap (and_then (bignum spelling t p)) e

    opening-at : (IsFoldingAt t r → ⊥) → EachIsByte b →
        read spelling (suc d) b p l ≡ levels l (λ m. made (trees.tag t) (read spelling d r q m))
    opening-at never bytes = tag-at spelling d p t b r q l a ∙
        pass _ _ _ (not_so _ (λ e. never (seen-folds t r q (tag-bytes bytes) a.usable e)))

  -- a folding tag over a string that was read
  over-string : (d : ℕ) (b r s x y : List ℕ) (p t q : ℕ) (l : Limit) → IsTagAt spelling b p t r q → IsFoldingAt t r →
      IsReadAs spelling s q l (trees.bytes y) → r ≡ s ++ x → 2 * length b < suc d →
      (read spelling (suc d) b p l ≡ bignum spelling t p (trees.bytes y) x (q + length s)) × (length y ≤ 16) ×
      AreBytes y
  over-string d b r s x y p t q l a f item e fuel =
      let z = tag-length d b r p t q l a in
      let w = folding-reads spelling t l r x q (q + length s) (trees.bytes y)
      (record { taken = s; read = item; split = e; at = refl }) f in
      let same : w.0 ≡ y = (let k = w.1 in cc) in (
        folding-at d b r p t q l a f (ends (trees.bytes y) x (q + length s))
            (read-good spelling d (trees.bytes y) s x r q (q + length s) l item e refl (omega (arith, z.0, z.1, fuel))),
        subst (λ (c : List ℕ). length c ≤ 16) same w.2,
        subst AreBytes same w.3,
      )

  small-wanted : (s y : _) → EachIsByte y → length y ≤ 16 → 2 ^ 127 ≤ big_endian y → is_unwanted s y ≡ false
  small-wanted any y bytes few large = refl
  small-wanted (deterministic order) y bytes few large =
      not_so _ (λ e. let less = foldable-small y bytes few (foldable-is y e) in omega (arith, less, large))

  unwanted-is : (s : Spelling) (y : List ℕ) → IsUnwanted s y → is_unwanted s y ≡ true
  unwanted-is any y h = absurd h
  unwanted-is (deterministic order) y h = is-foldable y h

  -- ---- every refusal

  pub refusal-read : (d : ℕ) {b : List ℕ} {p : ℕ} {l : Limit} {e : Refusal} → Refuses spelling b p l e → EachIsByte b →
      2 * length b < d → read spelling d b p l ≡ refused e
  refusal-read zero f bytes fuel = let never : ⊥ = omega (arith, fuel) in absurd never
  refusal-read (suc d) {b} {p} {l} {e} (Refuses.no_head h) bytes fuel = checked-some b p _ e h
  refusal-read (suc d) {b} {p} {l} {e} (Refuses.bad_head kind h f) bytes fuel = read-fault spelling d p b l kind h f
  refusal-read (suc d) {b} {p} {l} {e} (Refuses.string type h f) bytes fuel = string-refused d p b l type e h f bytes
  refusal-read (suc d) {b} {p} {l} {e} (Refuses.open_string type h f) bytes fuel =
      open-refused type d p b l e h f bytes fuel
  refusal-read (suc d) {p = p} {l = l} (Refuses.float {x} {b = b} h lo hi) bytes fuel = float-refused d p x b l h lo hi
  refusal-read (suc d) {b} {p} {l} (Refuses.simple s n r h is none f) bytes fuel =
      simple-refused d p n s b r l h is none f
  refusal-read (suc d) {p = p} {l = l} (Refuses.break {b = b} h) bytes fuel =
      read-opened spelling d p (255 ∷ b) l 7 b refl (h, fault-break spelling b)
  refusal-read (suc d) {b} {p} {l} (Refuses.no_level k r w h o) bytes fuel = (opens-read spelling d p k b r w (Some 0) h
      o).0
  refusal-read (suc d) {b} {p} {l} {e} (Refuses.part vs r q w below i due f) bytes fuel =
      part-run d b p l below vs r q w (refused e) i due fuel
      (λ c lc. ap (and_then (next_part spelling (parts spelling c) w vs q below))
      (refusal-read c f (inside-bytes b p l below vs r q w i bytes) lc))
  refusal-read (suc d) {b} {p} {l} (Refuses.key_order vs r s t key q w below i due item at bad) bytes fuel =
      part-run d b p l below vs r q w (refused (semantic q kinds.KeyOrder)) i due fuel
      (λ c lc. ap (and_then (next_part spelling (parts spelling c) w vs q below))
      (read-good spelling c key s t r q (q + length s) below item at refl lc) ∙
      pass _ _ _ (not_so _ (λ z. bad (in_order-is spelling (keys_among w (vs ++ (key ∷ []))) z))))
  refusal-read (suc d) {b} {p} {l} {e} (Refuses.tag_no_head t k r h st f) bytes fuel =
      read-counted spelling d p (p + k) b l 6 t k r (omega arith) st h refl ∙ checked-some r (p + k) _ e f
  refusal-read (suc d) {b} {p} {l} {e} (Refuses.folding t r q a g f) bytes fuel =
      let z = tag-length d b r p t q l a in
      folding-at d b r p t q l a g (refused e)
      (refusal-read d f (tag-bytes d b r p t q l a bytes) (omega (arith, z.0, z.1, fuel)))
  refusal-read (suc d) {b} {p} {l} (Refuses.too_large r s x y q a g item at large) bytes fuel =
      let z = over-string d b r s x y p 3 q l a g item at fuel in
      z.0 ∙ pass _ _ _ (small-wanted spelling y (each-byte y z.2) z.1 large) ∙
      ap (λ o. given (semantic p TooLarge) o x (q + length s)) (large-none y large)
  refusal-read (suc d) {b} {p} {l} (Refuses.not_folded n r s x y q a g item at bad) bytes fuel =
      (over-string d b r s x y p n q l a g item at fuel).0 ∙ cond-true _ _ _ (unwanted-is spelling y bad)
  refusal-read (suc d) {b} {p} {l} (Refuses.no_tag_level t r q a never) bytes fuel =
      opening-at d b r p t q (Some 0) a never bytes
  refusal-read (suc d) {b} {p} {l} {e} (Refuses.tagged t r q below a never level f) bytes fuel =
      let z = tag-length d b r p t q l a in
      opening-at d b r p t q l a never bytes ∙ levels-below l below (λ m. made (trees.tag t) (read spelling d r q m))
      level ∙ ap (made (trees.tag t)) (refusal-read d f (tag-bytes d b r p t q l a bytes)
      (omega (arith, z.0, z.1, fuel)))
