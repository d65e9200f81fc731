-- What the reader answers is read at the front, or refuses.
use Rattle.std.proofs.Common.{◌≡◌, ℕ, zero, suc, ◌+◌, ◌*◌, ◌<◌, ◌≤◌, cond, ltb, eqb, Bool, true, false, ◌&&◌, List, []}
use Rattle.std.proofs.Common.{◌∷◌, ◌++◌, length, take, drop, Option, Some, None, option_map, refl, sym, ap, ◌∙◌, subst}
use Rattle.std.proofs.Common.{arith, inl, inr, length-append, append_assoc, take-append-drop, lt-ltb, eq-eqb, eqb-true}
use Rattle.std.proofs.{Common.{ltb-true, ltb-false}, lemmas.{Bool.{cond_both, eqb-false}, List.length-take-le}}
use Rattle.std.proofs.lemmas.Str.{IsUtf8-from_is_utf8}
use Rattle.ciborium_ll.proofs.FrontHeads.{Front, nothing, counted, opened, plain, raw, front, front_open}
use Rattle.ciborium_ll.proofs.{ReadHeads.{Face, faces}, UsableHeads.{EachIsByte, bytes_after, take_bytes, stands-front}}
use Rattle.ciborium_ll.{proofs.UsableHeads.{stands-length, IsStringMajor}, specs.{Bytes.greatest_offset, Head.IsHead}}
use Rattle.ciborium_ll.specs.Refusal.{Refusal, syntax, semantic, recursion_limit_exceeded, IsUsable, HasHead}
use Rattle.ciborium_ll.specs.{Refusal.{head_refusal, IsAtFront}, Spells.{IsDefiniteString, AreChunks, joined}}
use Rattle.ciborium_ll.specs.StringRefusal.{string_major, IsAllowed, PayloadRefuses, StringRefuses, ChunkRefuses}
use Rattle.ciborium_ll.specs.{StringRefusal.HasStringHead, declared.kind.Kind.{Kind, TheVariants.{Float, Simple}}}
use Rattle.ciborium_ll.specs.declared.{kind.Kind.TheVariants.{Break, TooLarge}, strings.StringType.StringType}
use Rattle.ciborium_value.proofs.GoodItems.{Accepted.anyway, Bignums.{foldable-is, is-foldable, none-large}}
use Rattle.ciborium_value.proofs.GoodItems.{Found.{type_allowed, kind_major}, Introduced.reads-positive}
use Rattle.ciborium_value.proofs.GoodItems.Introduced.{reads-negative, reads-string, type-below, reads-open_string}
use Rattle.ciborium_value.proofs.GoodItems.Introduced.{reads-simple, inside-more, reads-container}
use Rattle.ciborium_value.proofs.GoodItems.{Introduced.{reads-tag, folding-reads, reads-folded}, Parts.in_order-is}
use Rattle.ciborium_value.proofs.GoodItems.{Parts.is-in_order, Reader.{Answer, ends, refused, checked, and_then, made}}
use Rattle.ciborium_value.proofs.GoodItems.Reader.{given, past, allowed, string, chunk, piece, pieces, levels, break_at}
use Rattle.ciborium_value.proofs.GoodItems.Reader.{end_at, or_end, in_order, folding, is_unwanted, bignum, counted_item}
use Rattle.ciborium_value.proofs.GoodItems.{Reader.{opened_item, item_at, next_part, read, parts}, Spelled.folds-front}
use Rattle.ciborium_value.{proofs.GoodItems.Spelled.{seen-folds, are_bytes, spells-pos}, specs.Meaning.simple_meaning}
use Rattle.ciborium_value.specs.{Meaning.bignum_meaning, Nesting.{Limit, IsOneLess}, Refuses.{HasGoodHead, Due, items}}
use Rattle.ciborium_value.specs.Refuses.{keys, values, next_due, keys_among, IsDue, BeginsContainer, IsInside, IsTagAt}
use Rattle.ciborium_value.specs.{Refuses.{IsFoldingAt, Refuses}, Spelling.{Spelling, any, deterministic}}
use Rattle.ciborium_value.specs.{Spelling.{spelling_fault, IsUnwanted}, Tree.Tree, inner.ReadItems.ReadsItem}
use Rattle.ciborium_value.specs.{inner.ReadItems.{string_tree, IsComplete, container_of}, lemmas.Descriptions.both}
use Rattle.ciborium_value.specs.Tree as trees

checked-meets : {A : Type 0} (P : Answer A → Type 0) (o : Option Refusal) (a : Answer A) →
    ((e : Refusal) → o ≡ Some e → P (refused e)) → (o ≡ None → P a) → P (checked o a)
checked-meets P None a f g = g refl
checked-meets P (Some e) a f g = f e refl

levels-meet : {A : Type 0} (l : Limit) (f : Limit → Answer A) (P : Answer A → Type 0) →
    (l ≡ Some 0 → P (refused recursion_limit_exceeded)) → ((m : Limit) → IsOneLess l m → P (f m)) → P (levels l f)
levels-meet None f P z g = g None tt
levels-meet (Some zero) f P z g = z refl
levels-meet (Some (suc l)) f P z g = g (Some l) refl

pub rest-bytes : (b h r : List ℕ) → b ≡ h ++ r → EachIsByte b → EachIsByte r
rest-bytes b h r e x = bytes_after h r (subst EachIsByte e x)

-- ---- strings

pub kind_ok : (c : StringType) (t : List ℕ) → EachIsByte t → allowed (string_major c) t ≡ true → IsAllowed c t
kind_ok StringType.Bytes t bytes h = are_bytes t bytes
kind_ok StringType.Text t bytes h = IsUtf8-from_is_utf8 t h

-- behind the head of a string of n bytes, which has k
abbrev StringMeets : StringType → List ℕ → ℕ → ℕ → ℕ → List ℕ → Answer (List ℕ) → Type 0
StringMeets c b p n k r (ends y x u) = (r ≡ y ++ x) × (length y ≡ n) × IsAllowed c y × (u ≡ p + k + n)
StringMeets c b p n k r (refused e) = StringRefuses c b p e

string-meets : (c : StringType) (b : List ℕ) (p q n k : ℕ) (r : List ℕ) → EachIsByte b →
    HasHead b (string_major c) n k r → q ≡ p + k → StringMeets c b p n k r (string (string_major c) n r p q)
string-meets c b p q n k r bytes st e =
    cond_both (ltb (length r) n) _ _ P (λ t. (n, k, r, st, PayloadRefuses.ends_early (ltb-true _ _ t)))
    (λ t. let room : n ≤ length r = ltb-false _ _ t in
    let ly : length (take n r) ≡ n = length-take-le n r room in
    let split : r ≡ take n r ++ drop n r = sym (take-append-drop n r) in
    cond_both (allowed (string_major c) (take n r)) _ _ P
    (λ u. (split, ly, kind_ok c (take n r) (take_bytes n r (rest-bytes b st.0 r st.3 bytes)) u, omega (arith, e)))
    (λ u. (
      n,
      k,
      r,
      st,
      subst (λ z. PayloadRefuses c n p z (syntax p)) (sym split)
          (PayloadRefuses.not_allowed (take n r) (drop n r) ly
          (λ a. let z = sym u ∙ type_allowed c (take n r) a in absurd cc)),
    )))
  where
    P : Answer (List ℕ) → Type 0
    P a = StringMeets c b p n k r a

-- ---- the parts of an open string

abbrev PiecesMeet : StringType → List ℕ → ℕ → Answer (List ℕ) → Type 0
PiecesMeet c b q (ends y r u) = (s : List ℕ) × (ps : List (List ℕ)) × AreChunks (string_major c) (IsAllowed c) s ps ×
    (y ≡ joined ps) × (b ≡ s ++ (255 ∷ r)) × (u ≡ q + length s + 1) × (u ≤ greatest_offset)
PiecesMeet c b q (refused e) = (s : List ℕ) × (ps : List (List ℕ)) × (r : List ℕ) × AreChunks (string_major c)
    (IsAllowed c) s ps × (q + length s ≤ greatest_offset) × (b ≡ s ++ r) × ChunkRefuses c r (q + length s) e

string-begins : (c : StringType) (b : List ℕ) (f : Front) → front b ≡ f →
    ((n : ℕ) (r : List ℕ) → f ≡ counted (string_major c) n r → ⊥) → HasStringHead c b → ⊥
string-begins c b f e h s = h s.0 s.2 (sym e ∙ stands-front b (string_major c) s.0 s.1 s.2 (type-below c) s.3)

break-begins : (b : List ℕ) (f : Front) → front b ≡ f → ((r : List ℕ) → f ≡ opened 7 r → ⊥) → IsAtFront 255 b → ⊥
break-begins b f e h s = h s.0 (sym e ∙ ap front s.1 ∙ front_open 7 s.0)

module _ (k : StringType) where
  abbrev m : ℕ
  m = string_major k

  abbrev PM : List ℕ → ℕ → Answer (List ℕ) → Type 0
  PM b q a = PiecesMeet k b q a

  -- a part refuses here
  here : (b : List ℕ) (q : ℕ) (e : Refusal) → q ≤ greatest_offset → ChunkRefuses k b q e → PM b q (refused e)
  here b q e h f = ([], [], b, refl, omega arith, refl, subst (λ u. ChunkRefuses k b u e) (omega arith) f)

  -- a good part stands before more
  before : (b s y x : List ℕ) (q u : ℕ) (a : Answer (List ℕ)) → IsDefiniteString m (IsAllowed k) s y → b ≡ s ++ x →
      u ≡ q + length s → PM x u a → PM b q (made (λ (z : List ℕ). y ++ z) a)
  before b s y x q u (ends z r v) str e i (t, ps, g, same, f, j, room) = (
    s ++ t,
    y ∷ ps,
    (s, t, str, g, refl),
    ap (λ (c : List ℕ). y ++ c) same,
    e ∙ ap (λ (c : List ℕ). s ++ c) f ∙ sym (append_assoc s t (255 ∷ r)),
    (let l : length (s ++ t) ≡ length s + length t = length-append s t in omega (arith, l, i, j)),
    room,
  )
  before b s y x q u (refused e') str e i (t, ps, r, g, room, f, fault) =
      let l : length (s ++ t) ≡ length s + length t = length-append s t in (
        s ++ t,
        y ∷ ps,
        r,
        (s, t, str, g, refl),
        omega (arith, l, i, room),
        e ∙ ap (λ (c : List ℕ). s ++ c) f ∙ sym (append_assoc s t r),
        subst (λ v. ChunkRefuses k r v e') (omega (arith, l, i)) fault,
      )

  after-part : (d : ℕ) (b : List ℕ) (q n j : ℕ) (r : List ℕ) (a : Answer (List ℕ)) → IsUsable b q →
      q ≤ greatest_offset → EachIsByte b → HasHead b m n j r → q + j + n ≤ greatest_offset → StringMeets k b q n j r a →
      ((x : List ℕ) (u : ℕ) → EachIsByte x → length x < length b → u ≤ greatest_offset → PM x u (pieces d m x u)) →
      PM b q (and_then (chunk (pieces d m)) a)
  after-part d b q n j r (refused e) has room bytes st fits sm rec = here b q e room (ChunkRefuses.chunk has sm)
  after-part d b q n j r (ends y x u) has room bytes (h, is, len, split) fits (e, size, ok, at) rec =
      let s : List ℕ = h ++ y in
      let here : b ≡ s ++ x = split ∙ ap (λ (c : List ℕ). h ++ c) e ∙ sym (append_assoc h y x) in
      let lb : length b ≡ length s + length x = ap length here ∙ length-append s x in
      let ls : length s ≡ length h + length y = length-append h y in
      let lh = stands-length b m n j r (h, is, len, split) in
      before b s y x q u (pieces d m x u)
      (h, subst (λ z. IsHead h m z) (sym size) is, ok, refl) here (omega (arith, at, ls, len, size))
      (rec x u (rest-bytes b s x here bytes) (omega (arith, lb, ls, len, lh.1)) (omega (arith, at, fits)))

  piece-meets : (d : ℕ) (b : List ℕ) (q : ℕ) → IsUsable b q → q ≤ greatest_offset → EachIsByte b →
      ((x : List ℕ) (u : ℕ) → EachIsByte x → length x < length b → u ≤ greatest_offset → PM x u (pieces d m x u)) →
      (f : Front) → front b ≡ f → Face b q f → PM b q (piece (pieces d m) m b q f)
  piece-meets d b q has room bytes rec nothing e f = absurd f
  piece-meets d b q has room bytes rec (counted z n r) e f =
      cond_both (eqb z m) _ _ (PM b q)
      (λ t. let j = eqb-true z m t in
      let st : HasHead b m n f.1 r = subst (λ j. HasHead b j n f.1 r) j f.2 in
      after-part d b q n f.1 r (string m n r q (past q b r)) has room bytes st
      (f.4 (subst IsStringMajor (sym j) (kind_major k)))
      (string-meets k b q (past q b r) n f.1 r bytes st
      (let l = stands-length b m n f.1 r st in omega (arith, l.0))) rec)
      (λ t. here b q (syntax q) room (ChunkRefuses.other has
      (string-begins k b (counted z n r) e (λ n' r' g. eqb-false z m t
      (major_of (counted z n r) (counted m n' r') g)))
      (break-begins b (counted z n r) e (λ r' g. absurd cc))))
    where
      number_of_front : Front → ℕ
      number_of_front nothing = 0
      number_of_front (counted a b c) = a
      number_of_front (opened a c) = 0
      number_of_front (plain a c) = 0
      number_of_front (raw a c) = 0

      major_of : (g h : Front) → g ≡ h → number_of_front g ≡ number_of_front h
      major_of g h e = ap number_of_front e
  piece-meets d b q has room bytes rec (opened z r) e f =
      cond_both (eqb z 7) _ _ (PM b q)
      (λ t. let at = f.5 in
      ([], [], refl, refl, f.0 ∙ ap (λ j. (j * 32 + 31) ∷ r) (eqb-true z 7 t), omega arith, omega (arith, at)))
      (λ t. here b q (syntax q) room (ChunkRefuses.other has
      (string-begins k b (opened z r) e (λ n' r' g. absurd cc))
      (break-begins b (opened z r) e (λ r' g. eqb-false z 7 t (cc)))))
  piece-meets d b q has room bytes rec (plain n r) e f =
      here b q (syntax q) room (ChunkRefuses.other has (string-begins k b (plain n r) e (λ n' r' g. absurd cc))
      (break-begins b (plain n r) e (λ r' g. absurd cc)))
  piece-meets d b q has room bytes rec (raw w r) e f =
      here b q (syntax q) room (ChunkRefuses.other has (string-begins k b (raw w r) e (λ n' r' g. absurd cc))
      (break-begins b (raw w r) e (λ r' g. absurd cc)))

  pub pieces-meet : (d b q : _) → q ≤ greatest_offset → EachIsByte b → length b < d → PM b q (pieces d m b q)
  pieces-meet zero b q room bytes fuel = let never : ⊥ = omega (arith, fuel) in absurd never
  pieces-meet (suc d) b q room bytes fuel =
      checked-meets (PM b q) (head_refusal b q) _ (λ e h. here b q e room (ChunkRefuses.no_head h))
      (λ h. piece-meets d b q h room bytes (λ x u bx lx rx. pieces-meet d x u rx bx (omega (arith, lx, fuel))) (front b)
      refl (faces b q bytes h))

-- ---- the end of a container

abbrev EndMeets : Due → List ℕ → ℕ → Option (List ℕ × ℕ) → Type 0
EndMeets now b p None = IsDue now b p
EndMeets now b p (Some e) = IsComplete now b p e.0 e.1

break-meets : (now b p : _) → ((p < greatest_offset → IsAtFront 255 b → ⊥) → EndMeets now b p None) → ((r : List ℕ) →
    b ≡ 255 ∷ r → p < greatest_offset → EndMeets now b p (Some (r, p + 1))) → EndMeets now b p (break_at b p)
break-meets now [] p f g = f (λ h k. let z = k.1 in absurd cc)
break-meets now (x ∷ b) p f g =
    cond_both (ltb p greatest_offset && eqb x 255) _ _ (EndMeets now (x ∷ b) p)
    (λ t. let a = both _ _ t in g b (ap (λ y. y ∷ b) (eqb-true x 255 a.1)) (ltb-true _ _ a.0))
    (λ t. f (λ h k. not_both _ _ t (lt-ltb p greatest_offset h) (eq-eqb x 255 (first _ _ _ _ k.1))))
  where
    not_both : (t u : Bool) → (t && u) ≡ false → t ≡ true → u ≡ true → ⊥
    not_both t u h e f = let z = sym h ∙ ap (λ v. v && u) e ∙ f in cc

    first : (a c : ℕ) (r s : List ℕ) → a ∷ r ≡ c ∷ s → a ≡ c
    first a c r s e = cc

end-meets : (now : Due) (b : List ℕ) (p : ℕ) → EndMeets now b p (end_at now b p)
end-meets (items None) b p = break-meets (items None) b p (λ f. f) (λ r e k. (e, refl, omega (arith, k)))
end-meets (items (Some zero)) b p = (refl, refl, refl)
end-meets (items (Some (suc n))) b p = omega arith
end-meets (keys None) b p = break-meets (keys None) b p (λ f. f) (λ r e k. (e, refl, omega (arith, k)))
end-meets (keys (Some zero)) b p = (refl, refl, refl)
end-meets (keys (Some (suc n))) b p = omega arith
end-meets (values n) b p = tt

due-next : (now : Due) (b : List ℕ) (p : ℕ) → IsDue now b p → (next : Due) × (next_due now ≡ Some next)
due-next (items None) b p h = (items None, refl)
due-next (items (Some (suc n))) b p h = (items (Some n), refl)
due-next (keys None) b p h = (values None, refl)
due-next (keys (Some (suc n))) b p h = (values (Some n), refl)
due-next (values n) b p h = (keys n, refl)
due-next u b p h = let never : ⊥ = omega (arith, h) in absurd never

module _ (spelling : Spelling) where
  abbrev pub Meets : List ℕ → ℕ → Limit → Answer Tree → Type 0
  Meets b p l (ends v r q) = ReadsItem spelling l b p v r q
  Meets b p l (refused e) = Refuses spelling b p l e

  abbrev ReadMeets : ℕ → Type 0
  ReadMeets d = (b : List ℕ) (p : ℕ) (l : Limit) → EachIsByte b → 2 * length b < d → Meets b p l (read spelling d b p l)

  abbrev PartsMeet : ℕ → Type 0
  PartsMeet d = (b p l vs r q now below : _) → IsInside spelling b p l vs r q now below → EachIsByte r →
      2 * length r + 1 < d → Meets b p l (parts spelling d (Some now) vs r q below)

  -- ---- containers

  module _ (d : ℕ) (rec : ReadMeets d) (recs : PartsMeet d) (b : List ℕ) (p : ℕ) (l : Limit) (vs : List Tree)
      (r : List ℕ) (q : ℕ) (now : Due) (below : Limit) (i : IsInside spelling b p l vs r q now below)
      (bytes : EachIsByte r) (fuel : 2 * length r < d) where
    -- behind a part that was read
    part-read : IsDue now r q → (v : Tree) (x : List ℕ) (u : ℕ) → ReadsItem spelling below r q v x u →
        Meets b p l (next_part spelling (parts spelling d) now vs q below v x u)
    part-read due v x u item =
        cond_both (in_order spelling (keys_among now (vs ++ (v ∷ [])))) _ _ (Meets b p l)
        (λ t. let next = due-next now r q due in
        let more = inside-more spelling b p l below vs v r x q u now next.0 i item next.1
        (in_order-is spelling (keys_among now (vs ++ (v ∷ []))) t) in
        let split = item.split in
        let a = anyway spelling item.taken q below v item.read in
        let some = spells-pos a.0 item.taken a.1 in
        let lr : length r ≡ length item.taken + length x = ap length split ∙ length-append item.taken x in
        rw next.1 (recs b p l (vs ++ (v ∷ [])) x u next.0 below more (rest-bytes r item.taken x split bytes)
        (omega (arith, lr, some, fuel))))
        (λ t. Refuses.key_order vs r item.taken x v q now below i due item.read item.split
        (λ o. let no : true ≡ false = sym (is-in_order spelling (keys_among now (vs ++ (v ∷ []))) o) ∙ t in cc))

    part-meets : IsDue now r q → (a : Answer Tree) → Meets r q below a →
        Meets b p l (and_then (next_part spelling (parts spelling d) now vs q below) a)
    part-meets due (refused e) f = Refuses.part vs r q now below i due f
    part-meets due (ends v x u) item = part-read due v x u item

    parts-more : Meets b p l (parts spelling (suc d) (Some now) vs r q below)
    parts-more = by (end_at now r q) (end-meets now r q)
      where
        by : (o : Option (List ℕ × ℕ)) → EndMeets now r q o → Meets b p l (or_end o (container_of now vs)
            (and_then (next_part spelling (parts spelling d) now vs q below)
            (read spelling d r q below)))
        by None due = part-meets due (read spelling d r q below) (rec r q below bytes fuel)
        by (Some e) done = reads-container spelling b p l below vs r e.0 q e.1 now i done

  -- ---- tags

  module _ (d : ℕ) (rec : ReadMeets d) (b r : List ℕ) (t p q : ℕ) (l : Limit) (a : IsTagAt spelling b p t r q)
      (bytes : EachIsByte r) (fuel : 2 * length r < d) where
    -- over a string that was read
    bignum-meets : IsFoldingAt t r → (v : Tree) (x : List ℕ) (u : ℕ) → ReadsItem spelling l r q v x u →
        Meets b p l (bignum spelling t p v x u)
    bignum-meets f v x u item =
        let y = folding-reads spelling t l r x q u v item f in
        subst (λ w. Meets b p l (bignum spelling t p w x u)) (sym y.1)
        (of y.0 (subst (λ w. ReadsItem spelling l r q w x u) y.1 item))
      where
        wants : (s : Spelling) (y : List ℕ) → is_unwanted s y ≡ true → IsUnwanted s y
        wants any y e = absurd cc
        wants (deterministic order) y e = foldable-is y e

        never : (s : Spelling) (y : List ℕ) → is_unwanted s y ≡ false → IsUnwanted s y → ⊥
        never any y e h = h
        never (deterministic order) y e h = let no : true ≡ false = sym (is-foldable y h) ∙ e in cc

        of : (y : List ℕ) → ReadsItem spelling l r q (trees.bytes y) x u →
            Meets b p l (bignum spelling t p (trees.bytes y) x u)
        of y i =
            cond_both (is_unwanted spelling y) _ _ (Meets b p l)
            (λ z. Refuses.not_folded t r i.taken x y q a f i.read i.split (wants spelling y z))
            (λ z. means (never spelling y z) (bignum_meaning t y) refl)
          where
            means : (IsUnwanted spelling y → ⊥) → (o : Option Tree) → bignum_meaning t y ≡ o →
                Meets b p l (given (semantic p TooLarge) o x u)
            means wanted (Some v) e = reads-folded spelling b p t l r x q u y v a f i wanted e
            means wanted None e =
                let n = none-large t y f.0 e in
                Refuses.too_large r i.taken x y q (subst (λ k. IsTagAt spelling b p k r q) n.0 a)
                (subst (λ k. IsFoldingAt k r) n.0 f) i.read i.split n.1

    folds-meet : IsFoldingAt t r → (c : Answer Tree) → Meets r q l c → Meets b p l (and_then (bignum spelling t p) c)
    folds-meet f (refused e) m = Refuses.folding t r q a f m
    folds-meet f (ends v x u) item = bignum-meets f v x u item

    opens-meet : (IsFoldingAt t r → ⊥) → (m : Limit) → IsOneLess l m → (c : Answer Tree) → Meets r q m c →
        Meets b p l (made (trees.tag t) c)
    opens-meet never m level (refused e) f = Refuses.tagged t r q m a never level f
    opens-meet never m level (ends v x u) item = reads-tag spelling b p t l m r x q u v a never level item

    tag-meets : Meets b p l (cond (folding t (front r)) (and_then (bignum spelling t p) (read spelling d r q l))
        (levels l (λ m. made (trees.tag t) (read spelling d r q m))))
    tag-meets =
        cond_both (folding t (front r)) _ _ (Meets b p l)
        (λ z. folds-meet (seen-folds t r q bytes a.usable z) (read spelling d r q l) (rec r q l bytes fuel))
        (λ z. let never : IsFoldingAt t r → ⊥ = (λ f. let c = sym z ∙ folds-front t r f in cc) in
        levels-meet l (λ m. made (trees.tag t) (read spelling d r q m)) (Meets b p l)
        (λ e. subst (λ j. Refuses spelling b p j recursion_limit_exceeded) (sym e) (Refuses.no_tag_level t r q a never))
        (λ m level. opens-meet never m level (read spelling d r q m) (rec r q m bytes fuel)))

  -- ---- every item

  module _ (d : ℕ) (rec : ReadMeets d) (recs : PartsMeet d) (b : List ℕ) (p : ℕ) (l : Limit)
      (good : HasGoodHead spelling b p) (bytes : EachIsByte b) (fuel : 2 * length b ≤ d) where
    container-meets : (k : ℕ) (r : List ℕ) (w : Due) → BeginsContainer b k r w → p + k ≤ greatest_offset →
        EachIsByte r → 2 * length r + 1 < d → Meets b p l (levels l (parts spelling d (Some w) [] r (p + k)))
    container-meets k r w begins fits each few =
        levels-meet l (parts spelling d (Some w) [] r (p + k)) (Meets b p l)
        (λ z. subst (λ j. Refuses spelling b p j recursion_limit_exceeded) (sym z) (Refuses.no_level k r w good begins))
        (λ m level. recs b p l [] r (p + k) w m (IsInside.begun good begins level fits) each few)

    string-item : (type n k r : _) (a : Answer (List ℕ)) → HasHead b (string_major type) n k r →
        p + k + n ≤ greatest_offset → StringMeets type b p n k r a → Meets b p l (made (string_tree type) a)
    string-item type n k r (refused e) st fits f = Refuses.string type good f
    string-item type n k r (ends y x u) st fits (split, size, ok, at) =
        subst (λ z. ReadsItem spelling l b p (string_tree type y) x z) (sym at)
        (reads-string spelling type b p n k l y x (subst (λ c. HasHead b (string_major type) n k c) split st) size ok
        good.1 fits)

    open-item : (type : StringType) (r : List ℕ) (a : Answer (List ℕ)) → b ≡ (string_major type * 32 + 31) ∷ r →
        PiecesMeet type r (p + 1) a → Meets b p l (made (string_tree type) a)
    open-item type r (refused e) split f = Refuses.open_string type good (r, split, f)
    open-item type r (ends y x u) split (c, ys, chunks, same, at, end, fits) =
        subst (λ z. ReadsItem spelling l b p (string_tree type z) x u) (sym same)
        (subst (λ z. ReadsItem spelling l b p (string_tree type (joined ys)) x z) (omega (arith, end))
        (reads-open_string spelling type b p l c ys x
        (split ∙ ap (λ (z : List ℕ). (string_major type * 32 + 31) ∷ z) at) chunks good.1 (omega (arith, end, fits))))

    counted-meets : (m n k : ℕ) (r : List ℕ) → m < 7 → HasHead b m n k r → p + k ≤ greatest_offset →
        (IsStringMajor m → p + k + n ≤ greatest_offset) →
        Meets b p l (counted_item spelling (read spelling d) (λ w. parts spelling d (Some w) []) m n r p (p + k) l)
    counted-meets zero n k r lt st fits sf = reads-positive spelling b p n k l r st good.1 fits
    counted-meets (suc zero) n k r lt st fits sf = reads-negative spelling b p n k l r st good.1 fits
    counted-meets (suc (suc zero)) n k r lt st fits sf =
        string-item StringType.Bytes n k r (string 2 n r p (p + k)) st (sf (inl refl))
        (string-meets StringType.Bytes b p (p + k) n k r bytes st refl)
    counted-meets (suc (suc (suc zero))) n k r lt st fits sf =
        string-item StringType.Text n k r (string 3 n r p (p + k)) st (sf (inr refl))
        (string-meets StringType.Text b p (p + k) n k r bytes st refl)
    counted-meets (suc (suc (suc (suc zero)))) n k r lt st fits sf =
        let lb = stands-length b 4 n k r st in
        container-meets k r (items (Some n)) (BeginsContainer.array n st) fits (rest-bytes b st.0 r st.3 bytes)
        (omega (arith, lb.0, lb.1, fuel))
    counted-meets (suc (suc (suc (suc (suc zero))))) n k r lt st fits sf =
        let lb = stands-length b 5 n k r st in
        container-meets k r (keys (Some n)) (BeginsContainer.map n st) fits (rest-bytes b st.0 r st.3 bytes)
        (omega (arith, lb.0, lb.1, fuel))
    counted-meets (suc (suc (suc (suc (suc (suc zero)))))) n k r lt st fits sf =
        let lb = stands-length b 6 n k r st in
        checked-meets (Meets b p l) (head_refusal r (p + k)) _ (λ e h. Refuses.tag_no_head n k r good st h)
        (λ h. tag-meets d rec b r n p (p + k) l
        (record { size = k; head = good; tag = st; usable = h; at = refl }) (rest-bytes b st.0 r st.3 bytes)
        (omega (arith, lb.0, lb.1, fuel)))
    counted-meets (suc (suc (suc (suc (suc (suc (suc m))))))) n k r lt st fits sf = let never : ⊥ = omega (arith, lt) in
        absurd never

    opened-meets : (m r : _) → b ≡ (m * 32 + 31) ∷ r → m < 8 → (m ≡ 0 → ⊥) → (m ≡ 1 → ⊥) → (m ≡ 6 → ⊥) →
        p < greatest_offset → Meets b p l (opened_item spelling (λ w. parts spelling d (Some w) []) (pieces d) m r p l)
    opened-meets zero r e lt a0 a1 a6 room = absurd (a0 refl)
    opened-meets (suc zero) r e lt a0 a1 a6 room = absurd (a1 refl)
    opened-meets (suc (suc zero)) r e lt a0 a1 a6 room =
        let lb : length b ≡ suc (length r) = ap length e in
        open-item StringType.Bytes r (pieces d 2 r (p + 1)) e
        (pieces-meet StringType.Bytes d r (p + 1) (omega (arith, room))
        (rest-bytes b (95 ∷ []) r e bytes) (omega (arith, lb, fuel)))
    opened-meets (suc (suc (suc zero))) r e lt a0 a1 a6 room =
        let lb : length b ≡ suc (length r) = ap length e in
        open-item StringType.Text r (pieces d 3 r (p + 1)) e
        (pieces-meet StringType.Text d r (p + 1) (omega (arith, room))
        (rest-bytes b (127 ∷ []) r e bytes) (omega (arith, lb, fuel)))
    opened-meets (suc (suc (suc (suc zero)))) r e lt a0 a1 a6 room =
        let lb : length b ≡ suc (length r) = ap length e in
        container-meets 1 r (items None) (BeginsContainer.open_array refl e) (omega (arith, room))
        (rest-bytes b (159 ∷ []) r e bytes) (omega (arith, lb, fuel))
    opened-meets (suc (suc (suc (suc (suc zero))))) r e lt a0 a1 a6 room =
        let lb : length b ≡ suc (length r) = ap length e in
        container-meets 1 r (keys None) (BeginsContainer.open_map refl e) (omega (arith, room))
        (rest-bytes b (191 ∷ []) r e bytes) (omega (arith, lb, fuel))
    opened-meets (suc (suc (suc (suc (suc (suc zero)))))) r e lt a0 a1 a6 room = absurd (a6 refl)
    opened-meets (suc (suc (suc (suc (suc (suc (suc zero))))))) r e lt a0 a1 a6 room =
        subst (λ c. Refuses spelling c p l (semantic p Break)) (sym e)
        (Refuses.break (subst (λ c. IsUsable c p) e good.0))
    opened-meets (suc (suc (suc (suc (suc (suc (suc (suc m)))))))) r e lt a0 a1 a6 room =
        let never : ⊥ = omega (arith, lt) in absurd never

    item-meets : (f : Front) → Face b p f →
        Meets b p l (item_at spelling (read spelling d) (λ w. parts spelling d (Some w) []) (pieces d) b p l f)
    item-meets nothing f = absurd f
    item-meets (counted m n r) f =
        let lb = stands-length b m n f.1 r f.2 in
        let e : p + f.1 ≡ past p b r = omega (arith, lb.0) in
        rw e at (counted-meets m n f.1 r f.0 f.2 f.3 f.4)
    item-meets (opened m r) f = opened-meets m r f.0 f.1 f.2 f.3 f.4 f.5
    item-meets (plain n r) f = by (simple_meaning n) refl
      where
        by : (o : Option Tree) → simple_meaning n ≡ o → Meets b p l (given (semantic p Simple) o r (past p b r))
        by None e = Refuses.simple f.0 n r good.0 f.1 e f.2
        by (Some v) e =
            let lb : length b ≡ length f.0 + length r = ap length f.2 ∙ length-append f.0 r in
            subst (λ z. ReadsItem spelling l b p v r z) (omega (arith, lb))
            (reads-simple spelling b p l f.0 n r v f.1 f.2 e good.1 f.3)
    item-meets (raw w r) f = subst (λ c. Refuses spelling c p l (semantic p Float)) (sym f.3)
        (Refuses.float (subst (λ c. IsUsable c p) f.3 good.0) f.1 f.2)

  judged-meets : (d : ℕ) → ReadMeets d → PartsMeet d → (b : List ℕ) (p : ℕ) (l : Limit) → IsUsable b p →
      EachIsByte b → 2 * length b ≤ d → (o : Option Kind) → spelling_fault spelling b ≡ o → Meets b p l
      (checked (option_map (semantic p) o) (item_at spelling (read spelling d) (λ w. parts spelling d (Some w) [])
      (pieces d) b p l (front b)))
  judged-meets d rec recs b p l h bytes fuel (Some kind) e = Refuses.bad_head kind h e
  judged-meets d rec recs b p l h bytes fuel None e =
      item-meets d rec recs b p l (h, e) bytes fuel (front b) (faces b p bytes h)

  mutual
    pub read-meets : (d : ℕ) → ReadMeets d
    read-meets zero b p l bytes fuel = let never : ⊥ = omega (arith, fuel) in absurd never
    read-meets (suc d) b p l bytes fuel = checked-meets (Meets b p l) (head_refusal b p) _ (λ e h. Refuses.no_head h)
        (λ h. judged-meets d (read-meets d) (parts-meet d) b p l h bytes (omega (arith, fuel))
        (spelling_fault spelling b) refl)

    pub parts-meet : (d : ℕ) → PartsMeet d
    parts-meet zero b p l vs r q now below i bytes fuel = let never : ⊥ = omega (arith, fuel) in absurd never
    parts-meet (suc d) b p l vs r q now below i bytes fuel =
        parts-more d (read-meets d) (parts-meet d) b p l vs r q now below i bytes (omega (arith, fuel))
