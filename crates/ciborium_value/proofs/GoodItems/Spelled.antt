-- What is seen at the front of a spelled item, and whether a tag folds over it.
use Rattle.std.proofs.Common.{◌≡◌, ℕ, suc, ◌+◌, ◌*◌, ◌<◌, ◌≤◌, cond, leb, eqb, Bool, true, false, ◌&&◌, List, [], ◌∷◌}
use Rattle.std.proofs.Common.{◌++◌, length, Option, Some, None, refl, ap, ◌∙◌, subst, arith, inl, inr, length-append}
use Rattle.std.proofs.Common.{append_assoc, le-leb, leb-true, eqb-true, IsUtf8}
use Rattle.std.{proofs.lemmas.List.Elements.All-from_recursion, specs.List.AllByRecursion}
use Rattle.ciborium_ll.proofs.FrontHeads.{Front, nothing, counted, opened, plain, raw, front, front_open, front-simple}
use Rattle.ciborium_ll.proofs.{FrontHeads.{front-head, head-length}, ReadHeads.{Face, faces}, UsableHeads.EachIsByte}
use Rattle.ciborium_ll.{proofs.UsableHeads.stands-front, specs.{Bytes.AreBytes, Head.IsHead, Item.{Item, unsigned}}}
use Rattle.ciborium_ll.specs.Item.{negative, bytes, text, array, map, tag, simple, float, items_count, pairs_count}
use Rattle.ciborium_ll.specs.{Refusal.{IsUsable, HasHead}, Spells.{IsString, IsContainer, Spells}}
use Rattle.ciborium_value.{proofs.GoodItems.Reader.{short, folding}, specs.Meaning.{is_bignum_tag, short_string}}
use Rattle.ciborium_value.specs.{Meaning.folding_bytes, Refuses.IsFoldingAt, lemmas.Descriptions.both}

string_of-pos : (o : Bool) (m : _) (IsAllowed : List ℕ → Type 0) (s y : _) → IsString o m IsAllowed s y → 0 < length s
string_of-pos false m IsAllowed s y h =
    let l : length s ≡ length h.0 + length y = ap length h.3 ∙ length-append h.0 y in
    omega (arith, l, head-length h.0 m (length y) h.1)
string_of-pos true m IsAllowed s y h = let l : length s ≡ suc (length (h.1 ++ (255 ∷ []))) = ap length h.4 in
    omega (arith, l)

encloses-pos : (o : Bool) (m n : ℕ) (s r : List ℕ) → IsContainer o m n s r → 0 < length s
encloses-pos false m n s r h =
    let l : length s ≡ length h.0 + length r = ap length h.2 ∙ length-append h.0 r in
    omega (arith, l, head-length h.0 m n h.1)
encloses-pos true m n s r h = let l : length s ≡ suc (length (r ++ (255 ∷ []))) = ap length h in omega (arith, l)

pub spells-pos : (i : Item) (s : List ℕ) → Spells s i → 0 < length s
spells-pos (unsigned n) s h = head-length s 0 n h
spells-pos (negative n) s h = head-length s 1 n h
spells-pos (bytes o y) s h = string_of-pos o 2 AreBytes s y h
spells-pos (text o y) s h = string_of-pos o 3 IsUtf8 s y h
spells-pos (array o is) s h = encloses-pos o 4 (items_count is) s h.0 h.2
spells-pos (map o ps) s h = encloses-pos o 5 (pairs_count ps) s h.0 h.2
spells-pos (tag n i) s h =
    let l : length s ≡ length h.0 + length h.1 = ap length h.4 ∙ length-append h.0 h.1 in
    omega (arith, l, head-length h.0 6 n h.2)
spells-pos (simple n) s (inl h) = let l : length s ≡ 1 = ap length h.1 in omega (arith, l)
spells-pos (simple n) s (inr h) = let l : length s ≡ 2 = ap length h.2 in omega (arith, l)
spells-pos (float r) s (inl h) = let l : length s ≡ suc (length r) = ap length h.1 in omega (arith, l)
spells-pos (float r) s (inr (inl h)) = let l : length s ≡ suc (length r) = ap length h.1 in omega (arith, l)
spells-pos (float r) s (inr (inr h)) = let l : length s ≡ suc (length r) = ap length h.1 in omega (arith, l)

-- ---- a head before r stands before what follows too

pub stands-on : (s h r x b m n : _) → IsHead h m n → s ≡ h ++ r → b ≡ s ++ x → HasHead b m n (length h) (r ++ x)
stands-on s h r x b m n k e f = (h, k, refl, f ∙ ap (λ (c : List ℕ). c ++ x) e ∙ append_assoc h r x)

pub opens-on : (s r x b : List ℕ) (m : ℕ) → s ≡ (m * 32 + 31) ∷ (r ++ (255 ∷ [])) → b ≡ s ++ x →
    b ≡ (m * 32 + 31) ∷ (r ++ (255 ∷ x))
opens-on s r x b m e f = f ∙ ap (λ (c : List ℕ). c ++ x) e ∙
    ap (λ (c : List ℕ). (m * 32 + 31) ∷ c) (append_assoc r (255 ∷ []) x)

-- ---- what folds

short-counted : (s h r x b : List ℕ) (m n : ℕ) → m < 7 → IsHead h m n → s ≡ h ++ r → b ≡ s ++ x →
    short (front b) ≡ (eqb m 2 && leb n 16)
short-counted s h r x b m n lt k e f = ap short (stands-front b m n (length h) (r ++ x) lt
    (stands-on s h r x b m n k e f))

short-opened : (s r x b : List ℕ) (m : ℕ) → s ≡ (m * 32 + 31) ∷ (r ++ (255 ∷ [])) → b ≡ s ++ x → short (front b) ≡ false
short-opened s r x b m e f = ap (λ c. short (front c)) (opens-on s r x b m e f) ∙
    ap short (front_open m (r ++ (255 ∷ x)))

pub short-none : (i : Item) (s x b : List ℕ) → Spells s i → b ≡ s ++ x → short_string i ≡ None → short (front b) ≡ false
short-none (unsigned n) s x b h e f = ap (λ c. short (front c)) e ∙ ap short (front-head s 0 n x (omega arith) h)
short-none (negative n) s x b h e f = ap (λ c. short (front c)) e ∙ ap short (front-head s 1 n x (omega arith) h)
short-none (bytes false z) s x b h e f = short-counted s h.0 z x b 2 (length z) (omega arith) h.1 h.3 e ∙
    untaken (leb (length z) 16) f
  where
    untaken : (t : Bool) → cond t (Some z) None ≡ None → t ≡ false
    untaken true e = absurd cc
    untaken false e = refl
short-none (bytes true z) s x b h e f = short-opened s h.1 x b 2 h.4 e
short-none (text false z) s x b h e f = short-counted s h.0 z x b 3 (length z) (omega arith) h.1 h.3 e
short-none (text true z) s x b h e f = short-opened s h.1 x b 3 h.4 e
short-none (array false is) s x b h e f = short-counted s h.2.0 h.0 x b 4 (items_count is) (omega arith) h.2.1 h.2.2 e
short-none (array true is) s x b h e f = short-opened s h.0 x b 4 h.2 e
short-none (map false ps) s x b h e f = short-counted s h.2.0 h.0 x b 5 (pairs_count ps) (omega arith) h.2.1 h.2.2 e
short-none (map true ps) s x b h e f = short-opened s h.0 x b 5 h.2 e
short-none (tag n i) s x b h e f = short-counted s h.0 h.1 x b 6 n (omega arith) h.2 h.4 e
short-none (simple n) s x b (inl h) e f = ap (λ c. short (front c)) (e ∙ ap (λ (c : List ℕ). c ++ x) h.1) ∙
    ap short (front-simple n x h.0)
short-none (simple n) s x b (inr h) e f = ap (λ c. short (front c)) (e ∙ ap (λ (c : List ℕ). c ++ x) h.2)
short-none (float r) s x b (inl h) e f = ap (λ c. short (front c)) (e ∙ ap (λ (c : List ℕ). c ++ x) h.1)
short-none (float r) s x b (inr (inl h)) e f = ap (λ c. short (front c)) (e ∙ ap (λ (c : List ℕ). c ++ x) h.1)
short-none (float r) s x b (inr (inr h)) e f = ap (λ c. short (front c)) (e ∙ ap (λ (c : List ℕ). c ++ x) h.1)

pub folds-front : (t : ℕ) (r : List ℕ) → IsFoldingAt t r → folding t (front r) ≡ true
folds-front t r f = ap (λ g. folding t g) (stands-front r 2 f.1 f.2 f.3 (omega arith) f.4) ∙
    ap (λ u. u && leb f.1 16) f.0 ∙ le-leb f.1 16 f.5

pub not_so : (t : Bool) → (t ≡ true → ⊥) → t ≡ false
not_so true h = absurd (h refl)
not_so false h = refl

pub seen-folds : (t r p : _) → EachIsByte r → IsUsable r p → folding t (front r) ≡ true → IsFoldingAt t r
seen-folds t r p each h e = let a = both _ _ e in of (front r) (faces r p each h) a.1
  where
    of : (f : Front) → Face r p f → short f ≡ true → IsFoldingAt t r
    of nothing f s = absurd f
    of (counted m n z) f s = let a = both _ _ s in
        ((both _ _ e).0, n, f.1, z, subst (λ j. HasHead r j n f.1 z) (eqb-true m 2 a.0) f.2, leb-true n 16 a.1)
    of (opened m z) f s = absurd cc
    of (plain n z) f s = absurd cc
    of (raw w z) f s = absurd cc

-- the string over which a tag folds
pub short-is : (i : Item) (y : List ℕ) → short_string i ≡ Some y → (i ≡ bytes false y) × (length y ≤ 16)
short-is (bytes false z) y e = by (leb (length z) 16) refl e
  where
    by : (t : Bool) → leb (length z) 16 ≡ t → cond t (Some z) None ≡ Some y → (bytes false z ≡ bytes false y) ×
        (length y ≤ 16)
    by true u f = let same : z ≡ y = cc in (
      ap (bytes false) same,
      subst (λ (c : List ℕ). length c ≤ 16) same (leb-true _ _ u),
    )
    by false u f = absurd cc
short-is u y e = absurd cc

pub folding-string : (t : ℕ) (i : Item) (s x r : List ℕ) → Spells s i → r ≡ s ++ x → IsFoldingAt t r → (y : List ℕ) ×
    (i ≡ bytes false y) × (length y ≤ 16)
folding-string t i s x r h e f = by (short_string i) refl
  where
    by : (o : Option (List ℕ)) → short_string i ≡ o → (y : List ℕ) × (i ≡ bytes false y) × (length y ≤ 16)
    by (Some y) g = let w = short-is i y g in (y, w.0, w.1)
    by None g =
        let seen = folds-front t r f in
        let none = short-none i s x r h e g in
        absurd (no (is_bignum_tag t) (short (front r)) seen none)
      where
        no : (u v : Bool) → (u && v) ≡ true → v ≡ false → ⊥
        no true v a b = cc
        no false v a b = cc

pub folding-over : (t y : _) → is_bignum_tag t ≡ true → length y ≤ 16 → folding_bytes t (bytes false y) ≡ Some y
folding-over t y big few = ap (λ v. cond v (cond (leb (length y) 16) (Some y) None) None) big ∙
    ap (λ v. cond v (Some y) None) (le-leb (length y) 16 few)

pub folds-some : (t : ℕ) (i : Item) (s x r y : List ℕ) → Spells s i → r ≡ s ++ x → folding_bytes t i ≡ Some y →
    IsFoldingAt t r × (i ≡ bytes false y)
folds-some t i s x r y h e f =
    let a = chosen (is_bignum_tag t) (short_string i) f in
    let w = short-is i y a.1 in
    let k : Spells s (bytes false y) = subst (Spells s) w.0 h in (
      (
        a.0,
        length y,
        length k.0,
        y ++ x,
        (k.0, k.1, refl, e ∙ ap (λ (c : List ℕ). c ++ x) k.3 ∙ append_assoc k.0 y x),
        w.1,
      ),
      w.0,
    )
  where
    chosen : (c : Bool) (o : Option (List ℕ)) → cond c o None ≡ Some y → (c ≡ true) × (o ≡ Some y)
    chosen true o g = (refl, g)
    chosen false o g = absurd cc

pub folds-none : (t i s x r : _) → Spells s i → r ≡ s ++ x → (IsFoldingAt t r → ⊥) → folding_bytes t i ≡ None
folds-none t i s x r h e f = by (is_bignum_tag t) refl (short_string i) refl
  where
    by : (u : Bool) → is_bignum_tag t ≡ u → (o : Option (List ℕ)) → short_string i ≡ o → cond u o None ≡ None
    by true b None g = refl
    by true b (Some y) g = absurd (f (folds-some t i s x r y h e (ap (λ c. cond c (short_string i) None) b ∙ g)).0)
    by false b o g = refl

pub none-folds : (t i s x r : _) → Spells s i → r ≡ s ++ x → folding_bytes t i ≡ None → folding t (front r) ≡ false
none-folds t i s x r h e f = by (is_bignum_tag t) (short_string i) refl f
  where
    by : (u : Bool) (o : Option (List ℕ)) → short_string i ≡ o → cond u o None ≡ None → (u && short (front r)) ≡ false
    by true None g k = short-none i s x r h e g
    by true (Some y) g k = absurd cc
    by false o g k = refl

-- ---- bytes

pub bytes_again : (b : List ℕ) → EachIsByte b → AllByRecursion (λ n. n < 256) b
bytes_again [] h = tt
bytes_again (x ∷ b) h = (h.0, bytes_again b h.1)

pub are_bytes : (b : List ℕ) → EachIsByte b → AreBytes b
are_bytes b h = All-from_recursion (λ n. n < 256) b (bytes_again b h)
