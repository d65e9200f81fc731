-- What misfits the unfinished levels begins nothing that ends them, and so no item stands at the front.
use Rattle.std.proofs.Common.{◌≡◌, ℕ, zero, suc, ◌/◌, ◌%◌, ltb, Bool, true, false, ◌&&◌, ◌||◌, List, [], ◌∷◌, ◌++◌}
use Rattle.std.proofs.Common.{length, take, Some, refl, sym, ap, ◌∙◌, subst, arith, inl, inr, ◌⊎◌, ne_eqb, append_assoc}
use Rattle.std.{proofs.{Math.Seq.take-append_seam, lemmas.Nat.{div-mul-add, mod-mul-add}}, specs.Prelude.IsUtf8}
use Rattle.ciborium_ll.proofs.{HeadAnswers.{Facts, header-begins}, LevelEnds.{anywhere, can-end}}
use Rattle.ciborium_ll.proofs.{LevelFronts.{are-unfinished, HeadTo, front-of-end}, OneHeader.one_header_at_front}
use Rattle.ciborium_ll.{proofs.{UniqueSpelling.none_begins_another, UsableHeads.information-below}, specs.Head.IsHead}
use Rattle.ciborium_ll.specs.{Head.{information, argument_bytes, initial_byte}, Header.{SpellsHeader, is_ill_formed}}
use Rattle.ciborium_ll.specs.ItemLengths.{Misfits, ill_formed, misplaced, no_chunk, no_text, BeginNoItem, BeginText}
use Rattle.ciborium_ll.specs.{ItemLengths.chunk_major, Levels.{EndAll, AreItem, AreLeftBehind, IsPayloadOf}}
use Rattle.ciborium_ll.specs.{Levels.{behind_head, incomplete}, Refusal.{argument_length, is_reserved, is_low_simple}}
use Rattle.ciborium_ll.specs.declared.{header.Header.Header, levels.Level.{Level, TheVariants.{ByteChunks, TextChunks}}}
use Rattle.ciborium_ll.specs.declared.header.Header.TheVariants as heads

-- ---- a spelled head is well-formed, whatever follows

both-false : (t u : Bool) → t ≡ false → u ≡ false → (t || u) ≡ false
both-false t u e f = ap (λ v. v || u) e ∙ f

-- more bytes do not mend what is ill-formed
pub ill-more : (b t : List ℕ) → is_ill_formed b ≡ true → is_ill_formed (b ++ t) ≡ true
ill-more [] t e = absurd cc
ill-more (x ∷ []) t e = by (is_reserved (x / 32) (x % 32)) (is_low_simple x t) e
  where
    by : (u v : Bool) → (u || false) ≡ true → (u || v) ≡ true
    by true v e = refl
    by false v e = absurd cc
ill-more (x ∷ y ∷ b) t e = e

high-more : (m a n : ℕ) (c r : List ℕ) → Facts m a c n → is_low_simple (initial_byte m a) (c ++ r) ≡ false
high-more m a n [] [] f = refl
high-more m a n [] (y ∷ r) f = ap (λ t. t && ltb y 32) (ne_eqb (initial_byte m a) 248 other)
  where
    -- behind f8 there is a byte
    other : initial_byte m a ≡ 248 → ⊥
    other e =
        let low_bits : a ≡ 24 = sym (mod-mul-add m 32 a f.below) ∙ ap (λ k. k % 32) e in
        let one : argument_length a ≡ 1 = ap argument_length low_bits in
        let none : 0 ≡ argument_length a = f.size in
        omega arith
high-more m a n (y ∷ c) r f = f.high

pub spelled-well : (h r : List ℕ) (header : Header) → SpellsHeader h header → is_ill_formed (h ++ r) ≡ false
spelled-well h r header spelled =
    let (m, a, c, whole, f) = header-begins h header spelled in
    let x : ℕ = initial_byte m a in
    let fair : is_reserved (x / 32) (x % 32) ≡ false =
    ap (λ k. is_reserved k (x % 32)) (div-mul-add m 32 a f.below) ∙
    ap (is_reserved m) (mod-mul-add m 32 a f.below) ∙ f.fair in
    ap (λ (b : List ℕ). is_ill_formed (b ++ r)) whole ∙
    both-false (is_reserved (x / 32) (x % 32)) (is_low_simple x (c ++ r)) fair
    (high-more m a _ c r f)

-- ---- where parts of a string stand

-- a part's first byte has the major type, or it is the break
abbrev BeginsPart : ℕ → List ℕ → Type 0
BeginsPart major h = (x : ℕ) × (c : List ℕ) × (h ≡ x ∷ c) × ((x / 32 ≡ major) ⊎ (x ≡ 255))

head-part : (h : List ℕ) (m n : ℕ) → IsHead h m n → BeginsPart m h
head-part h m n (w, lt, whole) =
    let low = information-below w n lt in
    let major = div-mul-add m 32 (information w n) (omega arith) in
    (initial_byte m (information w n), argument_bytes w n, whole, inl major)

part-first : (levels more : List Level) (header : Header) (h : List ℕ) (major : ℕ) →
    chunk_major levels ≡ Some major → behind_head header levels ≡ Some more → SpellsHeader h header → BeginsPart major h
part-first (ByteChunks ∷ levels) more (heads.Bytes (Some n)) h major kind behind spelled =
    let two : 2 ≡ major = cc kind in
    subst (λ m. BeginsPart m h) two (head-part h 2 n spelled)
part-first (ByteChunks ∷ levels) more heads.Break h major kind behind spelled = (255, [], spelled, inr refl)
part-first (ByteChunks ∷ levels) more (heads.Text (Some n)) h major kind behind spelled = absurd cc
part-first (ByteChunks ∷ levels) more (heads.Array (Some n)) h major kind behind spelled = absurd cc
part-first (ByteChunks ∷ levels) more (heads.Map (Some n)) h major kind behind spelled = absurd cc
part-first (ByteChunks ∷ levels) more header h major kind behind spelled = absurd cc
part-first (TextChunks ∷ levels) more (heads.Text (Some n)) h major kind behind spelled =
    let three : 3 ≡ major = cc kind in
    subst (λ m. BeginsPart m h) three (head-part h 3 n spelled)
part-first (TextChunks ∷ levels) more heads.Break h major kind behind spelled = (255, [], spelled, inr refl)
part-first (TextChunks ∷ levels) more (heads.Bytes (Some n)) h major kind behind spelled = absurd cc
part-first (TextChunks ∷ levels) more (heads.Array (Some n)) h major kind behind spelled = absurd cc
part-first (TextChunks ∷ levels) more (heads.Map (Some n)) h major kind behind spelled = absurd cc
part-first (TextChunks ∷ levels) more header h major kind behind spelled = absurd cc
part-first levels more header h major kind behind spelled = absurd cc

-- ---- the beginning of a text

-- what is there of n bytes can be filled up as they are
take-begins : (n : ℕ) (r t : List ℕ) → (u : List ℕ) × (take n r ++ u ≡ take n (r ++ t))
take-begins zero r t = ([], refl)
take-begins (suc n) [] t = (take (suc n) t, refl)
take-begins (suc n) (x ∷ r) t =
    let (u, e) = take-begins n r t in (u, ap (λ (c : List ℕ). x ∷ c) e)

text-begun : (n : ℕ) (r t p q : List ℕ) → r ++ t ≡ p ++ q → length p ≡ n → IsUtf8 p → BeginText n (take n r)
text-begun n r t p q e long utf8 =
    let (u, split) = take-begins n r t in
    let whole : take n r ++ u ≡ p =
    split ∙ ap (take n) e ∙ ap (λ k. take k (p ++ q)) (sym long) ∙ take-append_seam p q in
    (u, ap length whole ∙ long, subst IsUtf8 (sym whole) utf8)

-- ---- what misfits ends nothing

misfit-front : (levels : List Level) (b t x z : List ℕ) → Misfits levels b → HeadTo anywhere levels x [] →
    b ++ t ≡ x ++ z → ⊥
misfit-front levels b t x z misfit f e = by misfit
  where
    placed : b ++ t ≡ f.head ++ (f.payload ++ (f.rest ++ z))
    placed = e ∙ ap (λ (c : List ℕ). c ++ z) f.whole ∙ simp append_assoc

    -- a head at the front is that of f
    one : (header : Header) (h r : List ℕ) → SpellsHeader h header → b ≡ h ++ r →
        (h ≡ f.head) × (r ++ t ≡ f.payload ++ (f.rest ++ z)) × (header ≡ f.header)
    one header h r spelled whole = one_header_at_front h f.head (r ++ t) (f.payload ++ (f.rest ++ z)) header f.header
        spelled f.spelled (sym (append_assoc h r t) ∙ ap (λ (c : List ℕ). c ++ t) (sym whole) ∙ placed)

    by : Misfits levels b → ⊥
    by (ill_formed ill) =
        let bad = ill-more b t ill in
        let good = spelled-well f.head (f.payload ++ (f.rest ++ z)) f.header f.spelled in
        let same = ap is_ill_formed placed in
        cc
    by (misplaced header h r spelled whole none) =
        let is = (one header h r spelled whole).2 in
        let same = sym none ∙ ap (λ k. behind_head k levels) is ∙ f.behind in
        cc
    by (no_chunk x major r whole kind other broken) =
        let (y, c, first, part) =
        part-first levels f.more f.header f.head major kind f.behind f.spelled in
        let left : b ++ t ≡ x ∷ (r ++ t) = ap (λ (d : List ℕ). d ++ t) whole in
        let right : f.head ++ (f.payload ++ (f.rest ++ z)) ≡
        y ∷ (c ++ (f.payload ++ (f.rest ++ z))) =
        ap (λ (d : List ℕ). d ++ (f.payload ++ (f.rest ++ z))) first in
        let same = sym left ∙ placed ∙ right in
        let is : x ≡ y = cc same in
        neither x y is part other broken
      where
        neither : (x y : ℕ) → x ≡ y → (y / 32 ≡ major) ⊎ (y ≡ 255) → ¬ (x / 32 ≡ major) → ¬ (x ≡ 255) → ⊥
        neither x y is (inl m) other broken = other (ap (λ k. k / 32) is ∙ m)
        neither x y is (inr m) other broken = broken (is ∙ m)
    by (no_text n h r spelled whole none) =
        let (same, rest, is) = one (heads.Text (Some n)) h r spelled whole in
        let (long, utf8) = subst (λ k. IsPayloadOf k f.payload) (sym is) f.content in
        none (text-begun n r t f.payload (f.rest ++ z) rest long utf8)

-- behind levels that are unfinished and not complete
pub misfit-never : (levels : List Level) (b : List ℕ) → incomplete levels ≡ levels →
    ¬ (levels ≡ []) → Misfits levels b → (t x z : List ℕ) → b ++ t ≡ x ++ z → ¬ EndAll levels x
misfit-never levels b normal some misfit t x z e ends =
    misfit-front levels b t x z misfit (front-of-end levels x (are-unfinished levels normal some) ends) e

-- ---- no item stands at the front

-- of two beginnings of the same bytes, one begins the other
overlap : (a b c d : List ℕ) → a ++ b ≡ c ++ d →
    ((x : List ℕ) × (c ≡ a ++ x) × (b ≡ x ++ d)) ⊎ ((y : List ℕ) × (a ≡ c ++ y))
overlap [] b c d e = inl (c, refl, e)
overlap (x ∷ a) b [] d e = inr (x ∷ a, refl)
overlap (x ∷ a) b (y ∷ c) d e = by (overlap a b c d (cc e))
  where
    first : x ≡ y
    first = cc e

    by : ((z : List ℕ) × (c ≡ a ++ z) × (b ≡ z ++ d)) ⊎ ((z : List ℕ) × (a ≡ c ++ z)) →
        ((z : List ℕ) × (y ∷ c ≡ x ∷ (a ++ z)) × (b ≡ z ++ d)) ⊎ ((z : List ℕ) × (x ∷ a ≡ y ∷ (c ++ z)))
    by (inl (z, is, rest)) = inl (z, (cc), rest)
    by (inr (z, is)) = inr (z, (cc))

last-empty : (y b : List ℕ) → y ++ b ≡ [] → b ≡ []
last-empty [] b e = e
last-empty (x ∷ y) b e = absurd cc

pub no-item : (c r : List ℕ) (levels : List Level) → incomplete levels ≡ levels →
    ¬ (levels ≡ []) → AreLeftBehind c levels → Misfits levels r → BeginNoItem (c ++ r)
no-item c r levels normal some o misfit t s z e found =
    by (overlap c (r ++ t) s z (sym (append_assoc c r t) ∙ e))
  where
    by : ((x : List ℕ) × (s ≡ c ++ x) × (r ++ t ≡ x ++ z)) ⊎ ((y : List ℕ) × (c ≡ s ++ y)) → ⊥
    by (inl (x, is, rest)) = misfit-never levels r normal some misfit t x z rest (o.only x (subst AreItem is found))
    by (inr (y, is)) =
        let (b, ends) = can-end levels in
        let whole : c ++ b ≡ s ++ (y ++ b) =
        ap (λ (d : List ℕ). d ++ b) is ∙ append_assoc s y b in
        let longer = subst AreItem whole (o.complete b ends) in
        let none = none_begins_another s (y ++ b) found.0 longer.0 found.1 longer.1 in
        let empty = last-empty y b none in
        misfit-never levels r normal some misfit t [] (r ++ t) refl
        (subst (EndAll levels) empty ends)
