-- The parts of an open string, one behind the other.
use Rattle.std.proofs.Common.{◌≡◌, ℕ, ◌+◌, ◌<◌, ◌≤◌, List, [], ◌∷◌, ◌++◌, length, Option, Ok, Err, refl, sym, ap, ◌∙◌}
use Rattle.std.proofs.Common.{subst, arith, append_assoc, append-nil, length-append, inl, inr}
use Rattle.std.proofs.KnownBytes.{Consumes-nil}
use Rattle.ciborium_ll.proofs.{Advancing.Advances-then, HeadAnswers.header-fits, UsableHeads.usable-fits}
use Rattle.ciborium_ll.specs.{Bytes.greatest_offset, Head.{IsHead, break_byte}, Header.{SpellsHeader, announced_length}}
use Rattle.ciborium_ll.specs.{ReaderSteps.{Advances, IsHeadTaken}, Spells.{IsDefiniteString, AreChunks, joined}}
use Rattle.ciborium_ll.specs.{StringRefusal.{string_major, IsAllowed}, Strings.{string_header, IsChunk, IsPayloadTaken}}
use Rattle.ciborium_ll.specs.{Strings.{IsChunkTaken, AreChunksTaken}, declared.header.Error.{Error, TheVariants.Syntax}}
use Rattle.ciborium_ll.specs.declared.header.{Error.TheVariants.TooLong, Header.Header}
use Rattle.ciborium_ll.specs.declared.strings.{Chunk.TheVariants.Other, StringType.StringType}
use Rattle.ciborium_ll.specs.declared.header.Header.TheVariants as header

-- ---- one part more at the end

pub AreParts-more : (m : ℕ) (A : List ℕ → Type 0) (ps : List (List ℕ)) (s t p : List ℕ) → AreChunks m A s ps →
    IsDefiniteString m A t p → AreChunks m A (s ++ t) (ps ++ p ∷ [])
AreParts-more m A [] s t p e d = (t, [], d, refl, ap (λ (c : List ℕ). c ++ t) e ∙ sym (append-nil t))
AreParts-more m A (q ∷ ps) s t p (u, v, str, rest, e) d =
    (u, v ++ t, str, AreParts-more m A ps v t p rest d, ap (λ (c : List ℕ). c ++ t) e ∙ append_assoc u v t)

pub joined-more : (ps : List (List ℕ)) (p : List ℕ) → joined (ps ++ p ∷ []) ≡ joined ps ++ p
joined-more [] p = append-nil p
joined-more (q ∷ ps) p = ap (λ (c : List ℕ). q ++ c) (joined-more ps p) ∙ sym (append_assoc q (joined ps) p)

-- ---- the loop

-- good parts were taken between the offsets p and q, and their payloads appended
abbrev pub GoodParts : StringType → Option (List ℕ) → Option (List ℕ) → ℕ → ℕ → List ℕ → List ℕ → Type 0
GoodParts type a b p q old new = (payloads : List (List ℕ)) × (s : List ℕ) × AreChunks (string_major type)
    (IsAllowed type) s payloads × (new ≡ old ++ joined payloads) × Advances a b p q (λ x. x ≡ s) × (q ≤ greatest_offset)

string-head : (type : StringType) (h : List ℕ) (n : ℕ) → SpellsHeader h (string_header type n) →
    IsHead h (string_major type) n
string-head StringType.Bytes h n s = s
string-head StringType.Text h n s = s

-- a payload of n bytes was taken and appended
abbrev pub WholePayload : StringType → ℕ → List ℕ → List ℕ → Type 0
WholePayload type n b added = (length b ≡ n) × IsAllowed type b × (added ≡ b)

-- all parts were taken and appended, from offset p on
abbrev pub WholeParts : StringType → List ℕ → ℕ → List ℕ → Type 0
WholeParts type b p added =
    (payloads : List (List ℕ)) × (s : List ℕ) × AreChunks (string_major type) (IsAllowed type) s payloads ×
    (p + length b ≤ greatest_offset) × (b ≡ s ++ break_byte ∷ []) × (added ≡ joined payloads)

-- a part was taken
pub parts-more : {E : Type 0} (type : StringType) (a b c d : Option (List ℕ)) (p q r t n : ℕ) (old mid new : List ℕ)
    (h : Header) → h ≡ string_header type n →
    GoodParts type a b p q old mid → Advances b c q r (λ x. IsHeadTaken {E = E} x q (Ok h)) →
    Advances c d r t (λ x. (added : List ℕ) × (new ≡ mid ++ added) × WholePayload type n x added) →
    t ≤ greatest_offset → GoodParts type a d p t old new
parts-more {E} type a b c d p q r t n old mid new h is (ps, s, parts, was, taken, below) head payload fits =
    let body : List ℕ = payload.0 in
    let added : List ℕ = payload.3.0 in
    let same : added ≡ body = payload.3.2.2 in
    let spelled : IsHead head.0 (string_major type) (length body) =
    subst (IsHead head.0 (string_major type)) (sym payload.3.2.0)
    (string-head type head.0 n (subst (SpellsHeader head.0) is head.3.answers.0)) in
    let whole : Advances b d q t (λ x. x ≡ head.0 ++ body) =
    Advances-then b c d q r t (λ x. x ≡ head.0) (λ x. x ≡ body) (λ x. x ≡ head.0 ++ body)
    (λ x y e f. ap (λ (l : List ℕ). l ++ y) e ∙ ap (λ (l : List ℕ). head.0 ++ l) f)
    (head.0, head.1, head.2, refl, head.4) (body, payload.1, payload.2, refl, payload.4) in (
      ps ++ body ∷ [],
      s ++ (head.0 ++ body),
      AreParts-more (string_major type) (IsAllowed type) ps s (head.0 ++ body) body parts
          (head.0, spelled, payload.3.2.1, refl),
      payload.3.1 ∙ ap (λ (l : List ℕ). l ++ added) was ∙ append_assoc old (joined ps) added ∙
          ap (λ (l : List ℕ). old ++ (joined ps ++ l)) same ∙ ap (λ (l : List ℕ). old ++ l) (sym (joined-more ps body)),
      Advances-then a b d p q t (λ x. x ≡ s) (λ x. x ≡ head.0 ++ body) (λ x. x ≡ s ++ (head.0 ++ body))
          (λ x y e f. ap (λ (l : List ℕ). l ++ y) e ∙ ap (λ (l : List ℕ). s ++ l) f) taken whole,
      fits,
    )

-- the break
pub parts-end : {E : Type 0} (type : StringType) (a b c : Option (List ℕ)) (p q r : ℕ) (old mid : List ℕ) (h : Header) →
    h ≡ header.Break → GoodParts type a b p q old mid → Advances b c q r (λ x. IsHeadTaken {E = E} x q (Ok h)) →
    Advances a c p r (λ x. (added : List ℕ) × (mid ≡ old ++ added) × WholeParts type x p added)
parts-end {E} type a b c p q r old mid h is (ps, s, parts, was, taken, below) head =
    let broken : head.0 ≡ break_byte ∷ [] = subst (SpellsHeader head.0) is head.3.answers.0 in
    let fits : q < greatest_offset = (usable-fits 255 [] q
    (subst (λ l. Rattle.ciborium_ll.specs.Refusal.IsUsable l q) broken head.3.answers.1)).0 in
    let at : q ≡ p + length s = taken.2 ∙ ap (λ (l : List ℕ). p + length l) taken.3 in
    let end : length (s ++ break_byte ∷ []) ≡ length s + 1 = length-append s (break_byte ∷ []) in
    Advances-then a b c p q r (λ x. x ≡ s) (λ x. x ≡ break_byte ∷ [])
    (λ x. (added : List ℕ) × (mid ≡ old ++ added) × WholeParts type x p added)
    (λ x y e f. let same : x ++ y ≡ s ++ break_byte ∷ [] = ap (λ (l : List ℕ). l ++ y) e ∙
    ap (λ (l : List ℕ). s ++ l) f in
    let len : length (x ++ y) ≡ length (s ++ break_byte ∷ []) = ap length same in
    (joined ps, was, (ps, s, parts, omega (arith, at, fits, end, len), same, refl)))
    taken (head.0, head.1, head.2, broken, head.4)

-- a refusal behind some parts
pub parts-refused : {E : Type 0} (type : StringType) (a b c : Option (List ℕ)) (p q r : ℕ) (old mid new : List ℕ)
    (e : Error E) → GoodParts type a b p q old mid → new ≡ mid →
    Advances b c q r (λ x. IsChunkTaken {E = E} type x q e) →
    Advances a c p r (λ x. (added : List ℕ) × (new ≡ old ++ added) × AreChunksTaken {E = E} type x p (Err e) added)
parts-refused {E} type a b c p q r old mid new e (ps, s, parts, was, taken, below) same part =
    let at : q ≡ p + length s = taken.2 ∙ ap (λ (l : List ℕ). p + length l) taken.3 in
    Advances-then a b c p q r (λ x. x ≡ s) (λ x. IsChunkTaken {E = E} type x q e)
    (λ x. (added : List ℕ) × (new ≡ old ++ added) × AreChunksTaken {E = E} type x p (Err e) added)
    (λ x y f g. (
      joined ps,
      same ∙ was,
      (
        ps,
        s,
        parts,
        omega (arith, at, below),
        (
          y,
          ap (λ (l : List ℕ). l ++ y) f,
          subst (λ k. IsChunkTaken {E = E} type y k e) at g,
        ),
        refl,
      ),
    ))
    taken part

-- a refused payload appended nothing
pub nothing-appended : {E : Type 0} (type : StringType) (n p : ℕ) (e : Error E) (added b : List ℕ) →
    IsPayloadTaken {E = E} type n p b (Err e) added → (added ≡ []) × IsPayloadTaken {E = E} type n p b (Err e) []
nothing-appended type n p (Syntax at) added b h = (h.3, (h.0, h.1, h.2, refl))
nothing-appended type n p TooLong added b h = absurd h
nothing-appended type n p u added b h = (h.1, (h.0, refl))

-- the payload of a part was refused
pub payload-refused : {E : Type 0} (type : StringType) (b c d : Option (List ℕ)) (k q r t n : ℕ) (mid new : List ℕ)
    (h : Header) (e : Error E) →
    k ≡ q → h ≡ string_header type n → Advances b c q r (λ x. IsHeadTaken {E = E} x q (Ok h)) →
    Advances c d r t (λ x. (added : List ℕ) × (new ≡ mid ++ added) × IsPayloadTaken {E = E} type n k x (Err e) added) →
    (new ≡ mid) × Advances b d q t (λ x. IsChunkTaken {E = E} type x q e)
payload-refused {E} type b c d k q r t n mid new h e here is head payload =
    let none = nothing-appended {E = E} type n q e payload.3.0 payload.0
    (subst (λ j. IsPayloadTaken {E = E} type n j payload.0 (Err e) payload.3.0) here payload.3.2) in (
      payload.3.1 ∙ ap (λ (l : List ℕ). mid ++ l) none.0 ∙ append-nil mid,
      Advances-then b c d q r t (λ x. IsHeadTaken {E = E} x q (Ok h))
          (λ x. IsPayloadTaken {E = E} type n q x (Err e) []) (λ x. IsChunkTaken {E = E} type x q e)
          (λ x y f g. inr (inr (n, x, y, refl, subst (λ k. IsHeadTaken {E = E} x q (Ok k)) is f, g)))
          head (payload.0, payload.1, payload.2, none.1, payload.4),
    )

-- before the first part
pub parts-none : (type : StringType) (a : Option (List ℕ)) (p : ℕ) (old : List ℕ) → p ≤ greatest_offset →
    GoodParts type a a p p old old
parts-none type a p old fits = (
  [],
  [],
  refl,
  sym (append-nil old),
  ([], Consumes-nil a, omega arith, refl, λ k d h. absurd (omega (arith, h))),
  fits,
)

-- a head that is no part's
pub other-refused : {E : Type 0} (type : StringType) (b c : Option (List ℕ)) (k q r : ℕ) (h : Header) → k ≡ q →
    IsChunk type h Other → Advances b c q r (λ x. IsHeadTaken {E = E} x q (Ok h)) →
    Advances b c q r (λ x. IsChunkTaken {E = E} type x q (Syntax k))
other-refused {E} type b c k q r h here other head = (
  head.0,
  head.1,
  head.2,
  inr (inl (h, head.3, other, ap Syntax here)),
  head.4,
)

-- a head that was refused
pub part-head-refused : {E : Type 0} (type : StringType) (b c : Option (List ℕ)) (q r : ℕ) (e : Error E) →
    Advances b c q r (λ x. IsHeadTaken {E = E} x q (Err e)) → Advances b c q r (λ x. IsChunkTaken {E = E} type x q e)
part-head-refused {E} type b c q r e head = (head.0, head.1, head.2, inl head.3, head.4)

-- the payload of a part fits behind its head
pub payload-fits : {E : Type 0} (type : StringType) (b c : Option (List ℕ)) (q r n : ℕ) (h : Header) →
    h ≡ string_header type n → Advances b c q r (λ x. IsHeadTaken {E = E} x q (Ok h)) → r + n ≤ greatest_offset
payload-fits {E} type b c q r n h is head =
    let fits = header-fits {E = E} head.0 q (string_header type n)
    (subst (λ k. IsHeadTaken {E = E} head.0 q (Ok k)) is head.3) in omega (arith, fits, announced type, head.2)
  where
    announced : (k : StringType) → announced_length (string_header k n) ≡ n
    announced StringType.Bytes = refl
    announced StringType.Text = refl
