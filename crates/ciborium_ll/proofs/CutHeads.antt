-- Bytes that end inside a head or a payload can be completed, where what they begin may stand.
use Rattle.std.proofs.Common.{◌≡◌, ℕ, zero, suc, ◌+◌, ◌-◌, ◌*◌, ◌/◌, ◌%◌, ◌<◌, ◌≤◌, List, [], ◌∷◌, ◌++◌, length, get_or}
use Rattle.std.proofs.Common.{Some, option_map, refl, sym, ap, ◌∙◌, subst, arith, inl, inr, ◌^◌, ◌⊎◌}
use Rattle.std.proofs.{Common.{append_assoc, length-append, div-add-mod'}, lemmas.Bool.Decides.nat_tests}
use Rattle.std.proofs.{lemmas.List.Elements.All-append, lemmas.Nat.{be_bytes_2, be_bytes_4, be_bytes_8}, str.Laws.order}
use Rattle.std.specs.Int.{from_be_bytes, w16, w32, w64}
use Rattle.ciborium_ll.proofs.{Advancing.single, BegunTexts.{zeros, length-zeros, bytes-zeros, text-zeros}}
use Rattle.ciborium_ll.proofs.{HeadAnswers.head-some, LevelEnds.can-end, LevelFronts.{AreUnfinished, are-unfinished}}
use Rattle.ciborium_ll.proofs.{LevelFronts.{front-of-end, ends-behind}, UsableHeads.{EachIsByte, byte_at}}
use Rattle.ciborium_ll.specs.{Bytes.AreBytes, Head.{IsHead, one_byte, two_bytes, four_bytes, eight_bytes, break_byte}}
use Rattle.ciborium_ll.specs.{Header.SpellsHeader, ItemLengths.chunk_major, Levels.{EndAll, behind_item, behind_bytes}}
use Rattle.ciborium_ll.specs.{Levels.{behind_text, behind_head, IsPayloadOf, incomplete}, Refusal.argument_length}
use Rattle.ciborium_ll.specs.declared.{header.Header.Header, levels.Level.{Level, TheVariants.{Items, OpenItems}}}
use Rattle.ciborium_ll.specs.declared.levels.Level.TheVariants.{OpenKeys, OpenValues, ByteChunks, TextChunks}
use Rattle.ciborium_ll.specs.inner.Fronts.{IsCut, IsCutPayload}
use Rattle.ciborium_ll.specs.declared.header.Header.TheVariants as header

-- ---- a head with its argument filled

-- the header is of this major type, and neither open nor a break
abbrev IsMajorOf : ℕ → Header → Type 0
IsMajorOf m (header.Positive n) = m ≡ 0
IsMajorOf m (header.Negative n) = m ≡ 1
IsMajorOf m (header.Bytes (Some n)) = m ≡ 2
IsMajorOf m (header.Text (Some n)) = m ≡ 3
IsMajorOf m (header.Array (Some n)) = m ≡ 4
IsMajorOf m (header.Map (Some n)) = m ≡ 5
IsMajorOf m (header.Tag n) = m ≡ 6
IsMajorOf m (header.Simple n) = m ≡ 7
IsMajorOf m (header.Float size) = m ≡ 7
IsMajorOf m _ = ⊥

pub each-byte : (b : List ℕ) → AreBytes b → EachIsByte b
each-byte [] h = tt
each-byte (x ∷ b) h = (h 0 0 (omega arith), each-byte b (λ k d lt. h (suc k) d (omega arith)))

-- additional information that bytes follow
IsLong : ℕ → Type 0
IsLong a = (a ≡ 24) ⊎ ((a ≡ 25) ⊎ ((a ≡ 26) ⊎ (a ≡ 27)))

none-below : (a : ℕ) → a < 24 → argument_length a ≡ 0
none-below a h = grind (arith, nat_tests)

none-above : (a : ℕ) → 28 ≤ a → argument_length a ≡ 0
none-above a h = grind (arith, nat_tests)

long-information : (a : ℕ) → 0 < argument_length a → IsLong a
unfolding IsLong
long-information a h = by (order a 24) (order a 25) (order a 26) (order a 27) (order a 28)
  where
    by : (a < 24) ⊎ (24 ≤ a) → (a < 25) ⊎ (25 ≤ a) → (a < 26) ⊎ (26 ≤ a) → (a < 27) ⊎ (27 ≤ a) →
        (a < 28) ⊎ (28 ≤ a) → (a ≡ 24) ⊎ ((a ≡ 25) ⊎ ((a ≡ 26) ⊎ (a ≡ 27)))
    by (inl p) q r s t = let z = none-below a p in absurd (omega arith)
    by (inr p) (inl q) r s t = inl (omega arith)
    by (inr p) (inr q) (inl r) s t = inr (inl (omega arith))
    by (inr p) (inr q) (inr r) (inl s) t = inr (inr (inl (omega arith)))
    by (inr p) (inr q) (inr r) (inr s) (inl t) = inr (inr (inr (omega arith)))
    by (inr p) (inr q) (inr r) (inr s) (inr t) = let z = none-above a t in absurd (omega arith)

same-head : (m a k : ℕ) (b c : List ℕ) → a ≡ k → b ≡ c → (m * 32 + a) ∷ b ≡ (m * 32 + k) ∷ c
same-head m a k b c e f = ap (λ j. (m * 32 + j) ∷ b) e ∙ ap (λ (l : List ℕ). (m * 32 + k) ∷ l) f

-- a whole argument stands there
whole-head : (m a : ℕ) (b : List ℕ) → EachIsByte b → length b ≡ argument_length a → IsLong a →
    (n : ℕ) × IsHead ((m * 32 + a) ∷ b) m n
unfolding IsLong
whole-head m a b h len (inl e) =
    let one : length b ≡ 1 = len ∙ ap argument_length e in
    (get_or b 0 0, (one_byte, byte_at b h 0, same-head m a 24 b _ e (single b one)))
whole-head m a b h len (inr (inl e)) =
    let g = byte_at b h in
    let n : ℕ = from_be_bytes w16 b in
    let same = sym (be_bytes_2 b n (len ∙ ap argument_length e) g refl) in
    (n, (two_bytes, omega (arith, g 0, g 1), same-head m a 25 b _ e same))
whole-head m a b h len (inr (inr (inl e))) =
    let g = byte_at b h in
    let n : ℕ = from_be_bytes w32 b in
    let same = sym (be_bytes_4 b n (len ∙ ap argument_length e) g refl) in
    (n, (four_bytes, omega (arith, g 0, g 1, g 2, g 3), same-head m a 26 b _ e same))
whole-head m a b h len (inr (inr (inr e))) =
    let g = byte_at b h in
    let n : ℕ = from_be_bytes w64 b in
    let same = sym (be_bytes_8 b n (len ∙ ap argument_length e) g refl) in
    let fits : n < 2 ^ 64 = omega (arith, g 0, g 1, g 2, g 3, g 4, g 5, g 6, g 7) in
    (n, (eight_bytes, fits, same-head m a 27 b _ e same))

numbered : (m n : ℕ) (h : List ℕ) → m < 7 → IsHead h m n → (head : Header) × SpellsHeader h head × IsMajorOf m head
numbered zero n h lt s = (header.Positive n, s, refl)
numbered (suc zero) n h lt s = (header.Negative n, s, refl)
numbered (suc (suc zero)) n h lt s = (header.Bytes (Some n), s, refl)
numbered (suc (suc (suc zero))) n h lt s = (header.Text (Some n), s, refl)
numbered (suc (suc (suc (suc zero)))) n h lt s = (header.Array (Some n), s, refl)
numbered (suc (suc (suc (suc (suc zero))))) n h lt s = (header.Map (Some n), s, refl)
numbered (suc (suc (suc (suc (suc (suc zero)))))) n h lt s = (header.Tag n, s, refl)
numbered (suc (suc (suc (suc (suc (suc (suc m))))))) n h lt s = absurd (omega arith)

-- bytes behind which a head is whole, which is no break and opens no open item
abbrev Fills : ℕ → List ℕ → Type 0
Fills x s = (f : List ℕ) × (head : Header) × (0 < length f) × SpellsHeader (x ∷ (s ++ f)) head × IsMajorOf (x / 32) head

module _ (x : ℕ) (s : List ℕ) (byte : x < 256) (bytes : AreBytes s)
    (cut : length s < argument_length (x % 32)) where
  gap : ℕ
  gap = argument_length (x % 32) - length s

  filled : length (s ++ zeros gap) ≡ argument_length (x % 32)
  unfolding gap
  filled = length-append s (zeros gap) ∙ omega (arith, length-zeros gap)

  some-zeros : 0 < length (zeros gap)
  unfolding gap
  some-zeros = omega (arith, length-zeros gap)

  each : EachIsByte (s ++ zeros gap)
  each = each-byte (s ++ zeros gap) (All-append (λ y. y < 256) s (zeros gap) bytes (bytes-zeros gap))

  number-fills : x / 32 < 7 → Fills x s
  number-fills lt =
      let e : x / 32 * 32 + x % 32 ≡ x = div-add-mod' x 32 in
      let long = long-information (x % 32) (omega arith) in
      let k = whole-head (x / 32) (x % 32) (s ++ zeros gap) each filled long in
      let n = numbered (x / 32) k.0 (x ∷ (s ++ zeros gap)) lt
      (subst (λ y. IsHead (y ∷ (s ++ zeros gap)) (x / 32) k.0) e k.1) in
      (zeros gap, n.0, some-zeros, n.1, n.2)

  float-fills : x / 32 ≡ 7 → IsLong (x % 32) → Fills x s
  unfolding IsLong
  float-fills m (inl e) =
      let one : argument_length (x % 32) ≡ 1 = ap argument_length e in
      let first : x ≡ 248 = omega arith in
      simple s (omega arith) first
    where
      simple : (c : List ℕ) → length c ≡ 0 → x ≡ 248 → Fills x c
      simple [] h e = (
        32 ∷ [],
        header.Simple 32,
        omega arith,
        inr (omega arith, omega arith, ap (λ y. y ∷ 32 ∷ []) e),
        m,
      )
      simple (y ∷ c) h e = absurd (omega arith)
  float-fills m (inr (inl e)) =
      let two : argument_length (x % 32) ≡ 2 = ap argument_length e in
      let first : x ≡ 249 = omega arith in (
        zeros gap,
        header.Float 2,
        some-zeros,
        (
          s ++ zeros gap,
          inl (filled ∙ two, ap (λ y. y ∷ (s ++ zeros gap)) first),
          filled ∙ two,
        ),
        m,
      )
  float-fills m (inr (inr (inl e))) =
      let four : argument_length (x % 32) ≡ 4 = ap argument_length e in
      let first : x ≡ 250 = omega arith in (
        zeros gap,
        header.Float 4,
        some-zeros,
        (
          s ++ zeros gap,
          inr (inl (
            filled ∙ four,
            ap (λ y. y ∷ (s ++ zeros gap)) first,
          )),
          filled ∙ four,
        ),
        m,
      )
  float-fills m (inr (inr (inr e))) =
      let eight : argument_length (x % 32) ≡ 8 = ap argument_length e in
      let first : x ≡ 251 = omega arith in (
        zeros gap,
        header.Float 8,
        some-zeros,
        (
          s ++ zeros gap,
          inr (inr (
            filled ∙ eight,
            ap (λ y. y ∷ (s ++ zeros gap)) first,
          )),
          filled ∙ eight,
        ),
        m,
      )

  fills : Fills x s
  fills = by (order (x / 32) 7)
    where
      by : (x / 32 < 7) ⊎ (7 ≤ x / 32) → Fills x s
      by (inl lt) = number-fills lt
      by (inr le) = float-fills (omega arith) (long-information (x % 32) (omega arith))

-- ---- a payload completed

payload-of : (head : Header) → (p : List ℕ) × IsPayloadOf head p
payload-of (header.Bytes (Some n)) = (zeros n, (length-zeros n, bytes-zeros n))
payload-of (header.Text (Some n)) = (zeros n, (length-zeros n, text-zeros n))
payload-of u = ([], refl)

payload-ends : (head : Header) (q : List ℕ) → IsCutPayload head q →
    (t : List ℕ) × (0 < length t) × IsPayloadOf head (q ++ t)
payload-ends (header.Bytes (Some n)) q h =
    let z : List ℕ = zeros (n - length q) in
    let len = length-zeros (n - length q) in
    let lt = h.0 in (
      z,
      omega arith,
      (
        omega (arith, length-append q z),
        All-append (λ x. x < 256) q z h.1 (bytes-zeros (n - length q)),
      ),
    )
payload-ends (header.Text (Some n)) q (lt, (t, len, u)) = (t, omega (arith, length-append q t), (len, u))
payload-ends _ q h = absurd h

-- ---- a head that may stand where something is unfinished

-- the head may stand there
abbrev Stands : Header → List Level → Type 0
Stands head levels = (more : List Level) × (behind_head head levels ≡ Some more)

-- where an item may stand
as-item : (m : ℕ) (head : Header) (levels more : List Level) → IsMajorOf m head → behind_item levels ≡ Some more →
    behind_bytes levels ≡ Some more → behind_text levels ≡ Some more → Stands head levels
as-item m (header.Positive n) levels more is e b t = (more, e)
as-item m (header.Negative n) levels more is e b t = (more, e)
as-item m (header.Bytes (Some n)) levels more is e b t = (more, b)
as-item m (header.Text (Some n)) levels more is e b t = (more, t)
as-item m (header.Array (Some n)) levels more is e b t = (Items n ∷ more, ap (option_map (λ rest. Items n ∷ rest)) e)
as-item m (header.Map (Some n)) levels more is e b t =
    (Items (n + n) ∷ more, ap (option_map (λ rest. Items (n + n) ∷ rest)) e)
as-item m (header.Tag n) levels more is e b t = (Items 1 ∷ more, ap (option_map (λ rest. Items 1 ∷ rest)) e)
as-item m (header.Simple n) levels more is e b t = (more, e)
as-item m (header.Float size) levels more is e b t = (more, e)
as-item m _ levels more is e b t = absurd is

as-bytes : (m : ℕ) (head : Header) (levels : List Level) → m ≡ 2 → IsMajorOf m head → Stands head (ByteChunks ∷ levels)
as-bytes m (header.Bytes (Some n)) levels e is = (ByteChunks ∷ levels, refl)
as-bytes m (header.Text (Some n)) levels e is = absurd (omega (arith, e, is))
as-bytes m (header.Array (Some n)) levels e is = absurd (omega (arith, e, is))
as-bytes m (header.Map (Some n)) levels e is = absurd (omega (arith, e, is))
as-bytes m head levels e is = absurd (omega (arith, e, is))

as-text : (m : ℕ) (head : Header) (levels : List Level) → m ≡ 3 → IsMajorOf m head → Stands head (TextChunks ∷ levels)
as-text m (header.Text (Some n)) levels e is = (TextChunks ∷ levels, refl)
as-text m (header.Bytes (Some n)) levels e is = absurd (omega (arith, e, is))
as-text m (header.Array (Some n)) levels e is = absurd (omega (arith, e, is))
as-text m (header.Map (Some n)) levels e is = absurd (omega (arith, e, is))
as-text m head levels e is = absurd (omega (arith, e, is))

stands : (m : ℕ) (head : Header) (levels : List Level) → AreUnfinished levels → IsMajorOf m head →
    ((major : ℕ) → chunk_major levels ≡ Some major → m ≡ major) → Stands head levels
stands m head (Items (suc n) ∷ levels) still is part =
    as-item m head (Items (suc n) ∷ levels) (Items n ∷ levels) is refl refl refl
stands m head (OpenItems ∷ levels) still is part =
    as-item m head (OpenItems ∷ levels) (OpenItems ∷ levels) is refl refl refl
stands m head (OpenKeys ∷ levels) still is part =
    as-item m head (OpenKeys ∷ levels) (OpenValues ∷ levels) is refl refl refl
stands m head (OpenValues ∷ levels) still is part =
    as-item m head (OpenValues ∷ levels) (OpenKeys ∷ levels) is refl refl refl
stands m head (ByteChunks ∷ levels) still is part = as-bytes m head levels (part 2 refl) is
stands m head (TextChunks ∷ levels) still is part = as-text m head levels (part 3 refl) is
stands m head u still is part = absurd still

-- ---- what ends a level that is not complete

-- it is not nothing
end-some : (levels : List Level) (b : List ℕ) → AreUnfinished levels → EndAll levels b → 0 < length b
end-some levels b still ends =
    let f = front-of-end levels b still ends in
    omega (
      arith,
      head-some f.head f.header f.spelled,
      ap length f.whole,
      length-append f.head (f.payload ++ f.rest),
    )

-- ---- where the bytes end

-- a head of several bytes is no break
pub long-no-break : (x : ℕ) → 0 < argument_length (x % 32) → x ≡ break_byte → ⊥
long-no-break x h e =
    let none : argument_length (x % 32) ≡ 0 = ap (λ y. argument_length (y % 32)) e in omega arith

-- ---- what is cut can be completed

-- a definite string of which the payload is cut
pub cut-string : (head : Header) (h q : List ℕ) (levels more : List Level) → SpellsHeader h head →
    behind_head head levels ≡ Some more → IsCutPayload head q →
    (t : List ℕ) × (0 < length t) × EndAll levels ((h ++ q) ++ t)
cut-string head h q levels more spelled placed part =
    let p = payload-ends head q part in
    let e = can-end more in
    let same : h ++ ((q ++ p.0) ++ e.0) ≡ (h ++ q) ++ (p.0 ++ e.0) =
    ap (λ (l : List ℕ). h ++ l) (append_assoc q p.0 e.0) ∙
    sym (append_assoc h q (p.0 ++ e.0)) in (
      p.0 ++ e.0,
      omega (arith, p.1, length-append p.0 e.0),
      subst (EndAll levels) same
          (ends-behind head h (q ++ p.0) levels more e.0 spelled p.2 placed e.1),
    )

-- a head that was filled, with a payload and what ends the rest
behind-filled : (x : ℕ) (s f payload b : List ℕ) (head : Header) (levels more : List Level) →
    0 < length f → SpellsHeader (x ∷ (s ++ f)) head → IsPayloadOf head payload →
    behind_head head levels ≡ Some more → EndAll more b → (t : List ℕ) × (0 < length t) × EndAll levels (x ∷ (s ++ t))
behind-filled x s f payload b head levels more some spelled whole placed ends = (
  f ++ (payload ++ b),
  omega (arith, some, length-append f (payload ++ b)),
  subst (λ (l : List ℕ). EndAll levels (x ∷ l)) (append_assoc s f (payload ++ b))
      (ends-behind head (x ∷ (s ++ f)) payload levels more b spelled whole placed ends),
)

-- a head that is cut, or not there at all
pub cut-head : (levels : List Level) (r : List ℕ) → (levels ≡ [] → ⊥) → incomplete levels ≡ levels →
    IsCut r → AreBytes r → ((x major : ℕ) (s : List ℕ) → r ≡ x ∷ s → chunk_major levels ≡ Some major → x / 32 ≡ major) →
    (t : List ℕ) × (0 < length t) × EndAll levels (r ++ t)
cut-head levels r some normal ends bytes part = by r ends bytes part
  where
    still : AreUnfinished levels
    still = are-unfinished levels normal some

    by : (c : List ℕ) → IsCut c →
        AreBytes c → ((x major : ℕ) (s : List ℕ) → c ≡ x ∷ s → chunk_major levels ≡ Some major → x / 32 ≡ major) →
        (t : List ℕ) × (0 < length t) × EndAll levels (c ++ t)
    by [] h bytes part = let e = can-end levels in (e.0, end-some levels e.0 still e.1, e.1)
    by (y ∷ c) (inl none) bytes part = absurd cc
    by (y ∷ c) (inr (x, s, is, fair, cut)) bytes part =
        let rest : c ≡ s = cc is in
        let first : y ≡ x = cc is in
        let short : length c < argument_length (y % 32) =
        subst (λ (l : List ℕ). length l < argument_length (y % 32)) (sym rest)
        (subst (λ k. length s < argument_length (k % 32)) (sym first) cut) in
        let after : AreBytes c = λ k d lt. bytes (suc k) d (omega arith) in
        let f = fills y c (bytes 0 0 (omega arith)) after short in
        let place = stands (y / 32) f.1 levels still f.4 (λ major e. part y major c refl e) in
        let p = payload-of f.1 in
        let e = can-end place.0 in
        behind-filled y c f.0 p.0 e.0 f.1 levels place.0 f.2 f.3 p.1 place.1 e.1
