-- Numbers that are read byte by byte.
use Rattle.std.proofs.Common.{◌≡◌, ◌≢◌, ℕ, zero, suc, ◌+◌, ◌*◌, ◌-◌, ◌^◌, ◌<◌, ◌≤◌, ltb, Bool, true, false, List, []}
use Rattle.std.proofs.Common.{◌∷◌, ◌++◌, length, Option, Some, None, Ok, Err, refl, sym, ap, ◌∙◌, append_assoc}
use Rattle.std.proofs.{Common.{length-append, arith, lit<, add-one, lt-ltb, le-ltb, ne_eqb}, Math.Nat.pow-le-pow_right}
use Rattle.std.proofs.{Math.Nat.pow-suc, lemmas.{Bool.Decides.nat_tests, List.Elements.{All-append, All-head}}}
use Rattle.std.proofs.lemmas.List.Elements.{All-tail}
use Rattle.ciborium_ll.{proofs.Unread.rest-of, specs.{Accesses.{HasEnded, left_at_failure}, Bytes.AreBytes}}
use Rattle.ciborium_ll.specs.{Decoding.{Takes, left_of}, ReaderSteps.IsFillTaken}
use Rattle.ciborium_ll.specs.declared.{decoder.Decoder.Decoder, header.Error.Error as LlError}
use Rattle.ciborium_value.{proofs.FoldedTrees.BigEndian.bound-more, specs.{Given.magnitude, Meaning.big_endian_behind}}
use Rattle.ciborium_value.specs.{Meaning.{big_endian, without_zeros}, Sources.IsOutsideFault}
use Rattle.ciborium.{proofs.Items.FrontReads.{failed-end, io-outside}, specs.Errors.{fault_of, from_ll}}
use Rattle.ciborium.specs.inner.{ByteSources.{known_end, reader_of}, StringContents.{one_digit_more, digits_of}}
use Rattle.ciborium_ll.specs.declared.header.Error.TheVariants as ll
use Rattle.ciborium_ll.specs.declared.kind.Kind.TheVariants as kinds

pub digits-append : (o : Option ℕ) (c d : List ℕ) → digits_of o (c ++ d) ≡ digits_of (digits_of o c) d
digits-append o [] d = refl
digits-append o (x ∷ c) d = digits-append (one_digit_more o x) c d

none-more : (bs : List ℕ) → digits_of None bs ≡ None
none-more [] = refl
none-more (b ∷ bs) = none-more bs

-- ---- what the digits make

bound-least : (n b i : ℕ) → 256 ^ i ≤ n → 256 ^ (i + 1) ≤ n * 256 + b
bound-least n b i h =
    let e : 256 ^ (i + 1) ≡ 256 ^ i * 256 = ap (λ k. 256 ^ k) (add-one i) ∙ pow-suc 256 i in
    omega arith

room-more : (n b : ℕ) → n < 2 ^ 120 → one_digit_more (Some n) b ≡ Some (n * 256 + b)
room-more n b h = let e = lt-ltb n (2 ^ 120) h in rw e refl

room-none : (n b : ℕ) → 2 ^ 120 ≤ n → one_digit_more (Some n) b ≡ None
room-none n b h = let e = le-ltb n (2 ^ 120) h in rw e refl

abbrev AreMade : ℕ → ℕ → List ℕ → Type 0
AreMade k n bs = ((k + 1 + length bs ≤ 16) → digits_of (Some n) bs ≡ Some (big_endian_behind n bs)) ×
    ((16 < k + 1 + length bs) → digits_of (Some n) bs ≡ None)

step : (k n b : ℕ) (bs : List ℕ) → b < 256 → 256 ^ k ≤ n → n < 256 ^ (k + 1) → k < 16 →
    ((256 ^ (k + 1) ≤ n * 256 + b) → (n * 256 + b < 256 ^ (k + 1 + 1)) → k + 1 < 16 → AreMade (k + 1) (n * 256 + b) bs)
    → AreMade k n (b ∷ bs)
unfolding big_endian_behind
step k n b bs small low high lt rec = by (ltb k 15) refl
  where
    by : (t : Bool) → ltb k 15 ≡ t → ((k + 1 + suc (length bs) ≤ 16) →
        digits_of (one_digit_more (Some n) b) bs ≡ Some (big_endian_behind (256 * n + b) bs)) ×
        ((16 < k + 1 + suc (length bs)) → digits_of (one_digit_more (Some n) b) bs ≡ None)
    by true e =
        let below : k < 15 = grind (arith, nat_tests) in
        let top : 256 ^ (k + 1) ≤ 256 ^ 15 = pow-le-pow_right {n = 256} (lit< tt) {i = k + 1} {j = 15}
        (omega (arith, below)) in
        let same : 256 ^ 15 ≡ 2 ^ 120 = refl in
        let room : n < 2 ^ 120 = omega (arith, high, top, same) in
        let next = rec (bound-least n b k low) (bound-more n b (k + 1) high small) (omega (arith, below)) in
        let swap : n * 256 + b ≡ 256 * n + b = omega arith in (
          λ fits. ap (λ o. digits_of o bs) (room-more n b room) ∙ next.0 (omega (arith, fits)) ∙
              ap (λ m. Some (big_endian_behind m bs)) swap,
          λ over. ap (λ o. digits_of o bs) (room-more n b room) ∙ next.1 (omega (arith, over)),
        )
    by false e =
        let above : 15 ≤ k = grind (arith, nat_tests) in
        let least : 256 ^ 15 ≤ 256 ^ k = pow-le-pow_right {n = 256} (lit< tt) {i = 15} {j = k} above in
        let same : 256 ^ 15 ≡ 2 ^ 120 = refl in
        let full : 2 ^ 120 ≤ n = omega (arith, low, least, same) in (
          λ fits. absurd (omega (arith, fits, above)),
          λ over. ap (λ o. digits_of o bs) (room-none n b full) ∙ none-more bs,
        )

first-byte : (x : ℕ) (bs : List ℕ) → AreBytes (x ∷ bs) → x < 256
first-byte x bs h = All-head (λ n. n < 256) x bs h

-- k + 1 digits, the first of which is not 0, have made n
significant : (k n : ℕ) (bs : List ℕ) → AreBytes bs → 256 ^ k ≤ n → n < 256 ^ (k + 1) → k < 16 → AreMade k n bs
unfolding big_endian_behind
significant k n [] h low high lt = (λ fits. refl, λ over. absurd (omega (arith, over, lt)))
significant k n (b ∷ bs) h low high lt = step k n b bs (first-byte b bs h) low high lt
    (λ l m r. significant (k + 1) (n * 256 + b) bs (All-tail (λ n. n < 256) b bs h) l m r)

without-some : (x : ℕ) (bs : List ℕ) → x ≢ 0 → without_zeros (x ∷ bs) ≡ x ∷ bs
without-some x bs p = let e = ne_eqb x 0 p in rw e refl

abbrev AreNumber : List ℕ → Type 0
AreNumber bs = ((length (without_zeros bs) ≤ 16) → digits_of (Some 0) bs ≡ Some (big_endian bs)) ×
    ((16 < length (without_zeros bs)) → digits_of (Some 0) bs ≡ None)

number-some : (x : ℕ) (bs : List ℕ) → AreBytes (x ∷ bs) → x ≢ 0 → AreNumber (x ∷ bs)
unfolding big_endian_behind
number-some x bs h p =
    let size : length (without_zeros (x ∷ bs)) ≡ suc (length bs) = ap length (without-some x bs p) in
    let small = first-byte x bs h in
    let made = significant 0 x bs (All-tail (λ n. n < 256) x bs h) (omega arith) (omega (arith, small)) (omega arith) in
    let first : one_digit_more (Some 0) x ≡ Some x = room-more 0 x (omega arith) ∙ ap Some (omega arith) in
    let same : x ≡ 256 * 0 + x = omega arith in (
      λ fits. ap (λ o. digits_of o bs) first ∙ made.0 (omega (arith, fits, size)) ∙
          ap (λ m. Some (big_endian_behind m bs)) same,
      λ over. ap (λ o. digits_of o bs) first ∙ made.1 (omega (arith, over, size)),
    )

number-of : (bs : List ℕ) → AreBytes bs → AreNumber bs
unfolding big_endian_behind
number-of [] h = (λ fits. refl, λ over. absurd (omega (arith, over)))
number-of (zero ∷ bs) h = number-of bs (All-tail (λ n. n < 256) 0 bs h)
number-of (suc x ∷ bs) h = number-some (suc x) bs h (λ e. omega (arith, e))

pub digits-some : (bs : List ℕ) (v : ℕ) → AreBytes bs → Some v ≡ digits_of (Some 0) bs → magnitude bs ≡ Ok v
digits-some bs v h e = by (ltb 16 (length (without_zeros bs))) refl
  where
    by : (t : Bool) → ltb 16 (length (without_zeros bs)) ≡ t → magnitude bs ≡ Ok v
    by true k = let over : 16 < length (without_zeros bs) = grind (arith, nat_tests) in let n : Some v ≡ None = e ∙
        (number-of bs h).1 over in cc
    by false k =
        let fits : length (without_zeros bs) ≤ 16 = grind (arith, nat_tests) in
        let n : Some v ≡ Some (big_endian bs) = e ∙ (number-of bs h).0 fits in
        let m : v ≡ big_endian bs = cc in
        rw m (grind (arith, nat_tests))

pub digits-none : (bs : List ℕ) → AreBytes bs → None ≡ digits_of (Some 0) bs → magnitude bs ≡ Err kinds.TooLarge
digits-none bs h e = by (ltb 16 (length (without_zeros bs))) refl
  where
    by : (t : Bool) → ltb 16 (length (without_zeros bs)) ≡ t → magnitude bs ≡ Err kinds.TooLarge
    by true k = grind (arith, nat_tests)
    by false k = let fits : length (without_zeros bs) ≤ 16 = grind (arith, nat_tests) in
        let n : None ≡ Some (big_endian bs) = e ∙ (number-of bs h).0 fits in cc

-- ---- one byte more

pub digit-more : (E : Type 0) {S W : Type 0} (remaining : S → Option (List ℕ)) (d e : Decoder S W) (buffer : List ℕ)
    (x left n : ℕ) (start value next : Option ℕ) (y : List ℕ) → buffer ≡ x ∷ [] → 0 < left →
    next ≡ one_digit_more value x → Takes remaining d e (λ b. IsFillTaken {E = E} b d.counter.count buffer (Ok tt)) →
    ((c : List ℕ) × (z : List ℕ) × (length c + left ≡ n) × AreBytes c × (value ≡ digits_of start c) × (y ≡ c ++ z) ×
    (left_of remaining d ≡ Some z)) → (c : List ℕ) × (z : List ℕ) × (length c + (left - 1) ≡ n) ×
    AreBytes c × (next ≡ digits_of start c) × (y ≡ c ++ z) × (left_of remaining e ≡ Some z)
digit-more E remaining d e buffer x left n start value next y one some is (b, takes, count, taken, small)
    (c, z, len, low, val, split, known) =
    let (r, left', f) = rest-of (left_of remaining d) (left_of remaining e) z b known takes in
    let same : b ≡ x ∷ [] = taken.0 ∙ one in
    let added = ap length same in
    let sum = length-append c b in (
      c ++ b,
      r,
      omega (arith, len, some, sum, added),
      All-append (λ k. k < 256) c b low small,
      is ∙ ap (λ o. one_digit_more o x) val ∙ sym (ap (digits_of (digits_of start c)) same) ∙
          sym (digits-append start c b),
      split ∙ ap (λ (k : List ℕ). c ++ k) f ∙ sym (append_assoc c b r),
      left',
    )

-- where so many bytes are there, filling a buffer with them is refused for what they do not decide
pub fill-outside : {E : Type 0} {S W : Type 0} (can_fail : Bool) (remaining : S → Option (List ℕ)) (d e : Decoder S W)
    (buffer y : List ℕ) (m end : ℕ) (x : LlError E) → left_of remaining d ≡ Some y →
    length buffer + m ≤ length y → (reader_of remaining d).1 ≤ end + m →
    Takes remaining d e (λ b. IsFillTaken {E = E} b d.counter.count buffer (Err x)) →
    HasEnded can_fail (left_of remaining e) x →
    IsOutsideFault end (fault_of (left_at_failure can_fail (remaining e.reader.now)) (from_ll x))
fill-outside can_fail remaining d e buffer y m end (ll.Io x) left there fits (b, takes, counted, taken, bytes) ended =
    io-outside (left_at_failure can_fail (remaining e.reader.now)) end (λ none.
    let (r, rest, split) = rest-of (left_of remaining d) (left_of remaining e) y b left takes in
    let all : Some r ≡ Some [] = sym rest ∙ failed-end can_fail (remaining e.reader.now) ended none in
    let empty : r ≡ [] = cc in
    let size : length y ≡ length b + length r = ap length split ∙ length-append b r in
    let zero : length r ≡ 0 = ap length empty in
    let short = taken.0 in
    omega (arith, size, zero, short, there))
fill-outside can_fail remaining d e buffer y m end (ll.Syntax p) left there fits took ended = absurd took.3
fill-outside can_fail remaining d e buffer y m end ll.TooLong left there fits (b, takes, counted, taken, bytes) ended =
    let all : (reader_of remaining d).1 ≡ d.counter.count + length y = ap (λ o. known_end o d.counter.count) left in
    let past = taken.1 in
    omega (arith, all, past, there, fits)
fill-outside can_fail remaining d e buffer y m end ll.Memory left there fits took ended = tt
