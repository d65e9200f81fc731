-- What is written of a number is its own deterministic form, and is read back, bignums too (RFC
-- 8949, section 3.4.3).
use Rattle.std.proofs.{Common.{ap, ◌∙◌, arith, lit<}, Math.Nat.pow-le-pow_right, lemmas.Bool.Decides.nat_tests}
use Rattle.std.specs.{Int.complement_if, Prelude.{◌≡◌, ℕ, ◌^◌, ◌<◌, ◌≤◌, ℤ, pos, negsuc, Bool, true, false, List, Ok}}
use Rattle.std.specs.Prelude.{Result, Some, None, if◌then◌else◌, length, nat_le, nat_lt, refl}
use Rattle.ciborium_ll.specs.{Item.Item, declared.kind.Kind.Kind}
use Rattle.ciborium_value.specs.{DeterministicForms.tag_form, Meaning.{bignum_meaning, negative_bignum}}
use Rattle.ciborium_value.specs.{Meaning.{unsigned_bignum, without_zeros}, Nesting.Limit, Number.shortest_bytes}
use Rattle.ciborium_value.specs.{Readings.{below, bounded}, ReadsBack.{IsDefinite, IsItsOwnForm, IsReadBack, Way}}
use Rattle.ciborium_value.specs.{ReadsBack.{item-back, met-itself, named}, lemmas.ReadsBackBignums.big_endian-shortest}
use Rattle.ciborium_value.specs.lemmas.ReadsBackBignums.{length-shortest, magnitude-shortest, without_zeros-shortest}
use Rattle.ciborium_value.specs.{Sinks.{bignum_item, number_item}, Given.{gives, number_below, number_of}}
use Rattle.ciborium_value.specs.Given.{number_within, of_meaning, outcome, settled, then_take, with_sign}
use Rattle.ciborium_value.specs.declared.key_order.KeyOrder.{KeyOrder}
use Rattle.ciborium_ll.specs.Item as items
use Rattle.ciborium_value.specs.Readings as readings
use Rattle.ciborium_value.specs.Tree as trees
use Rattle.ciborium_ll.specs.declared.kind.Kind.TheVariants as kinds

-- ---- numbers of either sign

abbrev is_negative : ℤ → Bool
is_negative (pos n) = false
is_negative (negsuc n) = true

-- n for n and for -1 - n
abbrev size : ℤ → ℕ
size (pos n) = n
size (negsuc n) = n

either : (t : Bool) (i j : Item) (o : Result (Bool × ℕ) Kind) → number_of i ≡ o → number_of j ≡ o →
    number_of (if t then i else j) ≡ o
either true i j o h k = h
either false i j o h k = k

number_of-item : (z : ℤ) → size z < 2 ^ 128 → number_of (number_item z) ≡ Ok (is_negative z, size z)
number_of-item (pos n) h = either (nat_lt n (2 ^ 64)) (items.unsigned n) (bignum_item 2 n) _ refl
    (ap (with_sign false) (magnitude-shortest n h))
number_of-item (negsuc n) h = either (nat_lt n (2 ^ 64)) (items.negative n) (bignum_item 3 n) _ refl
    (ap (with_sign true) (magnitude-shortest n h))

either-definite : (t : Bool) (i j : Item) → IsDefinite i → IsDefinite j → IsDefinite (if t then i else j)
either-definite true i j h k = h
either-definite false i j h k = k

pub definite-number : (z : ℤ) → IsDefinite (number_item z)
definite-number (pos n) = either-definite (nat_lt n (2 ^ 64)) (items.unsigned n) (bignum_item 2 n) refl refl
definite-number (negsuc n) = either-definite (nat_lt n (2 ^ 64)) (items.negative n) (bignum_item 3 n) refl refl

below-power : (n k m : ℕ) → n < 2 ^ k → k ≤ m → n < 2 ^ m
below-power n k m h fits = let le : 2 ^ k ≤ 2 ^ m =
    pow-le-pow_right {n = 2} (lit< tt) {i = k} {j = m} fits in
    omega (arith, le, h)

is_below : (l : Limit) (n bound : ℕ) → n < bound → outcome l (number_below bound (false, n)) ≡ gives n
is_below l n bound h = grind (arith, nat_tests)

is_within : (l : Limit) (s : Bool) (n bound : ℕ) → n < bound →
    outcome l (number_within bound (s, n)) ≡ gives (complement_if s n)
is_within l s n bound h = grind (arith, nat_tests)

-- ---- bignums that are not in an integer's range

short : (n : ℕ) → nat_le (length (shortest_bytes n)) 16 ≡ true
short n = grind (arith, nat_tests, length-shortest n)

unsigned-itself : (n : ℕ) (b : List ℕ) → nat_lt n (2 ^ 64) ≡ false →
    unsigned_bignum n b ≡ Some (trees.tag 2 (trees.bytes b))
unsigned-itself n b large = ap (λ t. if t then Some (trees.integer (pos n)) else Some
    (trees.tag 2 (trees.bytes b))) large

negative-itself : (n : ℕ) (b : List ℕ) → nat_lt n (2 ^ 64) ≡ false → n < 2 ^ 127 →
    negative_bignum n b ≡ Some (trees.tag 3 (trees.bytes b))
negative-itself n b large fits =
    let held : nat_lt n (2 ^ 127) ≡ true = grind (arith, nat_tests) in
    ap (λ t. if t then Some (trees.integer (negsuc n)) else if nat_lt n (2 ^ 127) then Some
    (trees.tag 3 (trees.bytes b)) else None) large
    ∙ ap (λ t. if t then Some (trees.tag 3 (trees.bytes b)) else None) held

meaning-unsigned : (n : ℕ) → n < 2 ^ 128 → nat_lt n (2 ^ 64) ≡ false →
    bignum_meaning 2 (shortest_bytes n) ≡ Some (trees.tag 2 (trees.bytes (shortest_bytes n)))
unfolding bignum_meaning
meaning-unsigned n fits large =
    let b = shortest_bytes n in
    ap (λ m. unsigned_bignum m (without_zeros b)) (big_endian-shortest n fits) ∙
    ap (unsigned_bignum n) (without_zeros-shortest n) ∙ unsigned-itself n b large

meaning-negative : (n : ℕ) → n < 2 ^ 127 → nat_lt n (2 ^ 64) ≡ false →
    bignum_meaning 3 (shortest_bytes n) ≡ Some (trees.tag 3 (trees.bytes (shortest_bytes n)))
unfolding bignum_meaning
meaning-negative n fits large =
    let b = shortest_bytes n in
    let wide = below-power n 127 128 fits (omega arith) in
    ap (λ m. negative_bignum m (without_zeros b)) (big_endian-shortest n wide) ∙
    ap (negative_bignum n) (without_zeros-shortest n) ∙ negative-itself n b large fits

own-unsigned : (o : KeyOrder) (n : ℕ) → n < 2 ^ 128 → (c : Bool) → nat_lt n (2 ^ 64) ≡ c →
    IsItsOwnForm o (if c then items.unsigned n else bignum_item 2 n)
own-unsigned o n fits true e = refl
own-unsigned o n fits false e =
    let b = shortest_bytes n in
    ap (λ t. tag_form 2 (if t then Some b else None) (gives (trees.bytes b))) (short n) ∙
    ap (of_meaning kinds.TooLarge) (meaning-unsigned n fits e)

own-negative : (o : KeyOrder) (n : ℕ) → n < 2 ^ 127 → (c : Bool) → nat_lt n (2 ^ 64) ≡ c →
    IsItsOwnForm o (if c then items.negative n else bignum_item 3 n)
own-negative o n fits true e = refl
own-negative o n fits false e =
    let b = shortest_bytes n in
    ap (λ t. tag_form 3 (if t then Some b else None) (gives (trees.bytes b))) (short n) ∙
    ap (of_meaning kinds.TooLarge) (meaning-negative n fits e)

-- ---- types of numbers

-- from 0 on, of so many bits
abbrev pub IsUnsignedBack : ℕ → Type 0
IsUnsignedBack k = (way : Way) → IsReadBack way (λ n. n < 2 ^ k) (λ n. named (number_item (pos n)))
    (below (2 ^ k)).taken (λ n. n) (λ n. 0)

pub unsigned-back : (k : ℕ) → k < 129 → IsUnsignedBack k
unsigned-back k fits way n h =
    let wide = below-power n k 128 h (omega (arith, fits)) in
    item-back (number_item (pos n)) (below (2 ^ k)).taken
    (met-itself (number_item (pos n)) (definite-number (pos n))
    (λ o. own-unsigned o n wide (nat_lt n (2 ^ 64)) refl) way)
    (λ l none. ap (λ r. then_take (settled r) (λ v. outcome l (number_below (2 ^ k) v)))
    (number_of-item (pos n) wide) ∙ is_below l n (2 ^ k) h)

-- n and -1 - n, for n of so many bits
abbrev pub IsSignedBack : ℕ → Type 0
IsSignedBack k = (way : Way) → IsReadBack way (readings.IsBounded (2 ^ k))
    (λ z. named (number_item z)) (bounded (2 ^ k)).taken (λ z. z) (λ z. 0)

signed-given : (k : ℕ) → k < 128 → (z : ℤ) → readings.IsBounded (2 ^ k) z → (l : Limit) →
    outcome l ((bounded (2 ^ k)).taken (number_item z)) ≡ gives z
signed-given k fits (pos n) h l = ap (λ r. then_take (settled r) (λ v. outcome l (number_within (2 ^ k) v)))
    (number_of-item (pos n) (below-power n k 128 h (omega (arith, fits)))) ∙ is_within l false n (2 ^ k) h
signed-given k fits (negsuc n) h l = ap (λ r. then_take (settled r) (λ v. outcome l (number_within (2 ^ k) v)))
    (number_of-item (negsuc n) (below-power n k 128 h (omega (arith, fits)))) ∙ is_within l true n (2 ^ k) h

own-signed : (o : KeyOrder) (k : ℕ) → k < 128 → (z : ℤ) → readings.IsBounded (2 ^ k) z → IsItsOwnForm o (number_item z)
own-signed o k fits (pos n) h = own-unsigned o n (below-power n k 128 h (omega (arith, fits))) (nat_lt n (2 ^ 64)) refl
own-signed o k fits (negsuc n) h =
    own-negative o n (below-power n k 127 h (omega (arith, fits))) (nat_lt n (2 ^ 64)) refl

pub signed-back : (k : ℕ) → k < 128 → IsSignedBack k
signed-back k fits way z h = item-back (number_item z) (bounded (2 ^ k)).taken
    (met-itself (number_item z) (definite-number z) (λ o. own-signed o k fits z h) way)
    (λ l none. signed-given k fits z h l)
