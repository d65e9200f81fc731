-- The bytes that are written for a bignum are read as its number (RFC 8949, section 3.4.3).
use Rattle.std.proofs.{Common.{ap, ◌∙◌, arith, zero, suc, length}, Math.Arith.mod-mul, Math.Nat.{add-mul, mul_assoc}}
use Rattle.std.proofs.{Math.Nat.{mul_left_comm, mod-one, mod-eq_of_lt, pow-succ'}, lemmas.Bool.Decides.nat_tests}
use Rattle.std.specs.{Int.{byte_at, bytes_high_first}, Prelude.{◌≡◌, ℕ, ◌+◌, ◌*◌, ◌/◌, ◌%◌, ◌^◌, ◌==◌, ◌<◌, ◌≤◌, List}}
use Rattle.std.specs.Prelude.{[], ◌∷◌, false, Ok, refl}
use Rattle.ciborium_ll.proofs.HeadOrder.{byte_at-is, power_above}
use Rattle.ciborium_value.specs.{Meaning.{big_endian_behind, big_endian, without_zeros}, Number.shortest_bytes}
use Rattle.ciborium_value.specs.Given.{magnitude}

-- ---- leading zeros

not_zero : (b : ℕ) → (suc b == 0) ≡ false
not_zero b = grind (arith, nat_tests)

pub stays : (b : ℕ) (bs : List ℕ) → without_zeros (suc b ∷ bs) ≡ suc b ∷ bs
stays b bs = rw (not_zero b) refl

pub zeros_hold_nothing : (bs : List ℕ) → big_endian (without_zeros bs) ≡ big_endian bs
unfolding big_endian_behind
zeros_hold_nothing [] = refl
zeros_hold_nothing (zero ∷ bs) = zeros_hold_nothing bs
zeros_hold_nothing (suc b ∷ bs) = ap big_endian (stays b bs)

pub no_zeros_twice : (bs : List ℕ) → without_zeros (without_zeros bs) ≡ without_zeros bs
no_zeros_twice [] = refl
no_zeros_twice (zero ∷ bs) = no_zeros_twice bs
no_zeros_twice (suc b ∷ bs) = ap without_zeros (stays b bs)

pub length-without_zeros : (bs : List ℕ) → length (without_zeros bs) ≤ length bs
length-without_zeros [] = omega arith
length-without_zeros (zero ∷ bs) = omega (arith, length-without_zeros bs)
length-without_zeros (suc b ∷ bs) = rw (stays b bs) (omega arith)

-- ---- bytes

pub length-bytes_high_first : (k n : ℕ) → length (bytes_high_first k n) ≡ k
length-bytes_high_first zero n = refl
length-bytes_high_first (suc k) n = ap suc (length-bytes_high_first k n)

one_digit_more : (m d r p : ℕ) → (256 * m + d) * p + r ≡ m * (256 * p) + (d * p + r)
one_digit_more m d r p = omega (
  arith,
  add-mul (256 * m) d p,
  mul_assoc 256 m p,
  mul_left_comm 256 m p,
)

-- the lowest k bytes of n, read behind m
read_behind : (k m n : ℕ) → big_endian_behind m (bytes_high_first k n) ≡ m * 256 ^ k + n % 256 ^ k
unfolding big_endian_behind
read_behind zero m n = omega (arith, mod-one n)
read_behind (suc k) m n =
    let p = 256 ^ k in
    let split : n % 256 ^ suc k ≡ (n / p % 256) * p + n % p =
    rw (pow-succ' 256 k) (mod-mul n {m = 256} {c = p} (omega arith) (power_above k)) in
    rw (read_behind k (256 * m + byte_at k n) n, byte_at-is k n, split, pow-succ' 256 k)
    (one_digit_more m (n / p % 256) (n % p) p)

pub length-shortest : (n : ℕ) → length (shortest_bytes n) ≤ 16
unfolding shortest_bytes
length-shortest n = omega (
  arith,
  length-without_zeros (bytes_high_first 16 n),
  length-bytes_high_first 16 n,
)

pub big_endian-shortest : (n : ℕ) → n < 2 ^ 128 → big_endian (shortest_bytes n) ≡ n
unfolding shortest_bytes
big_endian-shortest n h = zeros_hold_nothing (bytes_high_first 16 n) ∙ read_behind 16 0 n ∙
    rw (mod-eq_of_lt h) (omega arith)

pub without_zeros-shortest : (n : ℕ) → without_zeros (shortest_bytes n) ≡ shortest_bytes n
unfolding shortest_bytes
without_zeros-shortest n = no_zeros_twice (bytes_high_first 16 n)

pub magnitude-shortest : (n : ℕ) → n < 2 ^ 128 → magnitude (shortest_bytes n) ≡ Ok n
magnitude-shortest n h =
    let fits : length (without_zeros (shortest_bytes n)) ≤ 16 =
    omega (arith, length-without_zeros (shortest_bytes n), length-shortest n) in
    let read : magnitude (shortest_bytes n) ≡ Ok (big_endian (shortest_bytes n)) =
    grind (arith, nat_tests) in
    read ∙ ap Ok (big_endian-shortest n h)
