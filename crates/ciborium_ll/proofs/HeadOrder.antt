-- The canonical order of two integers, by their heads: the shorter head, then the lower major type, then the lower
-- argument.
use Rattle.std.proofs.Common.{◌≡◌, ℕ, zero, suc, ◌+◌, ◌*◌, ◌/◌, ◌%◌, ◌^◌, ◌<◌, List, length, Bool, true, false, refl}
use Rattle.std.proofs.Common.{sym, ap, ◌∙◌, arith, Ordering, Less, Equal, Greater, nat_cmp, lit<, [], ◌∷◌}
use Rattle.std.proofs.{Math.Nat.{mul_comm, div-one, mod-one, mod-eq_of_lt, pow-succ'}, lemmas.Nat.mul-add-lt}
use Rattle.std.proofs.{lemmas.Nat.mod_below, lemmas.Cmp.{ranked, tied_itself, nat_cmp_total}}
use Rattle.std.specs.{Cmp.nat_cmp_is, Cmp.Lexicographic.slice_cmp, Int.{byte_at, bytes_high_first, complement_if}}
use Rattle.std.specs.Ordering.{MatchOrdering, ordering_then, bool_cmp}
use Rattle.ciborium_ll.specs.Head.{Width, within, one_byte, two_bytes, four_bytes, eight_bytes, capacity, head_in}
use Rattle.ciborium_ll.specs.{Head.{narrowest, shortest_head, initial_byte}, Integer.integer_order}
use Rattle.ciborium_ll.proofs.ShortestHead.{narrowest-holds}
use lib.Arith.{mod-mul}

-- ---- big-endian bytes

later_place : (a b r s p : ℕ) → a < b → r < p → a * p + r < b * p + s
later_place a b r s p h l = omega (arith, mul-add-lt a p r b h l, mul_comm p b)

by_places : (o q : Ordering) (a b r s p : ℕ) → r < p → s < p → MatchOrdering o (a < b) (a ≡ b) (b < a) →
    MatchOrdering q (r < s) (r ≡ s) (s < r) →
    MatchOrdering (ordering_then o q) (a * p + r < b * p + s) (a * p + r ≡ b * p + s) (b * p + s < a * p + r)
by_places Less q a b r s p l k h m = later_place a b r s p h l
by_places Greater q a b r s p l k h m = later_place b a s r p h k
by_places Equal Less a b r s p l k h m = rw h (omega (arith, m))
by_places Equal Equal a b r s p l k h m = rw h (omega (arith, m))
by_places Equal Greater a b r s p l k h m = rw h (omega (arith, m))

-- the high place decides, and then the low one
pub places : (a b r s p : ℕ) → r < p → s < p → ordering_then (nat_cmp a b) (nat_cmp r s) ≡ nat_cmp (a * p + r)
    (b * p + s)
places a b r s p l k = nat_cmp_is (a * p + r)
    (b * p + s) _ (by_places (nat_cmp a b) (nat_cmp r s) a b r s p l k (ranked a b _ refl) (ranked r s _ refl))

pub byte_at-is : (k n : ℕ) → byte_at k n ≡ n / 256 ^ k % 256
byte_at-is zero n = sym (ap (λ x. x % 256) (div-one n))
byte_at-is (suc k) n = refl

pub power_above : (k : ℕ) → 0 < 256 ^ k
power_above zero = lit< tt
power_above (suc k) = rw (pow-succ' 256 k) (let above = power_above k in omega arith)

-- bytes of one length are ordered as the numbers that they hold
bytes_in_order : (k n m : ℕ) → slice_cmp nat_cmp (bytes_high_first k n) (bytes_high_first k m) ≡ nat_cmp (n % 256 ^ k)
    (m % 256 ^ k)
bytes_in_order zero n m = sym (rw (mod-one n, mod-one m) refl)
bytes_in_order (suc k) n m =
    let p = 256 ^ k in
    let above : 0 < p = power_above k in
    let split : (x : ℕ) → x % 256 ^ suc k ≡ (x / p % 256) * p + x % p =
    λ x. rw (pow-succ' 256 k) (mod-mul x {m = 256} {c = p} (omega arith) above) in
    rw (byte_at-is k n, byte_at-is k m, bytes_in_order k n m, split n, split m)
    (places (n / p % 256) (m / p % 256) (n % p) (m % p) p (mod_below n p above) (mod_below m p above))

-- the same for numbers that the length holds
pub arguments_in_order : (k n m : ℕ) → n < 256 ^ k → m < 256 ^ k →
    slice_cmp nat_cmp (bytes_high_first k n) (bytes_high_first k m) ≡ nat_cmp n m
arguments_in_order k n m h l = bytes_in_order k n m ∙ rw (mod-eq_of_lt h, mod-eq_of_lt l) refl

-- ---- heads

abbrev major : Bool → ℕ
major false = 0
major true = 1

majors_in_order : (b c : Bool) → nat_cmp (major b) (major c) ≡ bool_cmp b c
majors_in_order true true = refl
majors_in_order true false = refl
majors_in_order false true = refl
majors_in_order false false = refl

first_bytes_in_order : (b c : Bool) (n m : ℕ) → n < 32 → m < 32 →
    nat_cmp (initial_byte (major b) n) (initial_byte (major c) m) ≡ ordering_then (bool_cmp b c) (nat_cmp n m)
first_bytes_in_order b c n m h l = sym (places (major b) (major c) n m 32 h l) ∙
    ap (λ o. ordering_then o (nat_cmp n m)) (majors_in_order b c)

pub then_equal : (o : Ordering) → ordering_then o Equal ≡ o
then_equal Less = refl
then_equal Equal = refl
then_equal Greater = refl

-- two heads whose arguments stand behind the initial byte, which has the same information
wide : (b c : Bool) (i : ℕ) (x y : List ℕ) (n m : ℕ) → i < 32 → slice_cmp nat_cmp x y ≡ nat_cmp n m →
    ordering_then (nat_cmp (initial_byte (major b) i) (initial_byte (major c) i)) (slice_cmp nat_cmp x y) ≡
    ordering_then (bool_cmp b c) (nat_cmp n m)
wide b c i x y n m h e = rw (
  first_bytes_in_order b c i i h h,
  tied_itself nat_cmp_total i,
  then_equal (bool_cmp b c),
  e,
) refl

abbrev size_and_bytes : List ℕ → List ℕ → Ordering
size_and_bytes x y = ordering_then (nat_cmp (length x) (length y)) (slice_cmp nat_cmp x y)

in_order : (f g : Width) (b c : Bool) (n m : ℕ) → n < capacity f → m < capacity g →
    size_and_bytes (head_in f (major b) n) (head_in g (major c) m)
    ≡ ordering_then (ordering_then (nat_cmp (length (head_in f 0 n)) (length (head_in g 0 m))) (bool_cmp b c))
    (nat_cmp n m)
in_order within within b c n m h l = then_equal _ ∙ first_bytes_in_order b c n m (omega (arith, h)) (omega (arith, l))
in_order one_byte one_byte b c n m h l = wide b c 24 (n ∷ []) (m ∷ []) n m (lit< tt) (then_equal _)
in_order two_bytes two_bytes b c n m h l = wide b c 25 (bytes_high_first 2 n) (bytes_high_first 2 m) n m (lit< tt)
    (arguments_in_order 2 n m h l)
in_order four_bytes four_bytes b c n m h l = wide b c 26 (bytes_high_first 4 n) (bytes_high_first 4 m) n m (lit< tt)
    (arguments_in_order 4 n m h l)
in_order eight_bytes eight_bytes b c n m h l = wide b c 27 (bytes_high_first 8 n) (bytes_high_first 8 m) n m (lit< tt)
    (arguments_in_order 8 n m h l)
in_order f g b c n m h l = refl

pub integers_in_order : (b c : Bool) (n m : ℕ) → n < 2 ^ 64 → m < 2 ^ 64 →
    integer_order (complement_if b n) (complement_if c m)
    ≡ ordering_then (ordering_then (nat_cmp (length (shortest_head 0 n)) (length (shortest_head 0 m))) (bool_cmp b c))
    (nat_cmp n m)
unfolding shortest_head
integers_in_order true true n m h l = in_order (narrowest n) (narrowest m) true true n m (narrowest-holds n h)
    (narrowest-holds m l)
integers_in_order true false n m h l = in_order (narrowest n) (narrowest m) true false n m (narrowest-holds n h)
    (narrowest-holds m l)
integers_in_order false true n m h l = in_order (narrowest n) (narrowest m) false true n m (narrowest-holds n h)
    (narrowest-holds m l)
integers_in_order false false n m h l = in_order (narrowest n) (narrowest m) false false n m (narrowest-holds n h)
    (narrowest-holds m l)
