-- The tree of a number of at most 128 bits: an integer where it is in range, else a bignum (RFC
-- 8949, section 3.4.3).
use Rattle.std.specs.{Prelude.{◌≡◌, ℕ, ◌^◌, ◌<◌, ℤ, pos, negsuc, List, if◌then◌else◌, nat_lt}, Int.{to_be_bytes, w128}}
use Rattle.ciborium_value.specs.{Tree.{Tree, integer, bytes, tag}, Meaning.{big_endian, without_zeros}}

-- the bytes of a number, the most significant first, without leading zeros
unfoldable pub shortest_bytes : ℕ → List ℕ
shortest_bytes n = without_zeros (to_be_bytes w128 n)

-- tag 2 over n, and tag 3 over n for -1 - n
abbrev pub number_tree : ℤ → Tree
number_tree (pos n) = if nat_lt n (2 ^ 64) then integer (pos n) else tag 2 (bytes (shortest_bytes n))
number_tree (negsuc n) = if nat_lt n (2 ^ 64) then integer (negsuc n) else tag 3 (bytes (shortest_bytes n))

-- the bytes hold their number
abbrev pub BytesHoldNumber : Type 0
BytesHoldNumber = (n : ℕ) → n < 2 ^ 128 → big_endian (shortest_bytes n) ≡ n

-- and none of them is a leading zero
abbrev pub NoLeadingZeros : Type 0
NoLeadingZeros = (n : ℕ) → without_zeros (shortest_bytes n) ≡ shortest_bytes n
