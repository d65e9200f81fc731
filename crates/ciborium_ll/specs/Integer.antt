-- The numbers that one head holds, and their canonical order (RFC 8949, section 3.1; section 4.2.3;
-- RFC 7049, section 3.9).
use Rattle.std.specs.{Prelude.{ℤ, pos, negsuc, List, ℕ, length}, declared.cmp.Ordering.Ordering, Ordering.nat_cmp}
use Rattle.std.specs.{Ordering.{then_cmp, on}, Cmp.Lexicographic.slice_cmp}
use Rattle.ciborium_ll.specs.{Head.shortest_head, ProperItems.IsArgument}

-- from -2^64 to 2^64 - 1
abbrev pub IsInRange : ℤ → Type 0
IsInRange (pos n) = IsArgument n
IsInRange (negsuc n) = IsArgument n

-- the encoding of a number: the shortest head of major type 0 with n, or of 1 with n for -1 - n
abbrev pub integer_bytes : ℤ → List ℕ
integer_bytes (pos n) = shortest_head 0 n
integer_bytes (negsuc n) = shortest_head 1 n

-- the sizes of the encodings, and where they are equal the bytes, of which the first that differs
-- decides
abbrev pub integer_order : ℤ → ℤ → Ordering
integer_order = then_cmp (on (λ z. length (integer_bytes z)) nat_cmp) (on integer_bytes (slice_cmp nat_cmp))
