-- The canonical order of two numbers is that of them as trees: no head is so long that its length is cut.
use Rattle.std.proofs.Common.{◌≡◌, ℕ, ℤ, pos, negsuc, ◌≤◌, length, refl, ap, ◌∙◌, arith, nat_cmp}
use Rattle.std.specs.{Cmp.Lexicographic.slice_cmp, Ordering.ordering_then}
use Rattle.ciborium_ll.specs.Head.{Width, within, one_byte, two_bytes, four_bytes, eight_bytes, head_in, narrowest}
use Rattle.ciborium_ll.specs.{Head.shortest_head, Integer.integer_bytes}
use Rattle.ciborium_value.specs.{Encoding.{encoding, encoded_size}, laws.OrderLaws.IntegersAsTrees, Tree.integer}

head-size : (w : Width) (major n : ℕ) → length (head_in w major n) ≤ 9
head-size within major n = omega arith
head-size one_byte major n = omega arith
head-size two_bytes major n = omega arith
head-size four_bytes major n = omega arith
head-size eight_bytes major n = omega arith

same_bytes : (z : ℤ) → integer_bytes z ≡ encoding (integer z)
same_bytes (pos n) = refl
same_bytes (negsuc n) = refl

same_size : (z : ℤ) → length (integer_bytes z) ≡ encoded_size (integer z)
unfolding shortest_head
same_size (pos n) = omega (arith, head-size (narrowest n) 0 n)
same_size (negsuc n) = omega (arith, head-size (narrowest n) 1 n)

pub integers_as_trees : IntegersAsTrees
integers_as_trees z y = ap (λ n. ordering_then (nat_cmp n (length (integer_bytes y)))
    (slice_cmp nat_cmp (integer_bytes z) (integer_bytes y))) (same_size z) ∙
    ap (λ n. ordering_then (nat_cmp (encoded_size (integer z)) n)
    (slice_cmp nat_cmp (integer_bytes z) (integer_bytes y))) (same_size y) ∙
    ap (λ s. ordering_then (nat_cmp (encoded_size (integer z)) (encoded_size (integer y)))
    (slice_cmp nat_cmp s (integer_bytes y))) (same_bytes z) ∙
    ap (λ s. ordering_then (nat_cmp (encoded_size (integer z)) (encoded_size (integer y)))
    (slice_cmp nat_cmp (encoding (integer z)) s)) (same_bytes y)
