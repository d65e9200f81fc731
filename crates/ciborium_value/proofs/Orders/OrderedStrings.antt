-- Two strings of one major type: the shorter payload first, and of two of one length the bytewise lower one, in either
-- order of their encodings.
use Rattle.std.proofs.Common.{◌≡◌, ℕ, ◌+◌, ◌^◌, ◌<◌, ◌≤◌, List, ◌++◌, length, refl, ap, ◌∙◌, sym, arith, length-append}
use Rattle.std.proofs.{Common.{Ordering, Less, Equal, Greater, nat_cmp}, lemmas.Bool.Decides.nat_tests}
use Rattle.std.{proofs.lemmas.Cmp.{tied_itself, nat_cmp_total}, specs.Cmp.Lexicographic.slice_cmp}
use Rattle.std.specs.Ordering.{ordering_then}
use Rattle.ciborium_ll.specs.Head.{Width, within, one_byte, two_bytes, four_bytes, eight_bytes, head_in, narrowest}
use Rattle.ciborium_ll.specs.Head.{shortest_head}
use Rattle.ciborium_value.{proofs.Orders.HeadsInOrder.heads_decide, specs.{Canonical.canonical_order, Tree.Tree}}
use Rattle.ciborium_value.specs.{Tree.{bytes, text}, Visits.saturated, inner.SideBySide.payload_order}

-- how many bytes a head has, by its width
abbrev size_of : Width → ℕ
size_of within = 1
size_of one_byte = 2
size_of two_bytes = 3
size_of four_bytes = 5
size_of eight_bytes = 9

size-of : (w : Width) (major n : ℕ) → length (head_in w major n) ≡ size_of w
size-of within major n = refl
size-of one_byte major n = refl
size-of two_bytes major n = refl
size-of four_bytes major n = refl
size-of eight_bytes major n = refl

-- a greater argument has no shorter head
no_shorter : (n k : ℕ) → n ≤ k → size_of (narrowest n) ≤ size_of (narrowest k)
no_shorter n k h = grind (arith, size_of, narrowest)

-- a longer payload makes no shorter string
sizes-rise : (major : ℕ) (a b : List ℕ) → length a ≤ length b →
    length (shortest_head major (length a)) + length a ≤ length (shortest_head major (length b)) + length b
unfolding shortest_head
sizes-rise major a b h =
    let first = size-of (narrowest (length a)) major (length a) in
    let second = size-of (narrowest (length b)) major (length b) in
    omega (arith, first, second, no_shorter (length a) (length b) h, h)

-- what rises with the lengths decides nothing that they do not
led_by_lengths : (n m l k : ℕ) (q : Ordering) → (l ≤ k → n ≤ m) → (k ≤ l → m ≤ n) →
    ordering_then (nat_cmp n m) (ordering_then (nat_cmp l k) q) ≡ ordering_then (nat_cmp l k) q
led_by_lengths n m l k q up down = grind (arith, nat_tests, up, down)

-- behind the shortest head
abbrev string : ℕ → List ℕ → List ℕ
string major payload = shortest_head major (length payload) ++ payload

module _ (major : ℕ) (a b : List ℕ) (h : length a < 2 ^ 64) (k : length b < 2 ^ 64) where
  -- bytewise, behind heads of one major type
  bytewise : slice_cmp nat_cmp (string major a) (string major b) ≡ payload_order a b
  bytewise = heads_decide major major (length a) (length b) a b h k ∙
      ap (λ o. ordering_then (ordering_then o (nat_cmp (length a) (length b))) (slice_cmp nat_cmp a b))
      (tied_itself nat_cmp_total major)

  -- and the shorter first
  length_first : ordering_then (nat_cmp (saturated (length (string major a))) (saturated (length (string major b))))
      (slice_cmp nat_cmp (string major a) (string major b)) ≡ payload_order a b
  length_first =
      let first = length-append (shortest_head major (length a)) a in
      let second = length-append (shortest_head major (length b)) b in
      ap (ordering_then (nat_cmp (saturated (length (string major a))) (saturated (length (string major b)))))
      bytewise ∙
      led_by_lengths (saturated (length (string major a))) (saturated (length (string major b))) (length a) (length b)
      (slice_cmp nat_cmp a b)
      (λ le. omega (arith, first, second, sizes-rise major a b le))
      (λ le. omega (arith, first, second, sizes-rise major b a le))

pub texts-in-order : (a b : List ℕ) → length a < 2 ^ 64 → length b < 2 ^ 64 →
    payload_order a b ≡ canonical_order (text a) (text b)
texts-in-order a b h k = sym (length_first 3 a b h k)

pub bytes-in-order : (a b : List ℕ) → length a < 2 ^ 64 → length b < 2 ^ 64 →
    payload_order a b ≡ canonical_order (bytes a) (bytes b)
bytes-in-order a b h k = sym (length_first 2 a b h k)

-- the order of two trees, by what they are
pub of-these : (o : Ordering) (x y t u : Tree) {v w : Tree} → o ≡ canonical_order x y → x ≡ v → y ≡ w → t ≡ v → u ≡ w →
    o ≡ canonical_order t u
of-these o x y t u {v} {w} e p q r s =
    e ∙ ap (λ k. canonical_order k y) (p ∙ sym r) ∙ ap (canonical_order t) (q ∙ sym s)

-- payloads that no byte tells apart are one
pub one-payload : (o : Ordering) (a b : List ℕ) → o ≡ payload_order a b → o ≡ Equal → slice_cmp nat_cmp a b ≡ Equal
one-payload o a b is e = behind (nat_cmp (length a) (length b)) (slice_cmp nat_cmp a b) (sym is ∙ e)
  where
    behind : (p q : Ordering) → ordering_then p q ≡ Equal → q ≡ Equal
    behind Less q k = cc
    behind Equal q k = k
    behind Greater q k = cc
