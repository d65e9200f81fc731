-- Shortest heads are ordered bytewise: by the major type, and then by the argument.
use Rattle.std.proofs.Common.{◌≡◌, ℕ, ◌^◌, ◌<◌, ◌≤◌, List, [], ◌∷◌, ◌++◌, length, refl, sym, ap, ◌∙◌, lit<, arith}
use Rattle.std.proofs.{Common.{length-append, Ordering, Less, Equal, Greater, nat_cmp}, lemmas.Bool.Decides.nat_tests}
use Rattle.std.specs.{Cmp.Lexicographic.slice_cmp, FinMap.nat_cmp-IsAntisymmetric, Int.bytes_high_first}
use Rattle.std.specs.Ordering.{ordering_then}
use Rattle.ciborium_ll.specs.Head.{Width, within, one_byte, two_bytes, four_bytes, eight_bytes, capacity, information}
use Rattle.ciborium_ll.specs.Head.{argument_bytes, narrowest, shortest_head}
use Rattle.ciborium_ll.proofs.{ShortestHead.narrowest-holds, HeadOrder.{places, arguments_in_order}}
use Rattle.ciborium_value.specs.lemmas.ReadsBackBignums.{length-bytes_high_first}

-- ---- lists of which none is a proper beginning of the other

-- a begins b at the end of b alone
abbrev pub BeginsOnlyItself : List ℕ → List ℕ → Type 0
BeginsOnlyItself a b = (r : List ℕ) → a ++ r ≡ b → r ≡ []

pub then-then : (o p q : Ordering) → ordering_then (ordering_then o p) q ≡ ordering_then o (ordering_then p q)
then-then Less p q = refl
then-then Equal p q = refl
then-then Greater p q = refl

-- where the first part does not decide, two orders agree
by_first : (o p q r : Ordering) → (o ≡ Equal → p ≡ ordering_then q r) →
    ordering_then o p ≡ ordering_then (ordering_then o q) r
by_first Equal p q r h = h refl
by_first u p q r h = refl

-- the elements before the rest decide, and where they are equal the rest
pub fronts_decide : (a b x y : List ℕ) → BeginsOnlyItself a b → BeginsOnlyItself b a
    → slice_cmp nat_cmp (a ++ x) (b ++ y) ≡ ordering_then (slice_cmp nat_cmp a b) (slice_cmp nat_cmp x y)
fronts_decide [] [] x y h k = refl
fronts_decide [] (n ∷ b) x y h k = absurd (let no : (n ∷ b) ≡ [] = h (n ∷ b) refl in cc)
fronts_decide (m ∷ a) [] x y h k = absurd (let no : (m ∷ a) ≡ [] = k (m ∷ a) refl in cc)
fronts_decide (m ∷ a) (n ∷ b) x y h k =
    by_first (nat_cmp m n) (slice_cmp nat_cmp (a ++ x) (b ++ y)) (slice_cmp nat_cmp a b) (slice_cmp nat_cmp x y)
    (λ e. let same : m ≡ n = nat_cmp-IsAntisymmetric m n e in
    fronts_decide a b x y
    (λ r q. h r (ap (λ z. z ∷ (a ++ r)) same ∙ ap (λ (l : List ℕ). n ∷ l) q))
    (λ r q. k r (ap (λ z. z ∷ (b ++ r)) (sym same) ∙ ap (λ (l : List ℕ). m ∷ l) q)))

-- lists of one length
pub one_length : (a b : List ℕ) → length a ≡ length b → BeginsOnlyItself a b
one_length a b h [] e = refl
one_length a b h (n ∷ r) e = absurd (omega (arith, h, length-append a (n ∷ r), ap length e))

-- ---- heads

-- the least argument whose shortest head has this width
abbrev least : Width → ℕ
least within = 0
least one_byte = 24
least two_bytes = 2 ^ 8
least four_bytes = 2 ^ 16
least eight_bytes = 2 ^ 32

narrowest-least : (n : ℕ) → least (narrowest n) ≤ n
narrowest-least n = grind (arith, least, narrowest)

-- what stands behind the major type
abbrev behind_major : Width → ℕ → List ℕ → Width → ℕ → List ℕ → Ordering
behind_major f n x g k y = ordering_then (nat_cmp (information f n) (information g k))
    (slice_cmp nat_cmp (argument_bytes f n ++ x) (argument_bytes g k ++ y))

-- the arguments decide, and then what stands behind the heads
abbrev by_arguments : ℕ → List ℕ → ℕ → List ℕ → Ordering
by_arguments n x k y = ordering_then (nat_cmp n k) (slice_cmp nat_cmp x y)

-- arguments of one width behind the initial byte
one_width : (size n k : ℕ) (x y : List ℕ) → n < 256 ^ size → k < 256 ^ size
    → slice_cmp nat_cmp (bytes_high_first size n ++ x) (bytes_high_first size k ++ y) ≡ by_arguments n x k y
one_width size n k x y h l =
    let long : length (bytes_high_first size n) ≡ length (bytes_high_first size k) = length-bytes_high_first size n ∙
    sym (length-bytes_high_first size k) in
    fronts_decide _ _ x y (one_length _ _ long) (one_length _ _ (sym long)) ∙
    ap (λ o. ordering_then o (slice_cmp nat_cmp x y)) (arguments_in_order size n k h l)

-- the information and the arguments decide, and then what stands behind the heads
in_two_widths : (f g : Width) (n k : ℕ) (x y : List ℕ) → n < capacity f → k < capacity g → least f ≤ n → least g ≤ k
    → behind_major f n x g k y ≡ by_arguments n x k y
in_two_widths within within n k x y h l p q = refl
in_two_widths one_byte one_byte n k x y h l p q = refl
in_two_widths two_bytes two_bytes n k x y h l p q = one_width 2 n k x y h l
in_two_widths four_bytes four_bytes n k x y h l p q = one_width 4 n k x y h l
in_two_widths eight_bytes eight_bytes n k x y h l p q = one_width 8 n k x y h l
in_two_widths f g n k x y h l p q = grind (arith, nat_tests, h, l, p, q)

information-below : (f : Width) (n : ℕ) → n < capacity f → information f n < 32
information-below within n h = omega (arith, h)
information-below one_byte n h = lit< tt
information-below two_bytes n h = lit< tt
information-below four_bytes n h = lit< tt
information-below eight_bytes n h = lit< tt

-- two shortest heads before what follows them
pub heads_decide : (major other n k : ℕ) (x y : List ℕ) → n < 2 ^ 64 → k < 2 ^ 64
    → slice_cmp nat_cmp (shortest_head major n ++ x) (shortest_head other k ++ y)
    ≡ ordering_then (ordering_then (nat_cmp major other) (nat_cmp n k)) (slice_cmp nat_cmp x y)
unfolding shortest_head
heads_decide major other n k x y h l =
    let f = narrowest n in
    let g = narrowest k in
    let fits : n < capacity f = narrowest-holds n h in
    let other_fits : k < capacity g = narrowest-holds k l in
    let behind = slice_cmp nat_cmp (argument_bytes f n ++ x) (argument_bytes g k ++ y) in
    ap (λ o. ordering_then o behind) (sym (places major other (information f n) (information g k) 32
    (information-below f n fits) (information-below g k other_fits)))
    ∙ then-then (nat_cmp major other) (nat_cmp (information f n) (information g k)) behind
    ∙ ap (ordering_then (nat_cmp major other)) (in_two_widths f g n k x y fits other_fits (narrowest-least n)
    (narrowest-least k))
    ∙ sym (then-then (nat_cmp major other) (nat_cmp n k) (slice_cmp nat_cmp x y))
