-- The laws of the shortest head.
use Rattle.std.proofs.Common.{◌≡◌, ℕ, suc, ◌^◌, ◌<◌, ◌≤◌, length, refl, ap, ◌∙◌, arith}
use Rattle.ciborium_ll.specs.Head.{Width, within, capacity, argument_bytes, head_in, narrowest, shortest_head}
use Rattle.ciborium_ll.specs.laws.SpellingLaws.{ShortestIsHead, NoneIsShorter, NoOtherIsAsShort}

-- the narrowest width holds its number
pub narrowest-holds : (n : ℕ) → n < 2 ^ 64 → n < capacity (narrowest n)
narrowest-holds n h = grind (arith, capacity, narrowest)

-- no width that holds a number is narrower
narrowest-length : (w : Width) (n : ℕ) → n < capacity w →
    length (argument_bytes (narrowest n) n) ≤ length (argument_bytes w n)
narrowest-length u n h = grind (arith, h)

-- a width that is as narrow is the narrowest
narrowest-only : (w : Width) (n : ℕ) → n < capacity w →
    length (argument_bytes w n) ≤ length (argument_bytes (narrowest n) n) → w ≡ narrowest n
narrowest-only within n h k = grind (arith, h)
narrowest-only u n h k = grind (arith, h, k)

pub shortest_is_head : ShortestIsHead
unfolding shortest_head
shortest_is_head major n h = (narrowest n, narrowest-holds n h, refl)

pub none_is_shorter : NoneIsShorter
unfolding shortest_head
none_is_shorter b major n (w, h, e) =
    let l : length b ≡ suc (length (argument_bytes w n)) = ap length e in omega (arith, l, narrowest-length w n h)

pub no_other_is_as_short : NoOtherIsAsShort
unfolding shortest_head
no_other_is_as_short b major n (w, h, e) le =
    let l : length b ≡ suc (length (argument_bytes w n)) = ap length e in
    e ∙ ap (λ v. head_in v major n) (narrowest-only w n h (omega (arith, l, le)))
