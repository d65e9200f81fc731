-- The bytes of a bignum hold its number.
use Rattle.std.proofs.Common.{◌≡◌, ℕ, zero, suc, ◌-◌, List, [], ◌∷◌, length, drop, refl, sym, ap, ◌∙◌, arith}
use Rattle.ciborium_value.specs.{Meaning.without_zeros, lemmas.ReadsBackBignums.{stays, length-without_zeros}}

-- what is left behind the leading zeros, by their number
pub zeros_dropped : (bs : List ℕ) → drop (length bs - length (without_zeros bs)) bs ≡ without_zeros bs
zeros_dropped [] = refl
zeros_dropped (zero ∷ bs) =
    let less = length-without_zeros bs in
    let one_more : suc (length bs) - length (without_zeros bs) ≡ suc (length bs - length (without_zeros bs)) =
    omega (arith, less) in
    ap (λ n. drop n (zero ∷ bs)) one_more ∙ zeros_dropped bs
zeros_dropped (suc b ∷ bs) =
    let none : length (suc b ∷ bs) - length (without_zeros (suc b ∷ bs)) ≡ 0 = rw (stays b bs) (omega arith) in
    ap (λ n. drop n (suc b ∷ bs)) none ∙ sym (stays b bs)

-- bytes of which none is a leading zero
pub zeros_absent : (bs : List ℕ) → length (without_zeros bs) ≡ length bs → without_zeros bs ≡ bs
zeros_absent [] e = refl
zeros_absent (zero ∷ bs) e = let less = length-without_zeros bs in absurd (omega (arith, less, e))
zeros_absent (suc b ∷ bs) e = stays b bs
