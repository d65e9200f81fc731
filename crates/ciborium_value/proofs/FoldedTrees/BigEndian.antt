-- Big-endian numbers, one byte after another.
use Rattle.std.proofs.Common.{◌≡◌, ℕ, ◌+◌, ◌*◌, ◌^◌, ◌<◌, ◌≤◌, List, [], ◌∷◌, ◌++◌, Fits, refl, ap, ◌∙◌, arith, lit<}
use Rattle.std.{proofs.{Common.add-one, Math.{Facts.Fits-of_lt, Nat.{pow-le-pow_right, pow-suc}}}, specs.Int.w128}
use Rattle.ciborium_value.specs.Meaning.{big_endian_behind, big_endian}

pub big_endian_behind-more : (n : ℕ) (bs : List ℕ) (b : ℕ) →
    big_endian_behind n (bs ++ b ∷ []) ≡ 256 * big_endian_behind n bs + b
unfolding big_endian_behind
big_endian_behind-more n [] b = refl
big_endian_behind-more n (x ∷ bs) b = big_endian_behind-more (256 * n + x) bs b

pub big_endian-none : big_endian [] ≡ 0
unfolding big_endian_behind
big_endian-none = refl

pub bound-more : (n b i : ℕ) → n < 256 ^ i → b < 256 → n * 256 + b < 256 ^ (i + 1)
bound-more n b i h k =
    let e : 256 ^ (i + 1) ≡ 256 ^ i * 256 = ap (λ k. 256 ^ k) (add-one i) ∙ pow-suc 256 i in
    omega arith

pub bound-fits : (n b i : ℕ) → n < 256 ^ i → i < 16 → b < 256 → Fits w128 (n * 256 + b)
bound-fits n b i h lt k =
    let e : 256 ^ i ≤ 256 ^ 15 = pow-le-pow_right {n = 256} (lit< tt) {i = i} {j = 15} (omega arith) in
    let f : 256 ^ 15 * 256 ≡ 2 ^ 128 = refl in
    let g : n < 256 ^ 15 = omega arith in
    let x : n * 256 + b < 2 ^ 128 = omega arith in
    Fits-of_lt x
