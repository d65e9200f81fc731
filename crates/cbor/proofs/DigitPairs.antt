-- A pair of hex digits by the values of both.
use Rattle.std.proofs.Common.{◌≡◌, ℕ, ◌+◌, ◌*◌, ◌<◌, Option, Some, None, Result, Ok, Err, IsErr, MatchOption, refl, sym}
use Rattle.std.proofs.Common.{ap, arith}
use Rattle.hex.specs.Hex.{digit_or_error, hex_digit_value, pair_value, value_at, ◌>>=◌}
use Rattle.hex.specs.declared.error.FromHexError.{FromHexError}

-- v is the value of a digit, or 16 where there is none
abbrev pub IsValue : ℕ → ℕ → Type 0
IsValue c v = MatchOption (hex_digit_value c) (v ≡ 16) (λ k. (v ≡ k) × (k < 16))

good : (c i v : ℕ) (o : Option ℕ) → MatchOption o (v ≡ 16) (λ k. (v ≡ k) × (k < 16)) → (v ≡ 16 → ⊥) →
    digit_or_error c i o ≡ Ok v
good c i v None h f = absurd (f h)
good c i v (Some k) h f = ap Ok (sym h.0)

bad : (c i v : ℕ) (o : Option ℕ) → MatchOption o (v ≡ 16) (λ k. (v ≡ k) × (k < 16)) → v ≡ 16 →
    IsErr (digit_or_error c i o)
bad c i v None h f = refl
bad c i v (Some k) h f = absurd (let same = h.0 in let less = h.1 in omega (arith, same, less, f))

-- two digits
pub pair-read : (a b i v w : ℕ) → IsValue a v → IsValue b w → (v ≡ 16 → ⊥) → (w ≡ 16 → ⊥) →
    pair_value a b i ≡ Ok (v * 16 + w)
pair-read a b i v w h k f g =
    let first : value_at a i ≡ Ok v = good a i v (hex_digit_value a) h f in
    let second : value_at b (i + 1) ≡ Ok w = good b (i + 1) w (hex_digit_value b) k g in
    rw (first, second) refl

after : (r : Result ℕ FromHexError) (f : ℕ → Result ℕ FromHexError) → IsErr r → IsErr (r >>= f)
after (Ok v) f h = absurd cc
after (Err e) f h = refl

behind : (r s : Result ℕ FromHexError) (f : ℕ → ℕ → ℕ) → IsErr s → IsErr (r >>= (λ v. s >>= (λ w. Ok (f v w))))
behind (Ok v) s f h = after s (λ w. Ok (f v w)) h
behind (Err e) s f h = refl

-- the first is no digit
pub first-bad : (a b i v : ℕ) → IsValue a v → v ≡ 16 → IsErr (pair_value a b i)
first-bad a b i v h f = after (value_at a i) (λ x. value_at b (i + 1) >>= (λ y. Ok (x * 16 + y)))
    (bad a i v (hex_digit_value a) h f)

-- the second is none
pub second-bad : (a b i w : ℕ) → IsValue b w → w ≡ 16 → IsErr (pair_value a b i)
second-bad a b i w h f = behind (value_at a i) (value_at b (i + 1)) (λ x y. x * 16 + y)
    (bad b (i + 1) w (hex_digit_value b) h f)

-- what a refusal is
pub error-of : {A E : Type 0} (r : Result A E) → IsErr r → (e : E) × (r ≡ Err e)
error-of (Ok v) h = absurd cc
error-of (Err e) h = (e, refl)

pub is-error : {A E : Type 0} (r : Result A E) (e : E) → r ≡ Err e → IsErr r
is-error (Ok v) e h = absurd cc
is-error (Err x) e h = refl
