-- What was read into a buffer.
use Rattle.std.proofs.Common.{◌≡◌, ℕ, ◌+◌, ◌<◌, ◌≤◌, List, length, length-take-le, get_or, take, Option, refl, arith}
use Rattle.std.proofs.{Common.{Fits, w8}, lemmas.List.Elements.{All-from_get_or, All-take}}
use Rattle.std.specs.Io.KnownBytes.{Consumes, IsAtEnd}
use Rattle.ciborium_ll.specs.{Bytes.AreBytes, ReaderSteps.Advances}

-- a buffer of bytes holds bytes
pub are-bytes : (xs : List ℕ) → ((i : ℕ) → Fits w8 (get_or xs i 0)) → AreBytes xs
are-bytes xs fits = All-from_get_or (λ x. x < 256) xs 0 (λ i h. let f = fits i in omega (arith, f))

-- n bytes of it were read
pub some-read : (o r : Option (List ℕ)) (p n : ℕ) (buffer : List ℕ) → n ≤ length buffer →
    Consumes o r (take n buffer) × (n ≡ 0 → 0 < length buffer → IsAtEnd r) → ((i : ℕ) → Fits w8 (get_or buffer i 0)) →
    0 < length buffer → (n ≤ length buffer) × Advances o r p (p + n) (λ b. b ≡ take n buffer) × (n ≡ 0 → IsAtEnd r)
some-read o r p n buffer fits (taken, end) bytes some = (
  fits,
  (
    take n buffer,
    taken,
    (let len = length-take-le n buffer fits in omega (arith, len)),
    refl,
    All-take (λ x. x < 256) n buffer (are-bytes buffer bytes),
  ),
  λ z. end z some,
)
