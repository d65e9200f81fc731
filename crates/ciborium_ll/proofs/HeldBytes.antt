-- Bytes that a reader holds, and how they are taken from there.
use Rattle.std.proofs.Common.{◌≡◌, ℕ, suc, ◌+◌, ◌-◌, ◌<◌, ◌≤◌, List, [], ◌∷◌, ◌++◌, length, length-take-le, get_or}
use Rattle.std.proofs.Common.{take, drop, slice_range, Option, Some, None, IfSome, sym, ap, ◌∙◌, subst, arith}
use Rattle.std.proofs.{Common.take-append-drop, Math.Seq.take-take, lemmas.List.Elements.All-take}
use Rattle.std.specs.{Io.StartsWith, Io.KnownBytes.{Consumes, Keeps}}
use Rattle.ciborium_ll.specs.{Accesses.TakesSome, Bytes.AreBytes, ReaderSteps.Advances}

-- the bytes of a head: the initial byte, and those behind it
pub head-bytes : (n : ℕ) (xs : List ℕ) → 0 < length xs → take (1 + n) xs ≡ get_or xs 0 0 ∷ slice_range xs 1 (1 + n)
head-bytes n [] h = absurd (omega arith)
head-bytes n (x ∷ xs) h =
    let more : 1 + n ≡ suc n = omega arith in
    let same : n ≡ (1 + n) - 1 = omega arith in
    ap (λ k. take k (x ∷ xs)) more ∙ ap (λ k. x ∷ take k xs) same

-- ---- the first of what a reader shows

front-of : (xs held : List ℕ) (n : ℕ) → n ≤ length held → take (length held) xs ≡ held → take n xs ≡ take n held
front-of xs held n fits is = sym (take-take n (length held) xs fits) ∙ ap (take n) is

-- they were consumed
pub dropped : (old mid new : Option (List ℕ)) (limit : Option ℕ) (held : List ℕ) (n : ℕ) → n ≤ length held →
    IfSome old (λ xs. StartsWith xs held) → Keeps old mid × IfSome old (λ _. IfSome limit (λ k. length held ≤ k)) →
    IfSome mid (λ xs. IfSome limit (λ k. n ≤ k) → new ≡ Some (drop n xs)) → Consumes old new (take n held)
dropped None mid new limit held n fits front kept gone = tt
dropped (Some xs) None new limit held n fits front kept gone = absurd kept.0
dropped (Some xs) (Some ys) new limit held n fits front kept gone =
    let is : new ≡ Some (drop n xs) = gone (within limit kept.1) ∙ ap (λ l. Some (drop n l)) kept.0 in
    subst (λ o. Consumes (Some xs) o (take n held)) (sym is)
    (sym (take-append-drop n xs) ∙ ap (λ l. l ++ drop n xs) (front-of xs held n fits front))
  where
    within : (limit : Option ℕ) → IfSome limit (λ k. length held ≤ k) → IfSome limit (λ k. n ≤ k)
    within None k = tt
    within (Some m) k = omega (arith, fits, k)

pub consumed : (old mid new : Option (List ℕ)) (limit : Option ℕ) (held : List ℕ) (n : ℕ) (P : List ℕ → Type 0) →
    n ≤ length held → AreBytes held → IfSome old (λ xs. StartsWith xs held) →
    Keeps old mid × IfSome old (λ _. IfSome limit (λ k. length held ≤ k)) →
    IfSome mid (λ xs. IfSome limit (λ k. n ≤ k) → new ≡ Some (drop n xs)) → P (take n held) → TakesSome old new n P
consumed old mid new limit held n P fits bytes front kept gone h = (
  take n held,
  dropped old mid new limit held n fits front kept gone,
  length-take-le n held fits,
  h,
  All-take (λ x. x < 256) n held bytes,
)

-- they were taken off a slice
pub cut : (held : List ℕ) (n : ℕ) (P : List ℕ → Type 0) → n ≤ length held → AreBytes held → P (take n held) →
    TakesSome (Some held) (Some (drop n held)) n P
cut held n P fits bytes h =
    (take n held, sym (take-append-drop n held), length-take-le n held fits, h, All-take (λ x. x < 256) n held bytes)

-- ---- what was taken is counted

pub counted : (old new : Option (List ℕ)) (p n : ℕ) (P : List ℕ → Type 0) → TakesSome old new n P →
    Advances old new p (p + n) P
counted old new p n P (b, taken, len, h, bytes) = (b, taken, omega (arith, len), h, bytes)
