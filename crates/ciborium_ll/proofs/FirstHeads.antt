-- The first head of a reader, from its first read on.
use Rattle.std.proofs.Common.{◌≡◌, ℕ, zero, suc, ◌<◌, ◌≤◌, List, [], ◌∷◌, ◌++◌, length, take, cond, Option, Some, None}
use Rattle.std.proofs.Common.{Result, Ok, Err, IfOk, IfNone, refl, sym, ap, ◌∙◌, subst, arith, lt-ltb}
use Rattle.std.{proofs.KnownBytes.{Consumes-kept, Consumes-nil}, specs.Io.KnownBytes.{IsAtEnd, Keeps}}
use Rattle.ciborium_ll.proofs.{Advancing.{Advances-map, Filled}, Unread.{pulls-head, rest-of}}
use Rattle.ciborium_ll.specs.{Bytes.greatest_offset, FirstHeads.{IsEndOrFault, IsFirstTaken, IsHeadIo, PullsFirstTo}}
use Rattle.ciborium_ll.specs.{ReaderSteps.{Advances, IsHeadTaken}, Refusal.{Refusal, io, syntax, too_long, HeadRefuses}}
use Rattle.ciborium_ll.specs.{Refusal.head_refusal, declared.header.Error.{Error, TheVariants.{Io, Syntax, TooLong}}}
use Rattle.ciborium_ll.specs.declared.header.{Error.TheVariants.Memory, Header.Header}

none-refused : (p : ℕ) → p < greatest_offset → HeadRefuses [] p io
none-refused p h = ap (λ t. cond t (Some io) (Some too_long)) (lt-ltb p greatest_offset h)

-- a reader that failed before anything was taken
pub none-taken : {E : Type 0} (a b : Option (List ℕ)) (p : ℕ) (r : Result (Option Header) (Error E)) (e f : Error E) →
    r ≡ Err e → e ≡ f → IsHeadIo f → p < greatest_offset → Keeps a b → Advances a b p p (λ x. IsFirstTaken x p r)
none-taken a b p r e (Io f) err is by-io room kept = (
  [],
  Consumes-kept a a b [] (Consumes-nil a) kept,
  omega arith,
  subst (λ (z : Result _ _). IsFirstTaken [] p z) (sym err)
      (subst (λ (z : Error _). IsHeadTaken [] p (Err z)) (sym is) (first-io p room)),
  λ k d lt. absurd (omega arith),
)
  where
    first-io : {E : Type 0} {e : E} (p : ℕ) → p < greatest_offset → IsHeadTaken {E = E} [] p (Err (Io e))
    first-io p room = record { answers = none-refused p room; needed = λ k lt. absurd (omega arith) }
none-taken a b p r e (Syntax at) err is by-io room kept = absurd by-io
none-taken a b p r e TooLong err is by-io room kept = absurd by-io
none-taken a b p r e Memory err is by-io room kept = absurd by-io

one-byte : (n : ℕ) (xs : List ℕ) → n ≤ length xs → length xs ≡ 1 → (n ≡ 0 → ⊥) → take n xs ≡ xs
one-byte zero (x ∷ xs) h one some = absurd (some refl)
one-byte (suc zero) (x ∷ []) h one some = refl
one-byte (suc (suc n)) (x ∷ []) h one some = absurd (omega (arith, h))
one-byte n u h one some = absurd (omega (arith, one))

-- it gave the initial byte
pub first-given : (a b : Option (List ℕ)) (p q n : ℕ) (buffer : List ℕ) → p < greatest_offset → (n ≡ 0 → ⊥) →
    length buffer ≡ 1 → n ≤ length buffer → Advances a b p q (λ x. x ≡ take n buffer) →
    Advances a b p q (λ x. Filled x p buffer)
first-given a b p q n buffer room some one fits = Advances-map a b p q (λ x. x ≡ take n buffer) (λ x. Filled x p buffer)
    (λ x h. (h ∙ one-byte n buffer fits one some, omega (arith, one, room)))

-- ---- what is said of all that is unread

pub pulls-first : {E : Type 0} (old new : Option (List ℕ)) (last count : ℕ) (b : List ℕ) (q p : ℕ)
    (result : Result (Option Header) (Error E)) → (q ≡ p) × (old ≡ Some b) → last ≡ q →
    Advances old new q count (λ x. IsFirstTaken {E = E} x q result) → IfOk result (λ o. IfNone o (IsAtEnd new)) →
    PullsFirstTo {E = E} last count new b p result
pulls-first old new last count b q p (Ok None) (at, known) here (x, taken, sum, none, bytes) end =
    let k = rest-of old new b x known taken in
    let left : k.0 ≡ [] = subst IsAtEnd k.1 end in
    (k.2 ∙ ap (λ (z : List ℕ). z ++ k.0) none ∙ left, omega (arith, sum, at, ap length none), k.1 ∙ ap Some left)
pulls-first {E} old new last count b q p (Ok (Some h)) front here taken end =
    pulls-head {E = E} old new last count b q p (Ok h) front here taken
pulls-first {E} old new last count b q p (Err e) front here taken end =
    pulls-head {E = E} old new last count b q p (Err e) front here taken

pub nothing-in : (x r : List ℕ) → [] ≡ x ++ r → x ≡ []
nothing-in [] r e = refl
nothing-in (y ∷ x) r e = absurd cc

-- where nothing is left
pub first-empty : {E : Type 0} (old new : Option (List ℕ)) (q count : ℕ) (result : Result (Option Header) (Error E)) →
    q < greatest_offset → old ≡ Some [] → Advances old new q count (λ x. IsFirstTaken {E = E} x q result) →
    IsEndOrFault {E = E} result
first-empty {E} old new q count result room known (x, taken, sum, t, bytes) =
    let k = rest-of old new [] x known taken in by result
    (subst (λ z. IsFirstTaken {E = E} z q result) (nothing-in x k.0 k.2) t)
  where
    io-only : (o : Option Refusal) → head_refusal [] q ≡ o → Some io ≡ o
    io-only o h = sym (none-refused q room) ∙ h

    by : (result : Result (Option Header) (Error E)) → IsFirstTaken {E = E} [] q result → IsEndOrFault {E = E} result
    by (Ok (Some h)) t = absurd (let never = io-only None t.answers.1 in cc)
    by (Err (Syntax at)) t = absurd (let never = io-only (Some (syntax at)) t.answers in cc)
    by (Err TooLong) t = absurd (let never = io-only (Some too_long) t.answers in cc)
    by (Err Memory) t = t.answers
    by u t = tt
