-- What reading a value promises.
use Rattle.std.specs.Prelude.{◌≡◌, ℕ, ◌+◌, ◌≤◌, List, [], ◌++◌, length, Option, Some, None, Result, Ok, Err}
use Rattle.std.specs.Io.KnownBytes.{Consumes}
use Rattle.ciborium_ll.specs.{Bytes.{AreBytes, greatest_offset}, Refusal.Refusal}
use Rattle.ciborium_value.specs.{Refuses.Refuses, Spelling.{Spelling, IsReadAs}, Tree.Tree}
use Rattle.ciborium.specs.{declared.de.error.Error.Error, declared.de.error.Error.TheVariants.{Io, Syntax, Semantic}}
use Rattle.ciborium.specs.declared.de.error.Error.TheVariants.{Memory, RecursionLimitExceeded, TooLong}
use Rattle.ciborium_ll.specs.Refusal as refusal

-- ---- refusals

-- P holds of the refusal that an error is, which at `Semantic` has an offset; of `Memory` nothing is
-- said. `rest`, what was not taken, matters at `Io` alone, which `IsTakenFrom` does not leave to this
-- line
abbrev pub IsRefusedBy : {E : Type 0} → Option (List ℕ) → Error E → (Refusal → Type 0) → Type 0
IsRefusedBy rest (Io e) P = rest ≡ Some [] → P refusal.io
IsRefusedBy rest (Syntax p) P = P (refusal.syntax p)
IsRefusedBy rest (Semantic (Some p) k) P = P (refusal.semantic p k)
IsRefusedBy rest (Semantic None k) P = ⊥
IsRefusedBy rest RecursionLimitExceeded P = P refusal.recursion_limit_exceeded
IsRefusedBy rest Memory P = Unit {0}
IsRefusedBy rest TooLong P = P refusal.too_long

-- ---- what a call promises

-- A call reads one value in a spelling, within l levels. `before` is what the reader had left, where
-- that is known, `after` what it is left with, which then is known too, and the answer stands by
-- its tree.

-- the bytes s, taken from offset p on, fit the answer: at Ok they are read as it; at `Io` s by itself
-- is refused as `io`, whether or not the reader has bytes left; at another error s ++ c is refused
-- with it for every c
abbrev pub IsTakenFrom : {E : Type 0} → Spelling → ℕ → List ℕ → ℕ → Result Tree (Error E) → Type 0
IsTakenFrom spelling p s l (Ok v) = IsReadAs spelling s p (Some l) v
IsTakenFrom spelling p s l (Err (Io e)) = Refuses spelling s p (Some l) refusal.io
IsTakenFrom spelling p s l (Err e) = (c : List ℕ) → IsRefusedBy (Some c) e (Refuses spelling (s ++ c) p (Some l))

-- some bytes s were taken from offset p on (0 for a call), a beginning of what the reader had left, if
-- known, within the greatest offset; they fit the answer, and each is a byte
abbrev pub TakesBytes : {E : Type 0} → Spelling → ℕ → Option (List ℕ) → ℕ → Option (List ℕ) →
    Result Tree (Error E) → Type 0
TakesBytes spelling p before l after r = (s : List ℕ) ×
    Consumes before after s × (p + length s ≤ greatest_offset) × IsTakenFrom spelling p s l r × AreBytes s

-- the answer is `Memory`, or `Io` while bytes are left (at the reader's end `Io` is a refusal)
abbrev pub IsFailed : {E : Type 0} → Option (List ℕ) → Error E → Type 0
IsFailed after (Io e) = ¬ (after ≡ Some [])
IsFailed after Memory = Unit {0}
IsFailed after _ = ⊥

-- bytes that are read as v stood at the front, and rest followed: they were taken, and v is the
-- answer, or it is one of these errors
abbrev pub GivesTree : {E : Type 0} → Tree → List ℕ → Option (List ℕ) → Result Tree (Error E) → Type 0
GivesTree v rest after (Ok w) = (v ≡ w) × (after ≡ Some rest)
GivesTree v rest after (Err e) = IsFailed after e

-- a good item at the front, offset 0, is taken and its tree answered, or the answer is one of these
-- errors
abbrev pub AnswersGoodItem : {E : Type 0} → Spelling → Option (List ℕ) → ℕ → Option (List ℕ) →
    Result Tree (Error E) → Type 0
AnswersGoodItem spelling before l after r = (b s rest : List ℕ) (v : Tree) →
    before ≡ Some b → IsReadAs spelling s 0 (Some l) v → b ≡ s ++ rest → GivesTree v rest after r
