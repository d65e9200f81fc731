-- That known bytes and a limit leave one answer, whatever the scratch, the pieces in which the
-- reader gives them, and the call.
use Rattle.std.specs.Prelude.{◌≡◌, ℕ, ◌⊎◌, List, Option, Some, None, Result, Ok, Err}
use Rattle.ciborium_ll.specs.{Bytes.AreBytes, Refusal.Refusal}
use Rattle.ciborium_value.specs.{Refuses.Refuses, Spelling.any, View.tree_of, declared.tree.Value.Value}
use Rattle.ciborium.specs.{ValueAnswers.{IsFailed, IsRefusedBy}, ValueClauses.TakesValue, declared.de.error.Error.Error}
use Rattle.ciborium.specs.declared.de.error.Error.TheVariants.{Io, Syntax, Semantic, RecursionLimitExceeded, Memory}
use Rattle.ciborium.specs.declared.de.error.Error.TheVariants.{TooLong}
use Rattle.std.specs.declared.io.Error.{Error as IoError}
use Rattle.ciborium_ll.specs.Refusal as refusal

-- what the clauses of a call say of its answer: b were the known bytes, within l levels, and this
-- is left of them
abbrev pub IsReadAnswer : List ℕ → ℕ → Option (List ℕ) → Result Value (Error IoError) → Type 0
IsReadAnswer b l left (Ok v) = TakesValue any b l (tree_of v) left
IsReadAnswer b l left (Err e) = IsRefusedBy left e (λ r. Refuses any b 0 (Some l) r)

-- the refusal that an error names: `Io` is one where the reader came to its end
abbrev pub refusal_of : Error IoError → Option Refusal
refusal_of (Io e) = Some refusal.io
refusal_of (Syntax p) = Some (refusal.syntax p)
refusal_of (Semantic (Some p) k) = Some (refusal.semantic p k)
refusal_of (Semantic None k) = None
refusal_of RecursionLimitExceeded = Some refusal.recursion_limit_exceeded
refusal_of Memory = None
refusal_of TooLong = Some refusal.too_long

-- two answers are alike, with what is left behind each: the same tree and the same bytes, or the
-- same refusal; or a call failed
abbrev pub AreOneAnswer : Option (List ℕ) → Result Value (Error IoError) → Option (List ℕ) →
    Result Value (Error IoError) → Type 0
AreOneAnswer left (Ok v) right (Ok w) = (tree_of v ≡ tree_of w) × (left ≡ right)
AreOneAnswer left (Ok v) right (Err f) = IsFailed right f
AreOneAnswer left (Err e) right (Ok w) = IsFailed left e
AreOneAnswer left (Err e) right (Err f) = IsFailed left e ⊎ IsFailed right f ⊎ (refusal_of e ≡ refusal_of f)

-- any two answers for the same bytes and limit are alike
abbrev pub OneAnswer : Type 0
OneAnswer = (b : List ℕ) (l : ℕ) (left right : Option (List ℕ)) (x y : Result Value (Error IoError)) →
    AreBytes b → IsReadAnswer b l left x → IsReadAnswer b l right y → AreOneAnswer left x right y
