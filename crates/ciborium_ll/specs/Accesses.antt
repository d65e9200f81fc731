-- What is taken of a reader that may hand out the bytes that it holds.
use Rattle.std.specs.{Io.KnownBytes.{Consumes, Keeps}, Prelude.{◌≡◌, ℕ, ◌<◌, ◌≤◌, Bool, true, false, List, [], ◌++◌}}
use Rattle.std.specs.Prelude.{length, Option, Some, None, Result, Ok, Err, IfErr}
use Rattle.ciborium_ll.specs.{Bytes.AreBytes, ReaderSteps.IsHeadTaken, declared.header.Error.{Error, TheVariants.Io}}
use Rattle.ciborium_ll.specs.declared.header.{Error.TheVariants.{Syntax, TooLong, Memory}, Header.Header}

-- what may be left where a call could not be given more: nothing of a reader that cannot fail
-- before its end
abbrev pub left_at_failure : Bool → Option (List ℕ) → Option (List ℕ)
left_at_failure true left = left
left_at_failure false left = Some []

-- a reader that gave no more is at its end, unless it can fail before
abbrev pub IsUsedUp : Bool → Option (List ℕ) → Type 0
IsUsedUp can_fail left = can_fail ≡ false → left ≡ Some []

-- where a call could not be given more, the reader is at its end, unless it can fail before
abbrev pub HasEnded : {E : Type 0} → Bool → Option (List ℕ) → Error E → Type 0
HasEnded can_fail left (Io e) = IsUsedUp can_fail left
HasEnded can_fail left (Syntax p) = Unit {0}
HasEnded can_fail left TooLong = Unit {0}
HasEnded can_fail left Memory = Unit {0}

-- the same of a read into a buffer of this length
abbrev pub HasReadToEnd : {E : Type 0} → Bool → Option (List ℕ) → ℕ → Result ℕ E → Type 0
HasReadToEnd can_fail left room (Ok n) = n ≡ 0 → 0 < room → IsUsedUp can_fail left
HasReadToEnd can_fail left room (Err e) = IsUsedUp can_fail left

-- n bytes were taken, and P holds of them
abbrev pub TakesSome : Option (List ℕ) → Option (List ℕ) → ℕ → (List ℕ → Type 0) → Type 0
TakesSome old new n P = (b : List ℕ) × Consumes old new b × (length b ≡ n) × P b × AreBytes b

-- the n bytes of the head that begins at offset p were taken, which is answered so
pub record TakesHeldHead {E : Type 0} (old new : Option (List ℕ)) (can_fail : Bool) (p n : ℕ)
    (r : Result Header (Error E)) : Type 0 where
  pub taken : TakesSome old new n (λ b. IsHeadTaken b p r)
  pub ended : IfErr r (HasEnded can_fail new)

-- so many bytes, of at most `most`, were taken and appended: none only at the end; where none can
-- be handed out, or the call is refused, none was
abbrev pub AppendsHeld : {E : Type 0} → Option (List ℕ) → Option (List ℕ) → Bool → ℕ →
    Result (Option ℕ) (Error E) → List ℕ → List ℕ → Type 0
AppendsHeld old new can_fail most (Ok None) before after = Keeps old new × (after ≡ before)
AppendsHeld old new can_fail most (Ok (Some n)) before after = (n ≤ most) ×
    TakesSome old new n (λ b. after ≡ before ++ b) × (n ≡ 0 → 0 < most → IsUsedUp can_fail new)
AppendsHeld old new can_fail most (Err (Io e)) before after = Keeps old new × (after ≡ before) × IsUsedUp can_fail new
AppendsHeld old new can_fail most (Err (Syntax p)) before after = ⊥
AppendsHeld old new can_fail most (Err TooLong) before after = ⊥
AppendsHeld old new can_fail most (Err Memory) before after = Keeps old new × (after ≡ before)

-- the n bytes at the front were taken, of which this was made; where they are not held whole, or
-- the call is refused, none was
abbrev pub VisitsHeld : {V E : Type 0} → Option (List ℕ) → Option (List ℕ) → Bool → ℕ →
    (List ℕ → V → Type 0) → Option (Result V (Error E)) → Type 0
VisitsHeld old new can_fail n Makes None = Keeps old new
VisitsHeld old new can_fail n Makes (Some (Ok v)) = TakesSome old new n (λ b. Makes b v)
VisitsHeld old new can_fail n Makes (Some (Err (Io e))) = Keeps old new × (0 < n) × IsUsedUp can_fail new
VisitsHeld old new can_fail n Makes (Some (Err (Syntax p))) = ⊥
VisitsHeld old new can_fail n Makes (Some (Err TooLong)) = ⊥
VisitsHeld old new can_fail n Makes (Some (Err Memory)) = ⊥
