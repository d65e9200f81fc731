-- What is taken where a reader is read.
use Rattle.std.specs.Prelude.{◌≡◌, ℕ, ◌≤◌, Bool, List, [], length, take, Option, Result, Ok, Err}
use Rattle.std.specs.Io.KnownBytes.{IsAtEnd}
use Rattle.ciborium_ll.specs.{declared.cursor.Cursor.Cursor, declared.header.Error.Error, Accesses.HasEnded}
use Rattle.ciborium_ll.specs.{FirstHeads.IsHeadIo, ReaderSteps.Advances}

-- the same reader is read
pub record IsSameCursor {S W K : Type 0} (old new : Cursor S W K) : Type 0 where
  pub reader : new.reader.ghost_name ≡ old.reader.ghost_name
  pub counter : new.counter.ghost_name ≡ old.counter.ghost_name
  pub keep : new.keep.ghost_name ≡ old.keep.ghost_name

-- how many bytes are counted
abbrev pub count_at : {S W K : Type 0} → Cursor S W K → ℕ
count_at c = c.counter.now.count

-- what is unread
abbrev pub left_at : {S W K : Type 0} → (S → Option (List ℕ)) → Cursor S W K → Option (List ℕ)
left_at remaining c = remaining c.reader.now

-- where a call could not be given more, the reader is at its end, unless it can fail before
abbrev pub HasEndedAt : {S W K E : Type 0} → Bool → (S → Option (List ℕ)) → Cursor S W K → Error E → Type 0
HasEndedAt can_fail remaining c e = HasEnded can_fail (left_at remaining c) e

-- some bytes are taken and counted, and P holds of them
abbrev pub Moves : {S W K : Type 0} → (S → Option (List ℕ)) → Cursor S W K → Cursor S W K → (List ℕ → Type 0) → Type 0
Moves remaining old new P = Advances (left_at remaining old) (left_at remaining new) (count_at old) (count_at new) P

-- so many bytes were taken, which stand at the front of the buffer; none came only at the end, or
-- the reader failed
abbrev pub GivesSome : {S W K E : Type 0} → (S → Option (List ℕ)) → Cursor S W K → Cursor S W K →
    List ℕ → Result ℕ (Error E) → Type 0
GivesSome remaining old new buffer (Ok n) = (n ≤ length buffer) ×
    Moves remaining old new (λ b. b ≡ take n buffer) × (n ≡ 0 → IsAtEnd (left_at remaining new))
GivesSome remaining old new buffer (Err e) = Moves remaining old new (λ b. b ≡ []) × IsHeadIo e
