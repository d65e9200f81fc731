-- What a call puts out, where the writer's bytes are known.
use Rattle.std.specs.{Prelude.{◌≡◌, ℕ, ◌<◌, List, length, take, Option, Result, MatchResult}, Borrow.MutBor}
use Rattle.std.specs.Io.KnownBytes.{Appends}
use Rattle.ciborium_ll.specs.declared.encoder.Encoder.{Encoder}

-- all of the bytes went out at `Ok`; at `Err` a proper beginning of them went out, and nothing else
abbrev pub Writes : {E : Type 0} → Option (List ℕ) → Option (List ℕ) → Result (Unit {0}) E → List ℕ → Type 0
Writes old new result bytes =
    MatchResult result (λ _. Appends old new bytes) (λ _. (k : ℕ) × (k < length bytes) × Appends old new (take k bytes))

-- the writer that an encoder was lent
abbrev pub writer_of : {W : Type 0} → Encoder W → MutBor W
writer_of encoder = encoder.writer

-- the encoder holds the writer that it held, so what is written stays with the one who lent it
abbrev pub HasSameWriter : {W : Type 0} → Encoder W → Encoder W → Type 0
HasSameWriter old new = new.writer.ghost_name ≡ old.writer.ghost_name

-- an encoder writes so
abbrev pub Puts : {W E : Type 0} → (W → Option (List ℕ)) → Encoder W → Encoder W → Result (Unit {0}) E → List ℕ → Type 0
Puts contents old new result bytes = Writes (contents old.writer.now) (contents new.writer.now) result bytes
