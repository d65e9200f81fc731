-- The bytes of an item that are copied out of a reader (RFC 8949, section 5.3.1).
use Rattle.std.specs.{Io.KnownBytes.Consumes, Prelude.{◌≡◌, List, [], ◌++◌, ℕ, Option, Some, Result, Ok, Err}}
use Rattle.ciborium_ll.specs.{ItemLengths.IsNoItem, Levels.AreItem, declared.item_bytes.NotCopied.NotCopied}
use Rattle.ciborium_ll.specs.declared.item_bytes.NotCopied.TheVariants.{NoItem, Io, Memory}

-- bytes that a reader began with were taken, and stand behind what a list held: P holds of them
abbrev pub HasCopied : Option (List ℕ) → Option (List ℕ) → List ℕ → List ℕ → (List ℕ → Type 0) → Type 0
HasCopied before after old new P = (copied : List ℕ) × Consumes before after copied × (new ≡ old ++ copied) × P copied

-- what was copied of b is an item, or no item stands at the front of b, or the reader or an
-- allocation failed
abbrev pub IsCopyOf : List ℕ → List ℕ → Result (Unit {0}) NotCopied → Type 0
IsCopyOf b copied (Ok u) = AreItem copied
IsCopyOf b copied (Err (NoItem reason)) = IsNoItem b reason
IsCopyOf b copied (Err (Io e)) = Unit {0}
IsCopyOf b copied (Err Memory) = Unit {0}

-- the reader or an allocation failed
abbrev pub IsFault : NotCopied → Type 0
IsFault (NoItem reason) = ⊥
IsFault (Io e) = Unit {0}
IsFault Memory = Unit {0}

-- known bytes have come to their end
abbrev pub HasEnded : Option (List ℕ) → Option (List ℕ) → Type 0
HasEnded before after = (b : List ℕ) → before ≡ Some b → after ≡ Some []
