-- How far a container is written, part by part, whatever the sink.
use Rattle.std.specs.Prelude.{◌≡◌, ℕ, List, [], ◌∷◌, ◌++◌, length, Option, Some, None, Ok, Err, nat_le, if◌then◌else◌}
use Rattle.ciborium_ll.specs.{Bytes.greatest_offset, Item.Item, declared.kind.Kind.TheVariants.Other}
use Rattle.ciborium_value.specs.{Places.{ContainerType, size_of, Place, within, HasRoom, is_open, IsWhole, Out}}
use Rattle.ciborium_value.specs.Sinks.{all_named, contained, container_of, Cause, value, memory, device, IsReady}
use Rattle.ciborium_value.specs.Sinks.{BreaksNamed, Named}

-- each of the first parts names an item
abbrev pub oks : List Item → List Named
oks [] = []
oks (i ∷ is) = Ok i ∷ oks is

-- as many parts as were announced, or whole pairs in an open map
abbrev pub IsSized : ContainerType → Option ℕ → List Named → Type 0
IsSized s None parts = IsWhole s (length parts)
IsSized s (Some n) parts = length parts ≡ size_of s n

-- a container that was begun with n at old: the parts that are left to write at new
pub record Owes {S : Type 0} (StandsAt : S → Place → Type 0) (s : ContainerType) (n : Option ℕ)
    (parts : List Named) (old new : S) (rest : List Named) : Type 0 where
  pub done : List Item
  pub split : parts ≡ oks done ++ rest
  pub size : IsSized s n parts
  pub inside : (p : Place) → StandsAt old p → HasRoom p → StandsAt new (within s n done p)

-- ---- parts in a row, inside a container that was begun

-- it can take these parts
abbrev pub CanTake : ContainerType → {S : Type 0} → (S → Place → Type 0) → S → List Named → Type 0
CanTake type {S} StandsAt s parts = (n : Option ℕ) × (whole : List Named) ×
    (old : S) × (rest : List Named) × IsReady StandsAt old × Owes StandsAt type n whole old s (parts ++ rest)

-- they are written, and what was left behind them is left
abbrev pub TakesAll : ContainerType → {S : Type 0} → (S → Place → Type 0) → S → S → List Named → Type 0
TakesAll type {S} StandsAt old new parts = (n : Option ℕ) (whole : List Named) (begun : S) (rest : List Named) →
    Owes StandsAt type n whole begun old (parts ++ rest) → Owes StandsAt type n whole begun new rest

-- refused: a proper beginning of the container is out
abbrev pub BreaksAll : ContainerType → {S : Type 0} → (S → Place → Type 0) → (S → Out) → S → S → List Named → Type 0
BreaksAll type {S} StandsAt out old new parts = (n : Option ℕ) (whole : List Named) (begun : S) (rest : List Named) →
    Owes StandsAt type n whole begun old (parts ++ rest) →
    BreaksNamed StandsAt out begun new (contained type (is_open n) (all_named whole))

-- a refusal for a value is the first among the parts
abbrev pub IsOwedAmong : Cause → List Named → Type 0
IsOwedAmong (value k) parts = all_named parts ≡ Err k
IsOwedAmong memory parts = Unit {0}
IsOwedAmong device parts = Unit {0}

-- a count that a head can announce
abbrev pub counted : ℕ → Option ℕ
counted n = if nat_le n greatest_offset then Some n else None

-- the definite container of so many items or pairs
abbrev pub counted_of : ContainerType → ℕ → List Named → Named
counted_of type n parts = if nat_le n greatest_offset then container_of type parts else Err Other
