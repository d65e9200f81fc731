-- The heads that a `Header` stands for (RFC 8949, section 3).
use Rattle.std.specs.Prelude.{◌≡◌, ℕ, ◌<◌, ◌≤◌, ◌/◌, ◌%◌, ◌⊎◌, List, [], ◌∷◌, length, Option, Some, None, Bool}
use Rattle.std.specs.Prelude.{false, ◌||◌}
use Rattle.ciborium_ll.specs.Head.{IsHead, shortest_head, open_byte, break_byte, IsSimple, simple_bytes, IsFloat}
use Rattle.ciborium_ll.specs.Refusal.{is_reserved, is_low_simple}
use Rattle.ciborium_ll.specs.{ProperItems.IsArgument, declared.header.Header.{Header, TheVariants.{Positive, Negative}}}
use Rattle.ciborium_ll.specs.declared.header.Header.TheVariants.{Bytes, Text, Array, Map, Tag, Simple, Float, Break}

-- b is a head of the major type with this length or count, or the initial byte of an open item
abbrev pub IsCounted : List ℕ → ℕ → Option ℕ → Type 0
IsCounted b major (Some n) = IsHead b major n
IsCounted b major None = b ≡ open_byte major ∷ []

-- b is a float of so many raw bytes
abbrev pub IsFloatOf : List ℕ → ℕ → Type 0
IsFloatOf b size = (raw : List ℕ) × IsFloat b raw × (length raw ≡ size)

-- the whole byte list b spells the head
abbrev pub SpellsHeader : List ℕ → Header → Type 0
SpellsHeader b (Positive n) = IsHead b 0 n
SpellsHeader b (Negative n) = IsHead b 1 n
SpellsHeader b (Bytes n) = IsCounted b 2 n
SpellsHeader b (Text n) = IsCounted b 3 n
SpellsHeader b (Array n) = IsCounted b 4 n
SpellsHeader b (Map n) = IsCounted b 5 n
SpellsHeader b (Tag n) = IsHead b 6 n
SpellsHeader b (Simple n) = IsSimple b n
SpellsHeader b (Float size) = IsFloatOf b size
SpellsHeader b Break = b ≡ break_byte ∷ []

-- the payload that a definite string's head announces, and 0 for every other head
abbrev pub announced_length : Header → ℕ
announced_length (Bytes (Some n)) = n
announced_length (Text (Some n)) = n
announced_length _ = 0

-- the shortest head with this length or count, or the initial byte of an open item
abbrev pub counted_bytes : ℕ → Option ℕ → List ℕ
counted_bytes major (Some n) = shortest_head major n
counted_bytes major None = open_byte major ∷ []

-- the shortest spelling of a head (section 4.1); a float's raw bytes are not in its `Header`, so it
-- has none
abbrev pub header_bytes : Header → List ℕ
header_bytes (Positive n) = shortest_head 0 n
header_bytes (Negative n) = shortest_head 1 n
header_bytes (Bytes n) = counted_bytes 2 n
header_bytes (Text n) = counted_bytes 3 n
header_bytes (Array n) = counted_bytes 4 n
header_bytes (Map n) = counted_bytes 5 n
header_bytes (Tag n) = shortest_head 6 n
header_bytes (Simple n) = simple_bytes n
header_bytes (Float size) = []
header_bytes Break = break_byte ∷ []

-- a `Header` that says all of its head and that can be spelled
abbrev pub IsWritable : Header → Type 0
IsWritable (Simple n) = (n < 24) ⊎ (32 ≤ n)
IsWritable (Float size) = ⊥
IsWritable _ = Unit {0}

-- a length or count that its field holds
abbrev pub IsProperCount : Option ℕ → Type 0
IsProperCount (Some n) = IsArgument n
IsProperCount None = Unit {0}

-- a `Header` whose numbers its fields hold
abbrev pub IsProperHeader : Header → Type 0
IsProperHeader (Positive n) = IsArgument n
IsProperHeader (Negative n) = IsArgument n
IsProperHeader (Bytes n) = IsProperCount n
IsProperHeader (Text n) = IsProperCount n
IsProperHeader (Array n) = IsProperCount n
IsProperHeader (Map n) = IsProperCount n
IsProperHeader (Tag n) = IsArgument n
IsProperHeader (Simple n) = n < 256
IsProperHeader (Float size) = size < 256
IsProperHeader Break = Unit {0}

-- whether these bytes begin with no well-formed head, whatever follows
abbrev pub is_ill_formed : List ℕ → Bool
is_ill_formed [] = false
is_ill_formed (first ∷ b) = is_reserved (first / 32) (first % 32) || is_low_simple first b
