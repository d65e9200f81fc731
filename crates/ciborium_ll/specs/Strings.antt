-- What calls that append the payload of a string take, and what they append (RFC 8949, sections 3.1
-- and 3.2.3).
use Rattle.std.specs.Prelude.{◌≡◌, ◌≢◌, ℕ, ◌+◌, ◌<◌, ◌≤◌, ◌⊎◌, List, [], ◌∷◌, ◌++◌, length, Option, Some, None, Result}
use Rattle.std.specs.Prelude.{Ok, Err}
use Rattle.ciborium_ll.specs.{Bytes.greatest_offset, Head.break_byte, ReaderSteps.IsHeadTaken, Spells.AreChunks}
use Rattle.ciborium_ll.specs.{Refusal.{Refusal, too_long}, Spells.joined, declared.header.Error.Error}
use Rattle.ciborium_ll.specs.StringRefusal.{string_major, IsAllowed, PayloadRefuses, ChunksRefuse}
use Rattle.ciborium_ll.specs.declared.header.{Error.TheVariants.{Io, Syntax, TooLong, Memory}, Header.Header}
use Rattle.ciborium_ll.specs.declared.strings.{Chunk.{Chunk, TheVariants.{End, Definite, Other}}, StringType.StringType}
use Rattle.ciborium_ll.specs.declared.header.Header.TheVariants as header

-- the head of a definite string of a type
abbrev pub string_header : StringType → ℕ → Header
string_header StringType.Bytes n = header.Bytes (Some n)
string_header StringType.Text n = header.Text (Some n)

-- what a head is inside an open string
abbrev pub IsChunk : StringType → Header → Chunk → Type 0
IsChunk type h End = h ≡ header.Break
IsChunk type h (Definite n) = h ≡ string_header type n
IsChunk type h Other = (h ≢ header.Break) × ((n : ℕ) → h ≢ string_header type n)

-- bytes were put behind old ones
abbrev pub Extends : List ℕ → List ℕ → Type 0
Extends old new = (added : List ℕ) × (new ≡ old ++ added)

-- bytes were put behind old ones, and P holds of them
abbrev pub Grows : List ℕ → List ℕ → (List ℕ → Type 0) → Type 0
Grows old new P = (added : List ℕ) × (new ≡ old ++ added) × P added

-- b is taken where some of n bytes are appended: at Ok so many, and one at least; refused fewer
-- were, or an allocation failed
abbrev pub IsSomeTaken : {E : Type 0} → ℕ → List ℕ → Result ℕ (Error E) → List ℕ → List ℕ → Type 0
IsSomeTaken n b (Ok size) old new = (0 < size) × (size ≤ n) × (length b ≡ size) × (new ≡ old ++ b)
IsSomeTaken n b (Err (Io e)) old new = (length b < n) × (new ≡ old)
IsSomeTaken n b (Err (Syntax at)) old new = ⊥
IsSomeTaken n b (Err TooLong) old new = ⊥
IsSomeTaken n b (Err Memory) old new = (length b ≤ n) × (new ≡ old)

-- b is taken where n bytes are appended as they come: at Ok they were taken and appended, refused
-- fewer were, or an allocation failed
abbrev pub IsPiecesTaken : {E : Type 0} → ℕ → List ℕ → Result (Unit {0}) (Error E) → List ℕ → List ℕ → Type 0
IsPiecesTaken n b (Ok u) old new = (length b ≡ n) × (new ≡ old ++ b)
IsPiecesTaken n b (Err (Io e)) old new = (length b < n) × Extends old new
IsPiecesTaken n b (Err (Syntax at)) old new = ⊥
IsPiecesTaken n b (Err TooLong) old new = ⊥
IsPiecesTaken n b (Err Memory) old new = (length b ≤ n) × Extends old new

-- b is taken where the payload, of n bytes, of a definite string is appended whose head is at
-- offset p: all of it is added, or
-- nothing
abbrev pub IsPayloadTaken : {E : Type 0} → StringType → ℕ → ℕ → List ℕ → Result (Unit {0}) (Error E) → List ℕ → Type 0
IsPayloadTaken type n p b (Ok u) added = (length b ≡ n) × IsAllowed type b × (added ≡ b)
IsPayloadTaken type n p b (Err (Io e)) added = (length b < n) × (added ≡ [])
IsPayloadTaken type n p b (Err (Syntax at)) added = (at ≡ p) × (length b ≡ n) × ¬ IsAllowed type b × (added ≡ [])
IsPayloadTaken type n p b (Err TooLong) added = ⊥
IsPayloadTaken type n p b (Err Memory) added = (length b ≤ n) × (added ≡ [])

-- b is taken at offset p, where a chunk of an open string is refused: its head is, or it is no
-- chunk, or its payload is
abbrev pub IsChunkTaken : {E : Type 0} → StringType → List ℕ → ℕ → Error E → Type 0
IsChunkTaken {E} type b p e = IsHeadTaken {E = E} b p (Err e) ⊎
    ((h : Header) × IsHeadTaken {E = E} b p (Ok h) × IsChunk type h Other × (e ≡ Syntax p)) ⊎
    ((n : ℕ) × (s : List ℕ) × (r : List ℕ) × (b ≡ s ++ r) ×
    IsHeadTaken {E = E} s p (Ok (string_header type n)) × IsPayloadTaken {E = E} type n p r (Err e) [])

-- b is taken at offset p, where the chunks of an open string are appended: good chunks, and then
-- the break, or a chunk that is refused
abbrev pub AreChunksTaken : {E : Type 0} → StringType → List ℕ → ℕ → Result (Unit {0}) (Error E) → List ℕ → Type 0
AreChunksTaken type b p (Ok u) added =
    (payloads : List (List ℕ)) × (s : List ℕ) × AreChunks (string_major type) (IsAllowed type) s payloads ×
    (p + length b ≤ greatest_offset) × (b ≡ s ++ break_byte ∷ []) × (added ≡ joined payloads)
AreChunksTaken type b p (Err e) added = (payloads : List (List ℕ)) ×
    (s : List ℕ) × AreChunks (string_major type) (IsAllowed type) s payloads × (p + length s ≤ greatest_offset) ×
    ((r : List ℕ) × (b ≡ s ++ r) × IsChunkTaken type r (p + length s) e) × (added ≡ joined payloads)

-- b is taken at offset q, where the payload of a string of this length (None: open) is appended,
-- whose head is at offset p
abbrev pub IsStringTaken : {E : Type 0} → StringType → Option ℕ → ℕ → List ℕ → ℕ →
    Result (Unit {0}) (Error E) → List ℕ → Type 0
IsStringTaken type (Some n) p b q r added = ((greatest_offset < q + n) × (r ≡ Err TooLong) × (added ≡ []) × (b ≡ [])) ⊎
    ((q + n ≤ greatest_offset) × IsPayloadTaken type n p b r added)
IsStringTaken type None p b q r added = AreChunksTaken type b q r added

-- what follows the head at offset p of a string of this length (None: open) refuses, its first byte
-- at offset q
abbrev pub ContentRefuses : StringType → Option ℕ → ℕ → List ℕ → ℕ → Refusal → Type 0
ContentRefuses type (Some n) p b q e = ((greatest_offset < q + n) × (e ≡ too_long)) ⊎
    ((q + n ≤ greatest_offset) × PayloadRefuses type n p b e)
ContentRefuses type None p b q e = ChunksRefuse type b q e
