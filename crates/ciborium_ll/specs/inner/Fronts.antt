-- What stands at the front of bytes that are held.
use Rattle.std.specs.Prelude.{◌≡◌, ℕ, ◌/◌, ◌%◌, ◌<◌, ◌≤◌, ◌⊎◌, true, false, List, [], ◌∷◌, length, take, Some}
use Rattle.ciborium_ll.specs.{Bytes.AreBytes, Header.{SpellsHeader, is_ill_formed}, ItemLengths.BeginText}
use Rattle.ciborium_ll.specs.{ItemLengths.chunk_major, Levels.IsPayloadOf, Refusal.argument_length}
use Rattle.ciborium_ll.specs.declared.{header.Header.{Header, TheVariants.{Bytes, Text}}, item_heads.Front.Front}
use Rattle.ciborium_ll.specs.declared.item_heads.{Front.TheVariants.{Head, IllFormed, Cut}, Payload.Payload}
use Rattle.ciborium_ll.specs.declared.levels.Level.{Level}
use Rattle.ciborium_ll.specs.declared.item_heads.Payload.TheVariants as payload

-- the bytes end before a head does that may begin with them
abbrev pub IsCut : List ℕ → Type 0
IsCut b = (b ≡ []) ⊎ ((x : ℕ) × (s : List ℕ) × (b ≡ x ∷ s) × (is_ill_formed b ≡ false) ×
    (length s < argument_length (x % 32)))

-- a head of so many bytes, no well-formed one, or one that is cut
abbrev pub IsFront : List ℕ → Front → Type 0
IsFront b (Head header size) = SpellsHeader (take size b) header × (size ≤ length b)
IsFront b IllFormed = is_ill_formed b ≡ true
IsFront b Cut = IsCut b

-- the beginning of a definite string's payload, and not all of it
abbrev pub IsCutPayload : Header → List ℕ → Type 0
IsCutPayload (Bytes (Some n)) b = (length b < n) × AreBytes b
IsCutPayload (Text (Some n)) b = (length b < n) × BeginText n b
IsCutPayload _ b = ⊥

-- what stands behind the head of a text begins none of its length
abbrev pub IsNoText : Header → List ℕ → Type 0
IsNoText header b = (n : ℕ) × (header ≡ Text (Some n)) × ¬ BeginText n (take n b)

-- what stands behind a head is its payload in the first so many bytes, the beginning of that, or
-- what begins no text of the length that the head announces
abbrev pub IsPayloadAt : Header → List ℕ → Payload → Type 0
IsPayloadAt header b (payload.Whole n) = (n ≤ length b) × IsPayloadOf header (take n b)
IsPayloadAt header b payload.Cut = IsCutPayload header b
IsPayloadAt header b payload.NotText = IsNoText header b

-- the first byte is that of no part of the open string that is the innermost level
abbrev pub IsNoChunk : List Level → List ℕ → Type 0
IsNoChunk levels b = (x : ℕ) × (major : ℕ) × (r : List ℕ) × (b ≡ x ∷ r) ×
    (chunk_major levels ≡ Some major) × ¬ (x / 32 ≡ major)

abbrev pub MayBeChunk : List Level → List ℕ → Type 0
MayBeChunk levels b = (x major : ℕ) (r : List ℕ) → b ≡ x ∷ r → chunk_major levels ≡ Some major → x / 32 ≡ major
