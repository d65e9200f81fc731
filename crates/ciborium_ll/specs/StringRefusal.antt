-- When a string is refused whose head is usable (RFC 8949, sections 3.1 and 3.2.3).
use Rattle.std.specs.Prelude.{◌≡◌, ℕ, ◌+◌, ◌<◌, ◌≤◌, List, ◌∷◌, ◌++◌, length, IsUtf8}
use Rattle.ciborium_ll.specs.{Bytes.{AreBytes, greatest_offset}, Head.{open_byte, break_byte}, Spells.AreChunks}
use Rattle.ciborium_ll.specs.declared.strings.StringType.{StringType}
use Rattle.ciborium_ll.specs.Refusal.{Refusal, io, syntax, HeadRefuses, IsUsable, HasHead, IsAtFront}

-- the major type of a string
abbrev pub string_major : StringType → ℕ
string_major StringType.Bytes = 2
string_major StringType.Text = 3

-- what a definite string of a type may hold
abbrev pub IsAllowed : StringType → List ℕ → Type 0
IsAllowed StringType.Bytes payload = AreBytes payload
IsAllowed StringType.Text payload = IsUtf8 payload

-- what is left refuses as the payload, of n bytes, of a definite string whose head is at offset p:
-- it ends early, or it was read whole and is a text that is not UTF-8 (bytes always are)
pub data PayloadRefuses (type : StringType) (n p : ℕ) : List ℕ → Refusal → Type 0 where
  ends_early : {r : List ℕ} → length r < n → PayloadRefuses type n p r io
  not_allowed : (payload r : List ℕ) → length payload ≡ n → ¬ IsAllowed type payload →
      PayloadRefuses type n p (payload ++ r) (syntax p)

-- a definite string at offset p: its payload refuses
abbrev pub StringRefuses : StringType → List ℕ → ℕ → Refusal → Type 0
StringRefuses type b p e = (n : ℕ) × (size : ℕ) × (r : List ℕ) × HasHead b (string_major type) n size r ×
    PayloadRefuses type n p r e

-- a definite string of a type begins here
abbrev pub HasStringHead : StringType → List ℕ → Type 0
HasStringHead type b = (n : ℕ) × (size : ℕ) × (r : List ℕ) × HasHead b (string_major type) n size r

-- a chunk of an open string at offset p: its head refuses, it refuses as a string of the type, or
-- it is neither such a string nor the break
pub data ChunkRefuses (type : StringType) : List ℕ → ℕ → Refusal → Type 0 where
  no_head : {b p e : _} → HeadRefuses b p e → ChunkRefuses type b p e
  chunk : {b p e : _} → IsUsable b p → StringRefuses type b p e → ChunkRefuses type b p e
  other : {b p : _} →
      IsUsable b p → ¬ HasStringHead type b → ¬ IsAtFront break_byte b → ChunkRefuses type b p (syntax p)

-- what is left, from offset p on, refuses as the chunks of an open string: behind whole chunks,
-- which end within the greatest offset, a chunk refuses
abbrev pub ChunksRefuse : StringType → List ℕ → ℕ → Refusal → Type 0
ChunksRefuse type b p e = (good : List ℕ) ×
    (payloads : List (List ℕ)) × (r : List ℕ) × AreChunks (string_major type) (IsAllowed type) good payloads ×
    (p + length good ≤ greatest_offset) × (b ≡ good ++ r) × ChunkRefuses type r (p + length good) e

-- an open string at offset p: its chunks refuse
abbrev pub OpenStringRefuses : StringType → List ℕ → ℕ → Refusal → Type 0
OpenStringRefuses type b p e = (r : List ℕ) × (b ≡ open_byte (string_major type) ∷ r) × ChunksRefuse type r (p + 1) e
