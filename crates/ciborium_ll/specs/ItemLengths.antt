-- What stands at the front of some bytes: an item, the beginning of one, or neither (RFC 8949,
-- section 5.3.1, and appendix C).
use Rattle.std.specs.Prelude.{◌≡◌, ℕ, ◌/◌, ◌%◌, ◌<◌, ◌≤◌, true, false, List, [], ◌∷◌, ◌++◌, length, IsUtf8, Option}
use Rattle.std.specs.Prelude.{Some, None, take, Result, Ok, Err}
use Rattle.ciborium_ll.specs.{Head.break_byte, Header.{SpellsHeader, announced_length, is_ill_formed}, Levels.AreItem}
use Rattle.ciborium_ll.specs.{Levels.{AreLeftBehind, behind_head}, Refusal.argument_length}
use Rattle.ciborium_ll.specs.declared.{header.Header.{Header, TheVariants.Text}, item_heads.NoItem.NoItem}
use Rattle.ciborium_ll.specs.declared.item_heads.NoItem.TheVariants.{Incomplete, Malformed, TooDeep}
use Rattle.ciborium_ll.specs.declared.levels.Level.{Level, TheVariants.{ByteChunks, TextChunks}}

-- the bytes are the beginning of a text of n bytes, or all of it
abbrev pub BeginText : ℕ → List ℕ → Type 0
BeginText n b = (t : List ℕ) × (length (b ++ t) ≡ n) × IsUtf8 (b ++ t)

-- the major type of the chunks of which a level consists, where it is an open string
abbrev pub chunk_major : List Level → Option ℕ
chunk_major (ByteChunks ∷ levels) = Some 2
chunk_major (TextChunks ∷ levels) = Some 3
chunk_major _ = None

-- what stands at the front cannot stand where these levels are unfinished, whatever follows
pub data Misfits (levels : List Level) (b : List ℕ) : Type 0 where
  -- no well-formed head stands there (section 3)
  ill_formed : is_ill_formed b ≡ true → Misfits levels b
  -- a head that may not stand there: a break, or no chunk of an open string (section 3.2)
  misplaced : (header : Header) (h r : List ℕ) → SpellsHeader h header → b ≡ h ++ r →
      behind_head header levels ≡ None → Misfits levels b
  -- the initial byte of no chunk of an open string, nor the break (section 3.2.3)
  no_chunk : (x major : ℕ) (r : List ℕ) → b ≡ x ∷ r → chunk_major levels ≡ Some major →
      ¬ (x / 32 ≡ major) → ¬ (x ≡ break_byte) → Misfits levels b
  -- a text of which the payload, as far as it is there, begins no UTF-8 of its length (section 3.1)
  no_text : (n : ℕ) (h r : List ℕ) → SpellsHeader h (Text (Some n)) → b ≡ h ++ r →
      ¬ BeginText n (take n r) → Misfits levels b

-- no item stands at the front, whatever follows
abbrev pub BeginNoItem : List ℕ → Type 0
BeginNoItem b = (t s z : List ℕ) → b ++ t ≡ s ++ z → ¬ AreItem s

-- behind the first p bytes, which are heads and payloads, these levels are unfinished, and r follows
pub record StandsInside (b : List ℕ) (p : ℕ) (levels : List Level) (r : List ℕ) : Type 0 where
  pub before : List ℕ
  pub whole : b ≡ before ++ r
  pub at : length before ≡ p
  pub inside : AreLeftBehind before levels

-- the bytes end inside a head, or before one, or inside the payload of a definite string
pub data EndInside (b : List ℕ) : Type 0 where
  nothing : b ≡ [] → EndInside b
  cut_head : (x : ℕ) (r : List ℕ) → b ≡ x ∷ r → is_ill_formed b ≡ false →
      length r < argument_length (x % 32) → EndInside b
  cut_payload : (header : Header) (h r : List ℕ) → SpellsHeader h header → b ≡ h ++ r →
      length r < announced_length header → EndInside b

-- the head at the front of r enters a level more than are kept: that of the item itself, and 256
-- within it
abbrev pub EntersTooMany : List Level → List ℕ → Type 0
EntersTooMany levels r = (header : Header) × (h : List ℕ) × (s : List ℕ) × (more : List Level) × SpellsHeader h header ×
    (r ≡ h ++ s) × (behind_head header levels ≡ Some more) × (length levels ≡ 257) × (length more ≡ 258)

-- why no item stands at the front of b: b ends inside one, begins none, or enters too many levels
abbrev pub IsNoItem : List ℕ → NoItem → Type 0
IsNoItem b Incomplete = (t : List ℕ) × (0 < length t) × AreItem (b ++ t)
IsNoItem b (Malformed p) = BeginNoItem b × ((levels : List Level) × (r : List ℕ) ×
    StandsInside b p levels r × Misfits levels r)
IsNoItem b (TooDeep p) = (levels : List Level) × (r : List ℕ) × StandsInside b p levels r × EntersTooMany levels r

-- what stands at the front of b is answered so: an item of n bytes, or none
abbrev pub IsLengthOf : List ℕ → Result ℕ NoItem → Type 0
IsLengthOf b (Ok n) = (n ≤ length b) × AreItem (take n b)
IsLengthOf b (Err e) = IsNoItem b e
