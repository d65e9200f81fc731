-- What an annotated dump of an item shows: a line for each of its heads, and then nothing, or why
-- the bytes are no item (RFC 8949, sections 3 and 5.3.1). Texts are lists of bytes.
use Rattle.std.specs.Prelude.{◌≡◌, ℕ, ◌+◌, ◌-◌, ◌<◌, ◌==◌, Bool, List, [], ◌∷◌, ◌++◌, length, if◌then◌else◌, Option}
use Rattle.std.specs.{Prelude.{Some, None, Result, Ok, Err, MatchResult, codes, decimal}, Bool.MatchBool, List.flat_map}
use Rattle.std.specs.List.{repeat}
use Rattle.hex.specs.Hex.{decode_of, encode_lower}
use Rattle.ciborium_ll.specs.{Header.SpellsHeader, ItemLengths.{EndInside, IsNoItem}, Levels.{AreItem, IsPayloadOf}}
use Rattle.ciborium_ll.specs.{Levels.{behind_head, incomplete}, declared.header.Header.Header}
use Rattle.ciborium_ll.specs.{declared.item_heads.ItemHead.ItemHead, declared.item_heads.NoItem.NoItem}
use Rattle.ciborium_ll.specs.declared.item_heads.NoItem.TheVariants.{Incomplete, Malformed, TooDeep}
use Rattle.ciborium_ll.specs.{declared.levels.Level.Level, declared.levels.Level.TheVariants.Items}
use Rattle.ciborium_value.specs.Notation.{quoted}
use Rattle.cbor.specs.Line.{hex_text, trailing_text}
use Rattle.ciborium_ll.specs.declared.header.Header.TheVariants as header

-- ---- the heads of an item (RFC 8949, section 3)

-- a head where it stands: its offset from the front of the item, the number of levels that are unfinished
-- around it, what it says, its bytes, and the payload of a definite string
pub record Entry : Type 0 where
  pub offset : ℕ
  pub depth : ℕ
  pub header : Header
  pub head : List ℕ
  pub payload : List ℕ

-- the bytes of a head and right behind them its payload's
abbrev pub entry_bytes : Entry → List ℕ
entry_bytes e = e.head ++ e.payload

-- where these levels are unfinished, the innermost first, this head may stand at offset p; then more are
-- open (sections 3.1 to 3.3, and appendix C)
pub record IsEntryAt (levels : List Level) (p : ℕ) (e : Entry) (more : List Level) : Type 0 where
  pub offset : e.offset ≡ p
  pub depth : e.depth ≡ length levels - 1
  pub spelled : SpellsHeader e.head e.header
  pub payload : IsPayloadOf e.header e.payload
  pub placed : (behind : List Level) × (behind_head e.header levels ≡ Some behind) × (more ≡ incomplete behind)

-- b begins with these heads, the first at offset p where these levels are unfinished; behind the last
-- others are unfinished, and rest is left
abbrev pub AreHeadsAt : List Level → ℕ → List ℕ → List Entry → List Level → List ℕ → Type 0
AreHeadsAt levels p b [] unfinished rest = (unfinished ≡ levels) × (b ≡ rest)
AreHeadsAt levels p b (e ∷ es) unfinished rest = (more : List Level) × (left : List ℕ) × IsEntryAt levels p e more ×
    (b ≡ entry_bytes e ++ left) × AreHeadsAt more (p + length (entry_bytes e)) left es unfinished rest

-- b begins with these heads of one item; behind the last these levels are unfinished, and rest is left
abbrev pub AreHeads : List ℕ → List Entry → List Level → List ℕ → Type 0
AreHeads b es unfinished rest = AreHeadsAt (Items 1 ∷ []) 0 b es unfinished rest

-- ---- what a head says

-- a length or count in decimal, or that there is none (sections 3.1 and 3.2)
abbrev pub length_words : Option ℕ → List ℕ
length_words (Some n) = codes " of " ++ decimal n
length_words None = codes " of indefinite length"

-- a simple value by its name or its number (section 3.3)
abbrev pub simple_words : ℕ → List ℕ
simple_words n = if n == 20 then codes "false" else if n == 21 then codes "true"
    else if n == 22 then codes "null" else if n == 23 then codes "undefined" else codes "simple " ++ decimal n

-- what a head says
abbrev pub head_words : Header → List ℕ
head_words (header.Positive n) = codes "unsigned " ++ decimal n
head_words (header.Negative n) = codes "negative -" ++ decimal (n + 1)
head_words (header.Bytes n) = codes "bytes" ++ length_words n
head_words (header.Text n) = codes "text" ++ length_words n
head_words (header.Array n) = codes "array" ++ length_words n
head_words (header.Map n) = codes "map" ++ length_words n
head_words (header.Tag n) = codes "tag " ++ decimal n
head_words (header.Simple n) = simple_words n
head_words (header.Float n) = codes "float of " ++ (decimal n ++ codes " bytes")
head_words header.Break = codes "break"

-- behind the head of a definite text, a space and its payload in quotation marks, as in diagnostic
-- notation (section 8)
abbrev pub payload_words : Header → List ℕ → List ℕ
payload_words (header.Text (Some n)) payload = codes " " ++ quoted payload
payload_words other payload = []

-- ---- lines

-- the hex column of a line: the bytes of a head and its payload's in lower-case hex, all of them
abbrev pub hex_column : Entry → List ℕ
hex_column e = encode_lower (entry_bytes e)

-- where a head stands: its offset in decimal, a colon and a space, and two spaces for each level
abbrev pub place_text : ℕ → ℕ → List ℕ
place_text offset depth = decimal offset ++ (codes ": " ++ repeat depth (codes "  "))

-- the line of a head: where it stands, its bytes and its payload's in lower-case hex, two spaces,
-- and what it says
abbrev pub line_of : Entry → List ℕ
line_of e = place_text e.offset e.depth ++ (hex_column e ++ (codes "  " ++
    (head_words e.header ++ (payload_words e.header e.payload ++ codes "\n"))))

-- why no item stands at the front (section 5.3.1)
abbrev pub reason_text : NoItem → List ℕ
reason_text Incomplete = codes "incomplete"
reason_text (Malformed p) = codes "malformed at " ++ decimal p
reason_text (TooDeep p) = codes "too deep at " ++ decimal p

-- a head that was read
abbrev pub entry_of : ItemHead → Entry
entry_of head = record {
  offset = head.offset;
  depth = head.depth;
  header = head.header;
  head = head.bytes.now;
  payload = head.payload.now;
}

-- ---- dumps

-- b is one item, and the text is the lines of its heads
abbrev pub IsWholeDump : List ℕ → List ℕ → Type 0
IsWholeDump b text = (es : List Entry) × AreItem b × AreHeads b es [] [] × (text ≡ flat_map line_of es)

-- the reason shows at offset p, where r follows: no head there is whole, or its place is named
abbrev pub ShowsAt : ℕ → List ℕ → NoItem → Type 0
ShowsAt p r Incomplete = EndInside r
ShowsAt p r (Malformed q) = q ≡ p
ShowsAt p r (TooDeep q) = q ≡ p

-- b is no item: behind the lines of the heads in order the text says why
pub data IsBrokenDump (b : List ℕ) (text : List ℕ) : Type 0 where
  -- an item is at the front, and more bytes follow it
  trailing : (es : List Entry) (s rest : List ℕ) → AreItem s → b ≡ s ++ rest → AreHeads b es [] rest →
      0 < length rest → text ≡ flat_map line_of es ++ trailing_text (length rest) → IsBrokenDump b text
  -- none is at the front, and this shows right behind the heads
  none : (es : List Entry) (unfinished : List Level) (rest : List ℕ) (e : NoItem) →
      AreHeads b es unfinished rest → IsNoItem b e → ShowsAt (length (flat_map entry_bytes es)) rest e →
      text ≡ flat_map line_of es ++ reason_text e → IsBrokenDump b text

-- the text is the dump of b, and says whether b is one item
abbrev pub IsDumpOf : List ℕ → Bool → List ℕ → Type 0
IsDumpOf b is_item text = MatchBool is_item (IsWholeDump b text) (IsBrokenDump b text)

-- a line is the hex of one item, and the text is its dump
abbrev pub IsDumpText : List ℕ → List ℕ → Type 0
IsDumpText line text = MatchResult (decode_of line) (λ b. IsWholeDump b text) (λ _. ⊥)

-- a line is no such hex, and the text tells why: `hex` where it is not an even number of hex digits
abbrev pub TellsNoDump : List ℕ → List ℕ → Type 0
TellsNoDump line text = MatchResult (decode_of line) (λ b. IsBrokenDump b text) (λ _. text ≡ hex_text)

-- the text is the lines of the heads of b, and the answer is how many bytes follow the item, or why
-- there is none
abbrev pub AreLinesOf : List ℕ → Result ℕ NoItem → List ℕ → Type 0
AreLinesOf b (Ok n) text = (es : List Entry) × (s : List ℕ) × (rest : List ℕ) × AreItem s ×
    (b ≡ s ++ rest) × AreHeads b es [] rest × (n ≡ length rest) × (text ≡ flat_map line_of es)
AreLinesOf b (Err e) text = (es : List Entry) × (unfinished : List Level) × (rest : List ℕ) ×
    AreHeads b es unfinished rest × IsNoItem b e × ShowsAt (length (flat_map entry_bytes es)) rest e ×
    (text ≡ flat_map line_of es)
