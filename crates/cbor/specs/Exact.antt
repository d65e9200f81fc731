-- Diagnostic notation that shows the very heads of an item: indefinite lengths, heads that are not
-- the shortest, floats and all simple values (RFC 8949, sections 8 and 8.1). Texts are lists of
-- bytes.
use Rattle.std.specs.Prelude.{◌≡◌, ℕ, suc, ◌+◌, ◌^◌, ◌%◌, ◌<◌, ◌==◌, ◌&&◌, Bool, false, List, [], ◌∷◌, ◌++◌}
use Rattle.std.specs.Prelude.{length, if◌then◌else◌, nat_lt, MatchResult, codes, decimal, Option, None, Some}
use Rattle.std.specs.Bool.{MatchBool}
use Rattle.hex.specs.Hex.{decode_of, encode_lower}
use Rattle.ciborium_ll.specs.{Head.{IsFloat, IsHead, IsSimple, break_byte, open_byte}, ItemHeads.{HasRead, levels_of}}
use Rattle.ciborium_ll.specs.{ItemHeads.unread, ItemLengths.IsNoItem, Levels.{AreItem, incomplete}}
use Rattle.ciborium_ll.specs.{StringRefusal.{IsAllowed, string_major}, declared.header.Header.Header}
use Rattle.ciborium_ll.specs.declared.strings.StringType.{StringType}
use Rattle.ciborium_ll.specs.declared.{item_heads.{ItemHead.ItemHead, ItemHeads.ItemHeads}, levels.Level.Level}
use Rattle.ciborium_value.specs.Notation.{quoted}
use Rattle.cbor.specs.{declared.exact.Unshown.Unshown, declared.exact.Unshown.TheVariants.{NoItem, Memory}}
use Rattle.cbor.specs.{Dumped.reason_text, Line.{hex_text, trailing_text}}
use Rattle.ciborium_ll.specs.declared.header.Header.TheVariants as header
use Rattle.ciborium_ll.specs.declared.levels.Level.TheVariants as level
use Rattle.ciborium_ll.specs.declared.item_heads.NoItem as reasons

-- ---- encoding indicators (section 8.1)

-- behind what a head of so many bytes with argument n says: nothing where no shorter head has it,
-- and else an underscore and i, where its additional information is 24 + i
abbrev pub mark : ℕ → ℕ → List ℕ
mark size n = if size == 2 && nat_lt n 24 then codes "_0"
    else if size == 3 && nat_lt n (2 ^ 8) then codes "_1" else if size == 5 && nat_lt n (2 ^ 16) then codes "_2"
    else if size == 9 && nat_lt n (2 ^ 32) then codes "_3" else []

-- the brackets of an array or a map
abbrev pub opening : Bool → List ℕ
opening is_map = if is_map then codes "{" else codes "["

abbrev pub closing : Bool → List ℕ
closing is_map = if is_map then codes "}" else codes "]"

-- the major type of an array or a map (section 3.1)
abbrev pub parts_major : Bool → ℕ
parts_major is_map = if is_map then 5 else 4

-- the parts of an array of so many items, or of a map of so many pairs
abbrev pub part_count : Bool → ℕ → ℕ
part_count is_map n = if is_map then n + n else n

-- behind a bracket that opens, a space follows it
abbrev pub spaced : List ℕ → List ℕ
spaced [] = []
spaced (x ∷ xs) = x ∷ (xs ++ codes " ")

-- ---- strings (section 3.1)

-- a payload: base16, or a text in quotation marks
abbrev pub payload_text : StringType → List ℕ → List ℕ
payload_text StringType.Bytes payload = codes "h'" ++ (encode_lower payload ++ codes "'")
payload_text StringType.Text payload = quoted payload

-- b is a definite string, and the text shows it
abbrev pub IsStringExactly : StringType → List ℕ → List ℕ → Type 0
IsStringExactly type b text = (h : List ℕ) × (payload : List ℕ) × IsHead h (string_major type) (length payload) ×
    IsAllowed type payload × (b ≡ h ++ payload) × (text ≡ payload_text type payload ++ mark (length h) (length payload))

-- what stands before a part that n others precede: nothing before the first, a comma before each
-- other, but in a map a colon before the value of a key
abbrev pub lead : Bool → ℕ → List ℕ
lead is_map n = if n == 0 then [] else if is_map && (n % 2 == 1) then codes ": " else codes ", "

-- b are n definite strings in a row, the chunks of an open one, and the text shows them
pub data AreChunksExactly (type : StringType) : ℕ → List ℕ → List ℕ → Type 0 where
  none : AreChunksExactly type 0 [] []
  next : (n : ℕ) (b t s u : List ℕ) → AreChunksExactly type n b t → IsStringExactly type s u →
      AreChunksExactly type (suc n) (b ++ s) (t ++ (lead false n ++ u))

-- an open string of no chunks
abbrev pub empty_text : StringType → List ℕ
empty_text StringType.Bytes = codes "''_"
empty_text StringType.Text = codes "\"\"_"

-- an open string of n chunks, which the text t shows
abbrev pub open_text : StringType → ℕ → List ℕ → List ℕ
open_text type n t = if n == 0 then empty_text type else codes "(_ " ++ (t ++ codes ")")

-- ---- items

-- a simple value by its name or its number (section 3.3)
abbrev pub simple_text : ℕ → List ℕ
simple_text n = if n == 20 then codes "false" else if n == 21 then codes "true" else if n == 22 then codes "null"
    else if n == 23 then codes "undefined" else codes "simple(" ++ (decimal n ++ codes ")")

-- b between the initial byte of an open item and the break (section 3.2)
abbrev pub open_bytes : ℕ → List ℕ → List ℕ
open_bytes major b = open_byte major ∷ (b ++ (break_byte ∷ []))

mutual
  -- b is one item, and the text shows it
  pub data IsExactly : List ℕ → List ℕ → Type 0 where
    unsigned : (h : List ℕ) (n : ℕ) → IsHead h 0 n → IsExactly h (decimal n ++ mark (length h) n)
    negative : (h : List ℕ) (n : ℕ) → IsHead h 1 n → IsExactly h (codes "-" ++ (decimal (n + 1) ++ mark (length h) n))
    string : (type : StringType) (b t : List ℕ) → IsStringExactly type b t → IsExactly b t
    open_string : (type : StringType) (n : ℕ) (b t : List ℕ) → AreChunksExactly type n b t →
        IsExactly (open_bytes (string_major type) b) (open_text type n t)
    parts : (is_map : Bool) (h : List ℕ) (n : ℕ) (b t : List ℕ) → IsHead h (parts_major is_map) n →
        AreExactly is_map (part_count is_map n) b t →
        IsExactly (h ++ b) (opening is_map ++ (spaced (mark (length h) n) ++ (t ++ closing is_map)))
    open_parts : (is_map : Bool) (n : ℕ) (b t : List ℕ) → AreExactly is_map (part_count is_map n) b t →
        IsExactly (open_bytes (parts_major is_map) b) (opening is_map ++ (codes "_ " ++ (t ++ closing is_map)))
    tag : (h : List ℕ) (n : ℕ) (b t : List ℕ) → IsHead h 6 n →
        IsExactly b t → IsExactly (h ++ b) (decimal n ++ (mark (length h) n ++ (codes "(" ++ (t ++ codes ")"))))
    simple : (h : List ℕ) (n : ℕ) → IsSimple h n → IsExactly h (simple_text n)
    float : (h raw : List ℕ) → IsFloat h raw → IsExactly h (codes "float'" ++ (encode_lower raw ++ codes "'"))

  -- b are n items in a row, of an array or, keys and values in turn, of a map, and the text shows
  -- them
  pub data AreExactly : Bool → ℕ → List ℕ → List ℕ → Type 0 where
    none : (is_map : Bool) → AreExactly is_map 0 [] []
    next : (is_map : Bool) (n : ℕ) (b t s u : List ℕ) → AreExactly is_map n b t → IsExactly s u →
        AreExactly is_map (suc n) (b ++ s) (t ++ (lead is_map n ++ u))

-- ---- answers

-- b is one item, and the text shows it
abbrev pub IsWholeExactly : List ℕ → List ℕ → Type 0
IsWholeExactly b text = AreItem b × IsExactly b text

-- b is no item, and the text says why (section 5.3.1)
pub data TellsNoItem (b : List ℕ) (text : List ℕ) : Type 0 where
  -- an item is at the front, and more bytes follow it
  trailing : (s rest : List ℕ) → AreItem s → b ≡ s ++ rest → 0 < length rest →
      text ≡ trailing_text (length rest) → TellsNoItem b text
  -- none is at the front
  none : (e : reasons.NoItem) → IsNoItem b e → text ≡ reason_text e → TellsNoItem b text

-- the text answers b, and says whether b is one item
abbrev pub IsExactAnswer : List ℕ → Bool → List ℕ → Type 0
IsExactAnswer b is_item text = MatchBool is_item (IsWholeExactly b text) (TellsNoItem b text)

-- a line is the hex of one item, and the text shows it
abbrev pub IsExactText : List ℕ → List ℕ → Type 0
IsExactText line text = MatchResult (decode_of line) (λ b. IsWholeExactly b text) (λ _. ⊥)

-- a line is no such hex, and the text tells why: `hex` where it is not an even number of hex digits
abbrev pub TellsNotExact : List ℕ → List ℕ → Type 0
TellsNotExact line text = MatchResult (decode_of line) (λ b. TellsNoItem b text) (λ _. text ≡ hex_text)

-- ---- steps of reading and writing

-- these bytes were read
pub record HasPassed (old new : ItemHeads) (b : List ℕ) : Type 0 where
  pub read : HasRead new
  pub same : new.bytes.now ≡ old.bytes.now
  pub front : unread old ≡ b ++ unread new

-- a text grew by one that stands in this relation to bytes that were read
abbrev pub IsPushed : (List ℕ → List ℕ → Type 0) → ItemHeads → ItemHeads → List ℕ → List ℕ → Type 0
IsPushed Shows old new text longer = (b : List ℕ) × (t : List ℕ) × HasPassed old new b ×
    Shows b t × (longer ≡ text ++ t)

-- the bytes of a head and its payload's
abbrev pub head_bytes : ItemHead → List ℕ
head_bytes head = head.bytes.now ++ head.payload.now

-- behind this head the rest of its item was read, and the text grew by what shows it
abbrev pub IsItemPushed : ItemHead → ItemHeads → ItemHeads → List ℕ → List ℕ → Type 0
IsItemPushed head = IsPushed (λ b t. IsExactly (head_bytes head ++ b) t)

-- the items before a break
abbrev pub AreOpenParts : Bool → List ℕ → List ℕ → Type 0
AreOpenParts is_map b t = (n : ℕ) × (r : List ℕ) × (b ≡ r ++ (break_byte ∷ [])) ×
    AreExactly is_map (part_count is_map n) r t

-- the chunks of a string before a break
abbrev pub AreOpenChunks : StringType → List ℕ → List ℕ → Type 0
AreOpenChunks type b t = (n : ℕ) × (r : List ℕ) × (u : List ℕ) × (b ≡ r ++ (break_byte ∷ [])) ×
    AreChunksExactly type n r u × (t ≡ open_text type n u)

-- ---- levels

-- the level that an open string enters
abbrev pub chunk_level : StringType → Level
chunk_level StringType.Bytes = level.ByteChunks
chunk_level StringType.Text = level.TextChunks

-- the level in an open array or map behind so many parts
abbrev pub open_level : Bool → ℕ → Level
open_level is_map n = if is_map then (if n % 2 == 1 then level.OpenValues else level.OpenKeys) else level.OpenItems

-- the head of an array or a map
abbrev pub parts_header : Bool → Option ℕ → Header
parts_header is_map count = if is_map then header.Map count else header.Array count

-- behind this head stands no part of its item but a payload
abbrev pub IsLeaf : Header → Type 0
IsLeaf (header.Bytes None) = ⊥
IsLeaf (header.Text None) = ⊥
IsLeaf (header.Array count) = ⊥
IsLeaf (header.Map count) = ⊥
IsLeaf (header.Tag n) = ⊥
IsLeaf header.Break = ⊥
IsLeaf _ = Unit {0}

-- the levels behind the head of an item that stands where these are left behind it
abbrev pub behind_begun : Header → List Level → List Level
behind_begun (header.Bytes None) around = level.ByteChunks ∷ around
behind_begun (header.Text None) around = level.TextChunks ∷ around
behind_begun (header.Array (Some n)) around = level.Items n ∷ around
behind_begun (header.Array None) around = level.OpenItems ∷ around
behind_begun (header.Map (Some n)) around = level.Items (n + n) ∷ around
behind_begun (header.Map None) around = level.OpenKeys ∷ around
behind_begun (header.Tag n) around = level.Items 1 ∷ around
behind_begun _ around = around

-- the head of an item was read, and behind the item these levels are left
abbrev pub IsBegun : Header → ItemHeads → List Level → Type 0
IsBegun header heads around = levels_of heads ≡ incomplete (behind_begun header around)

-- an item was shown, and so many bytes follow it
abbrev pub IsFrontPushed : List ℕ → ℕ → List ℕ → List ℕ → Type 0
IsFrontPushed b count text longer = (s : List ℕ) × (rest : List ℕ) × (t : List ℕ) × AreItem s ×
    (b ≡ s ++ rest) × (count ≡ length rest) × IsExactly s t × (longer ≡ text ++ t)

-- why no item is shown; `Memory` says nothing of the bytes
abbrev pub Explains : List ℕ → Unshown → Type 0
Explains b (NoItem e) = IsNoItem b e
Explains b Memory = Unit {0}
