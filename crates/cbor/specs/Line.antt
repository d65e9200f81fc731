-- What the program answers to a line of hex. Texts are lists of bytes.
use Rattle.std.specs.Prelude.{◌≡◌, ℕ, ◌<◌, List, ◌++◌, length, MatchResult, codes, decimal}
use Rattle.hex.specs.Hex.{decode_of, encode_lower}
use Rattle.ciborium_ll.specs.Refusal.{Refusal, io, syntax, too_long, semantic, recursion_limit_exceeded}
use Rattle.ciborium_ll.specs.declared.kind.Kind.{Kind}
use Rattle.ciborium_ll.specs.declared.kind.Kind.TheVariants as kinds
use Rattle.ciborium_value.specs.{Encoding.encoding, Tree.Tree}
use Rattle.cbor.specs.{declared.reading.Spelling.Spelling, Spellings.{HasItemBefore, IsItem, RefusesItem}}

-- why an item has no meaning, in a word; no other kind comes of reading a value
abbrev pub kind_text : Kind → List ℕ
kind_text kinds.Float = codes "float"
kind_text kinds.Simple = codes "simple"
kind_text kinds.Break = codes "break"
kind_text kinds.TooLarge = codes "toolarge"
kind_text kinds.NotShortest = codes "notshortest"
kind_text kinds.Open = codes "open"
kind_text kinds.NotFolded = codes "notfolded"
kind_text kinds.KeyOrder = codes "keyorder"
kind_text _ = codes "other"

-- a refusal, with its offset in decimal where it has one
abbrev pub refusal_text : Refusal → List ℕ
refusal_text io = codes "io"
refusal_text (syntax p) = codes "syntax " ++ decimal p
refusal_text too_long = codes "toolong"
refusal_text (semantic p kind) = codes "semantic " ++ (decimal p ++ (codes " " ++ kind_text kind))
refusal_text recursion_limit_exceeded = codes "nesting"

-- the answer to a tree: its encoding in lower-case hex (RFC 8949, section 4.1)
abbrev pub tree_text : Tree → List ℕ
tree_text v = codes "ok " ++ encode_lower (encoding v)

-- the answer to an item that n more bytes follow
abbrev pub trailing_text : ℕ → List ℕ
trailing_text n = codes "trailing " ++ decimal n

-- the answer to a line that is not an even number of hex digits
abbrev pub hex_text : List ℕ
hex_text = codes "hex"

-- the bytes b have this answer, where items are spelled so, within so many levels (RFC 8949,
-- section 5.3)
pub data HasAnswer (spelling : Spelling) (b : List ℕ) (limit : ℕ) (answer : List ℕ) : Type 0 where
  -- all of b is an item
  good : (v : Tree) → IsItem spelling b limit v → answer ≡ tree_text v → HasAnswer spelling b limit answer
  -- an item is at the front, and more bytes follow it
  trailing : (v : Tree) (left : List ℕ) → HasItemBefore spelling b limit v left →
      0 < length left → answer ≡ trailing_text (length left) → HasAnswer spelling b limit answer
  -- b is refused
  refused : (e : Refusal) → RefusesItem spelling b limit e → answer ≡ refusal_text e → HasAnswer spelling b limit answer

-- the text answers a line: its bytes, or `hex` where it is not an even number of hex digits
abbrev pub IsLineAnswer : Spelling → List ℕ → ℕ → List ℕ → Type 0
IsLineAnswer spelling line limit answer = MatchResult (decode_of line)
    (λ b. HasAnswer spelling b limit answer) (λ _. answer ≡ hex_text)
