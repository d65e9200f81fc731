-- CBOR sequences (RFC 8742, section 2): items one after the other, with nothing between them. And
-- what the program answers to a line of
-- hex that is read as one. Texts are lists of bytes.
use Rattle.std.specs.Prelude.{◌≡◌, ◌⊎◌, ℕ, ◌+◌, ◌<◌, List, [], ◌∷◌, ◌++◌, length, MatchResult, codes, decimal}
use Rattle.std.specs.List.{flat_map}
use Rattle.hex.specs.Hex.{decode_of, encode_lower}
use Rattle.ciborium_ll.specs.Refusal.{Refusal}
use Rattle.ciborium_value.specs.{Encoding.encoding, Tree.Tree}
use Rattle.cbor.specs.{declared.reading.Spelling.Spelling, declared.reading.Spelling.TheVariants.Any, Line.hex_text}
use Rattle.cbor.specs.{Line.refusal_text, Spellings.{HasItemBefore, RefusesItem}}

-- b begins with items one after the other, which mean these trees, and rest is left: each is
-- spelled so and good within so many levels, and offsets are counted from its own first byte
abbrev pub AreItemsBefore : Spelling → List ℕ → ℕ → List Tree → List ℕ → Type 0
AreItemsBefore spelling b limit [] rest = b ≡ rest
AreItemsBefore spelling b limit (tree ∷ trees) rest = (left : List ℕ) ×
    HasItemBefore spelling b limit tree left × AreItemsBefore spelling left limit trees rest

-- a space, and the encoding of a tree in lower-case hex (RFC 8949, section 4.1)
abbrev pub item_text : Tree → List ℕ
item_text v = codes " " ++ encode_lower (encoding v)

-- the answer to a sequence
abbrev pub sequence_text : List Tree → List ℕ
sequence_text trees = codes "ok" ++ flat_map item_text trees

-- the answer where the item of this number, counted from 1, is the first that is refused
abbrev pub refused_item_text : ℕ → List ℕ → List ℕ
refused_item_text n reason = codes "item " ++ (decimal n ++ (codes ": " ++ reason))

-- all of b is a sequence, and the text is the answer that says so
abbrev pub AreSequence : List ℕ → ℕ → List ℕ → Type 0
AreSequence b limit text = (trees : List Tree) × AreItemsBefore Any b limit trees [] × (text ≡ sequence_text trees)

-- behind items one after the other more bytes follow, and are refused, and the text says so
abbrev pub AreNoSequence : List ℕ → ℕ → List ℕ → Type 0
AreNoSequence b limit text =
    (trees : List Tree) × (rest : List ℕ) × (e : Refusal) × AreItemsBefore Any b limit trees rest ×
    (0 < length rest) × RefusesItem Any rest limit e × (text ≡ refused_item_text (length trees + 1) (refusal_text e))

-- the bytes b, read as a sequence, have this answer
abbrev pub HasSequenceAnswer : List ℕ → ℕ → List ℕ → Type 0
HasSequenceAnswer b limit text = AreSequence b limit text ⊎ AreNoSequence b limit text

-- the text answers a line that is read as a sequence: its bytes, or `hex` where it is not an even
-- number of hex digits
abbrev pub IsSequenceAnswer : List ℕ → ℕ → List ℕ → Type 0
IsSequenceAnswer line limit text = MatchResult (decode_of line)
    (λ b. HasSequenceAnswer b limit text) (λ _. text ≡ hex_text)

-- the same where the line is a sequence, and where it is none
abbrev pub IsSequenceText : List ℕ → ℕ → List ℕ → Type 0
IsSequenceText line limit text = MatchResult (decode_of line) (λ b. AreSequence b limit text) (λ _. ⊥)

abbrev pub TellsNoSequence : List ℕ → ℕ → List ℕ → Type 0
TellsNoSequence line limit text = MatchResult (decode_of line) (λ b. AreNoSequence b limit text) (λ _. text ≡ hex_text)
