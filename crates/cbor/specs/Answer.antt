-- What a line means, or why it is refused, as the program answers it, and the text of a refusal.
use Rattle.std.specs.Prelude.{◌≡◌, ℕ, ◌+◌, ◌<◌, Bool, true, false, IsTrue, List, [], length, Option, Some, Ok, IsErr}
use Rattle.std.specs.Prelude.{MatchResult, codes}
use Rattle.hex.specs.Hex.{decode_of}
use Rattle.ciborium_value.specs.Tree.{Tree}
use Rattle.ciborium.specs.{declared.de.error.Error.Error, ValueAnswers.IsRefusedBy}
use Rattle.cbor.specs.declared.answer.LineRefusal.{LineRefusal}
use Rattle.cbor.specs.declared.answer.LineRefusal.TheVariants.{Hex, Trailing, Io, Syntax, Semantic, Nesting, TooLong}
use Rattle.cbor.specs.{declared.answer.LineRefusal.TheVariants.Memory, declared.reading.Spelling.Spelling}
use Rattle.cbor.specs.{Spellings.{HasItemBefore, IsItem, RefusesItem}, Line.{hex_text, refusal_text, trailing_text}}
use Rattle.ciborium_ll.specs.Refusal as refusal

-- a line is the hex of bytes that are one item, spelled so and within so many levels, and mean v
abbrev pub IsMeant : Spelling → List ℕ → ℕ → Tree → Type 0
IsMeant spelling line limit v = MatchResult (decode_of line) (λ b. IsItem spelling b limit v) (λ _. ⊥)

-- an item is at the front of b, and n more bytes follow it
abbrev pub HasTrailing : Spelling → List ℕ → ℕ → ℕ → Type 0
HasTrailing spelling b limit n = (v : Tree) × (left : List ℕ) ×
    HasItemBefore spelling b limit v left × (0 < length left) × (n ≡ length left)

-- b begins with no item, for this reason; `Memory` says nothing of it
abbrev pub IsFrontRefused : Spelling → List ℕ → ℕ → LineRefusal → Type 0
IsFrontRefused spelling b limit Hex = ⊥
IsFrontRefused spelling b limit (Trailing n) = ⊥
IsFrontRefused spelling b limit Io = RefusesItem spelling b limit refusal.io
IsFrontRefused spelling b limit (Syntax p) = RefusesItem spelling b limit (refusal.syntax p)
IsFrontRefused spelling b limit (Semantic p kind) = RefusesItem spelling b limit (refusal.semantic p kind)
IsFrontRefused spelling b limit Nesting = RefusesItem spelling b limit refusal.recursion_limit_exceeded
IsFrontRefused spelling b limit TooLong = RefusesItem spelling b limit refusal.too_long
IsFrontRefused spelling b limit Memory = Unit {0}

-- the refusal says of any bytes what an error of reading a value says of them, where the reader is
-- then at its end or not
abbrev pub StandsFor : {E : Type 0} → Error E → Bool → LineRefusal → Type 0
StandsFor error is_at_end e =
    (spelling : Spelling) (b : List ℕ) (limit : ℕ) (left : Option (List ℕ)) → (IsTrue is_at_end → left ≡ Some []) →
    IsRefusedBy left error (RefusesItem spelling b limit) → IsFrontRefused spelling b limit e

-- b is no item: more bytes follow one, or it begins with none
abbrev pub AreRefused : Spelling → List ℕ → ℕ → LineRefusal → Type 0
AreRefused spelling b limit (Trailing n) = HasTrailing spelling b limit n
AreRefused spelling b limit other = IsFrontRefused spelling b limit other

-- a line is no hex, or the hex of bytes that are no item; `Memory` says nothing of it
abbrev pub IsRefused : Spelling → List ℕ → ℕ → LineRefusal → Type 0
IsRefused spelling line limit Hex = IsErr (decode_of line)
IsRefused spelling line limit Memory = Unit {0}
IsRefused spelling line limit other = (b : List ℕ) × (decode_of line ≡ Ok b) × AreRefused spelling b limit other

-- what the text of a refusal begins with
abbrev pub refusal_word : LineRefusal → List ℕ
refusal_word Hex = hex_text
refusal_word (Trailing n) = codes "trailing"
refusal_word Io = codes "io"
refusal_word (Syntax p) = codes "syntax"
refusal_word (Semantic p kind) = codes "semantic"
refusal_word Nesting = codes "nesting"
refusal_word TooLong = codes "toolong"
refusal_word Memory = codes "memory"

-- the text of a refusal
abbrev pub refused_text : LineRefusal → List ℕ
refused_text Hex = hex_text
refused_text (Trailing n) = trailing_text n
refused_text Io = refusal_text refusal.io
refused_text (Syntax p) = refusal_text (refusal.syntax p)
refused_text (Semantic p kind) = refusal_text (refusal.semantic p kind)
refused_text Nesting = refusal_text refusal.recursion_limit_exceeded
refused_text TooLong = refusal_text refusal.too_long
refused_text Memory = codes "memory"

-- the offset of a refusal, or 0 where it has none
abbrev pub refusal_offset : LineRefusal → ℕ
refusal_offset (Syntax p) = p
refusal_offset (Semantic p kind) = p
refusal_offset other = 0

-- a refusal of bytes behind so many others, with its offset counted from the first of those
abbrev pub refusal_behind : ℕ → LineRefusal → LineRefusal
refusal_behind skipped (Syntax p) = Syntax (skipped + p)
refusal_behind skipped (Semantic p kind) = Semantic (skipped + p) kind
refusal_behind skipped other = other

-- whether an allocation failed
abbrev pub wants_memory : LineRefusal → Bool
wants_memory Memory = true
wants_memory other = false

-- a line is no hex; `Memory` says nothing of it
abbrev pub IsHexRefused : List ℕ → LineRefusal → Type 0
IsHexRefused line Hex = IsErr (decode_of line)
IsHexRefused line Memory = Unit {0}
IsHexRefused line other = ⊥

-- the text tells why a line is no such item; want of memory is told elsewhere
abbrev pub TellsRefusal : Spelling → List ℕ → ℕ → List ℕ → Type 0
TellsRefusal spelling line limit text =
    (e : LineRefusal) × IsRefused spelling line limit e × (wants_memory e ≡ false) × (text ≡ refused_text e)
