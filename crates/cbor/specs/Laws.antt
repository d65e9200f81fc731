-- What holds of the answers to lines.
use Rattle.std.specs.{List.flat_map, Prelude.{◌≡◌, ◌≢◌, ℕ, List, [], ◌++◌}}
use Rattle.hex.specs.Hex.{encode_lower}
use Rattle.ciborium_ll.specs.declared.levels.Level.{Level}
use Rattle.ciborium_value.specs.{Tree.Tree, declared.key_order.KeyOrder.KeyOrder}
use Rattle.cbor.specs.{Answer.{IsRefused, IsMeant, refused_text}, Dumped.{AreHeads, Entry, IsWholeDump, entry_bytes}}
use Rattle.cbor.specs.{Dumped.hex_column, Forms.IsFormAnswer, Line.{IsLineAnswer, tree_text}, Sequence.IsSequenceAnswer}
use Rattle.cbor.specs.{Shown.IsNotationAnswer, declared.answer.LineRefusal.{LineRefusal, TheVariants.Memory}}
use Rattle.cbor.specs.declared.reading.{Layout.Layout, Spelling.Spelling}

-- each line has an answer, however items may be spelled, within any number of levels
abbrev pub IsAnswered : Type 0
IsAnswered = (spelling : Spelling) (line : List ℕ) (limit : ℕ) → (answer : List ℕ) ×
    IsLineAnswer spelling line limit answer

-- and no other
abbrev pub OneAnswerToLine : Type 0
OneAnswerToLine = (spelling : Spelling) (line : List ℕ) (limit : ℕ) (a b : List ℕ) →
    IsLineAnswer spelling line limit a → IsLineAnswer spelling line limit b → a ≡ b

-- a line that means a tree is answered by the text of the tree
abbrev pub ItemIsAnswered : Type 0
ItemIsAnswered = (spelling : Spelling) (line : List ℕ) (limit : ℕ) (v : Tree) →
    IsMeant spelling line limit v → IsLineAnswer spelling line limit (tree_text v)

-- a line that is refused, but not for memory, is answered by the text of the refusal
abbrev pub RefusalIsAnswered : Type 0
RefusalIsAnswered = (spelling : Spelling) (line : List ℕ) (limit : ℕ) (e : LineRefusal) →
    e ≢ Memory → IsRefused spelling line limit e → IsLineAnswer spelling line limit (refused_text e)

-- and means no tree
abbrev pub RefusedMeansNothing : Type 0
RefusedMeansNothing = (spelling : Spelling) (line : List ℕ) (limit : ℕ) (e : LineRefusal) (v : Tree) →
    e ≢ Memory → IsRefused spelling line limit e → ¬ IsMeant spelling line limit v

-- each line that is read as a sequence has an answer, within any number of levels
abbrev pub IsSequenceAnswered : Type 0
IsSequenceAnswered = (line : List ℕ) (limit : ℕ) → (answer : List ℕ) × IsSequenceAnswer line limit answer

-- and no other
abbrev pub OneSequenceAnswer : Type 0
OneSequenceAnswer = (line : List ℕ) (limit : ℕ) (a b : List ℕ) → IsSequenceAnswer line limit a →
    IsSequenceAnswer line limit b → a ≡ b

-- each line has an answer by the deterministic form of its item, in either order of keys and within
-- any number of levels
abbrev pub IsFormAnswered : Type 0
IsFormAnswered = (order : KeyOrder) (line : List ℕ) (limit : ℕ) → (answer : List ℕ) ×
    IsFormAnswer order line limit answer

-- and no other
abbrev pub OneFormAnswer : Type 0
OneFormAnswer = (order : KeyOrder) (line : List ℕ) (limit : ℕ) (a b : List ℕ) →
    IsFormAnswer order line limit a → IsFormAnswer order line limit b → a ≡ b

-- each line has an answer by the notation of its item, in either layout and within any number of
-- levels
abbrev pub IsNotationAnswered : Type 0
IsNotationAnswered = (layout : Layout) (line : List ℕ) (limit : ℕ) → (answer : List ℕ) ×
    IsNotationAnswer layout line limit answer

-- and no other
abbrev pub OneNotationAnswer : Type 0
OneNotationAnswer = (layout : Layout) (line : List ℕ) (limit : ℕ) (a b : List ℕ) →
    IsNotationAnswer layout line limit a → IsNotationAnswer layout line limit b → a ≡ b

-- the bytes of the heads and payloads of a dump, and what is left behind them, are the bytes
abbrev pub DumpKeepsBytes : Type 0
DumpKeepsBytes = (b : List ℕ) (es : List Entry) (levels : List Level) (rest : List ℕ) →
    AreHeads b es levels rest → flat_map entry_bytes es ++ rest ≡ b

-- the hex columns of the dump of an item are its hex
abbrev pub DumpKeepsHex : Type 0
DumpKeepsHex = (b : List ℕ) (es : List Entry) → AreHeads b es [] [] → flat_map hex_column es ≡ encode_lower b

-- an item has one dump
abbrev pub OneDumpOfItem : Type 0
OneDumpOfItem = (b x y : List ℕ) → IsWholeDump b x → IsWholeDump b y → x ≡ y
