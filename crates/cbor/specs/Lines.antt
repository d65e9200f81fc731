-- Lines of the input, and what is written for each, as it is read.
use Rattle.std.specs.{Bool.MatchBool, Io.BufRead.{first_piece, drop_through, strip_last}, List.{flat_map, list_all}}
use Rattle.std.specs.{List.list_any, Prelude.{◌≡◌, ◌⊎◌, ℕ, ◌<◌, ◌==◌, Bool, false, List, [], ◌∷◌, ◌++◌, length, codes}}
use Rattle.std.specs.Prelude.{Option, Some}
use Rattle.ciborium_value.specs.Tree.{Tree}
use Rattle.cbor.specs.{Answer.{IsMeant, TellsRefusal}, Dumped.{IsDumpText, TellsNoDump}, Encoded.IsEncodingText}
use Rattle.cbor.specs.{Encoded.TellsNoTree, Exact.{IsExactText, TellsNotExact}, Forms.{IsFormText, TellsNoForm}}
use Rattle.cbor.specs.{Line.tree_text, Sequence.{IsSequenceText, TellsNoSequence}, Shown.IsNotationText}
use Rattle.cbor.specs.declared.reading.Reading.{Reading, TheVariants.{Item, Sequence, Form, Notation, Dump, Encode}}
use Rattle.cbor.specs.declared.reading.{Reading.TheVariants.Exact, Spelling.{Spelling, TheVariants.Any}}

-- the first line of b: what stands before the first line feed, or all of b, without one carriage
-- return at its end
abbrev pub first_line : List ℕ → List ℕ
first_line b = strip_last 13 (first_piece 10 b)

-- of the input b the rest is left: there is one of these values for each line before it, in order,
-- and Is holds of the line and its value
pub data AreLines {V : Type 0} (Is : List ℕ → V → Type 0) (b : List ℕ) : List ℕ → List V →
    Type 0 where
  none : AreLines Is b b []
  next : (rest : List ℕ) (values : List V) (value : V) → AreLines Is b rest values →
      0 < length rest → Is (first_line rest) value → AreLines Is b (drop_through 10 rest) (values ++ (value ∷ []))

-- of the input b the rest is left: each line before it is an item, spelled so and within so many
-- levels, and they mean these trees, in order
abbrev pub AreMeant : Spelling → List ℕ → ℕ → List ℕ → List Tree → Type 0
AreMeant spelling b limit rest trees = AreLines (λ line tree. IsMeant spelling line limit tree) b rest trees

-- a line is an item, a sequence, an item that has a form, or notation, as it is read, and the text
-- is the answer that says so
abbrev pub IsOkText : Reading → List ℕ → List ℕ → Type 0
IsOkText (Item spelling limit) line text = (v : Tree) × IsMeant spelling line limit v × (text ≡ tree_text v)
IsOkText Sequence line text = IsSequenceText line 256 text
IsOkText (Form order limit) line text = IsFormText order line limit text
IsOkText (Notation layout limit) line text = IsNotationText layout line limit text
IsOkText Dump line text = IsDumpText line text
IsOkText Exact line text = IsExactText line text
IsOkText (Encode limit) line text = IsEncodingText limit line text

-- it is not, and the text is the answer that says why
abbrev pub IsRefusedText : Reading → List ℕ → List ℕ → Type 0
IsRefusedText (Item spelling limit) line text = TellsRefusal spelling line limit text
IsRefusedText Sequence line text = TellsNoSequence line 256 text
IsRefusedText (Form order limit) line text = TellsNoForm order line limit text
IsRefusedText (Notation layout limit) line text = TellsRefusal Any line limit text
IsRefusedText Dump line text = TellsNoDump line text
IsRefusedText Exact line text = TellsNotExact line text
IsRefusedText (Encode limit) line text = TellsNoTree limit line text

-- the text answers a line that is read so, and says whether it is as it is asked for
abbrev pub AnswersLine : Reading → List ℕ → Bool → List ℕ → Type 0
AnswersLine reading line is_ok text = MatchBool is_ok (IsOkText reading line text) (IsRefusedText reading line text)

-- a text, and a line feed
abbrev pub text_line : List ℕ → List ℕ
text_line text = text ++ (10 ∷ [])

-- the answer to a line for which an allocation failed
abbrev pub memory_text : List ℕ
memory_text = codes "memory"

-- the text answers a line that is read so, or says that an allocation failed for it
abbrev pub MayBeAnswer : Reading → List ℕ → Bool → List ℕ → Type 0
MayBeAnswer reading line is_ok text = AnswersLine reading line is_ok text ⊎ ((is_ok ≡ false) × (text ≡ memory_text))

-- so is each line of b up to the rest, in order, by these texts, each with whether its line is as
-- it is asked for
abbrev pub AreAnsweredBy : Reading → List ℕ → List ℕ → List (Bool × List ℕ) → Type 0
AreAnsweredBy reading b rest answers = AreLines (λ line a. MayBeAnswer reading line a.0 a.1) b rest answers

-- whether each line is as it is asked for, and the texts, a line each
abbrev pub all_ok : List (Bool × List ℕ) → Bool
all_ok answers = list_all (λ a. a.0) answers

abbrev pub answer_lines : List (Bool × List ℕ) → List ℕ
answer_lines answers = flat_map (λ a. text_line a.1) answers

-- each line of b is answered, and the answers are put behind w; all says whether each line is as it
-- is asked for
abbrev pub AreAnswered : Reading → List ℕ → List ℕ → Bool → Option (List ℕ) → Type 0
AreAnswered reading b w all after = (answers : List (Bool × List ℕ)) ×
    AreAnsweredBy reading b [] answers × (all ≡ all_ok answers) × (after ≡ Some (w ++ answer_lines answers))

-- a line feed stands in b
abbrev pub holds_line : List ℕ → Bool
holds_line b = list_any (λ y. y == 10) b
