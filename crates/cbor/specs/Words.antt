-- Which words the program is run with, and what they ask for.
use Rattle.std.specs.{Char.is_ascii_digit, List.list_all, Prelude.{◌≡◌, ◌⊎◌, ℕ, ◌≤◌, List, [], ◌∷◌, Option, Some}}
use Rattle.std.specs.Prelude.{None, MatchOption, Bool, true, false, IsTrue, zero, suc, ◌-◌, ◌==◌, ◌&&◌, codes, get_or}
use Rattle.std.specs.{Prelude.{if◌then◌else◌, length, nat_le, take}, Str.Parse.{IsNumeral, digits_value}}
use Rattle.ciborium_value.specs.declared.key_order.KeyOrder.{KeyOrder, TheVariants.{LengthFirst, Bytewise}}
use Rattle.cbor.specs.declared.command.Command.{Command, TheVariants.{Answer, Sort, Show, ShowExactly, Dump, Encode}}
use Rattle.cbor.specs.declared.command.{Command.TheVariants.Tell, Topic.TheVariants.{Help, Version}}
use Rattle.cbor.specs.declared.reading.{Layout.{Layout, TheVariants.{OneLine, Indented}}, Spelling.Spelling}
use Rattle.cbor.specs.declared.reading.Spelling.TheVariants.{Any, Deterministic}
use Rattle.cbor.specs.declared.reading.Reading.TheVariants as readings
use Rattle.cbor.specs.declared.reading.Showing.TheVariants as showings

-- one digit or more, and their number is at most 10,000: so many levels fit the stack
abbrev pub IsLimit : List ℕ → Type 0
IsLimit text = IsNumeral 10 text × (digits_value 10 text ≤ 10000)

-- the words name this limit: 256 where there are none, or their only one
abbrev pub NameLimit : List (List ℕ) → ℕ → Type 0
NameLimit [] n = n ≡ 256
NameLimit (limit ∷ []) n = IsLimit limit × (n ≡ digits_value 10 limit)
NameLimit (first ∷ (second ∷ others)) n = ⊥

-- the words begin with these, in order, and the others name a limit
abbrev pub NameLimitBehind : List (List ℕ) → List (List ℕ) → ℕ → Type 0
NameLimitBehind [] words n = NameLimit words n
NameLimitBehind (flag ∷ flags) [] n = ⊥
NameLimitBehind (flag ∷ flags) (first ∷ others) n = (first ≡ flag) × NameLimitBehind flags others n

-- the flags for an order of keys: none for the canonical one, and `--core` for that of the core
-- deterministic encoding
abbrev pub order_flags : KeyOrder → List (List ℕ)
order_flags LengthFirst = []
order_flags Bytewise = codes "--core" ∷ []

-- the flags for a spelling: none for any, and for the deterministic one `--det` and then those for
-- its order
abbrev pub spelling_flags : Spelling → List (List ℕ)
spelling_flags Any = []
spelling_flags (Deterministic order) = codes "--det" ∷ order_flags order

-- the flags for a layout: none for one line, and `--indent` for indented lines
abbrev pub layout_flags : Layout → List (List ℕ)
layout_flags OneLine = []
layout_flags Indented = codes "--indent" ∷ []

-- the words for a command, before its limit
abbrev pub command_words : Command → List (List ℕ)
command_words (Answer (readings.Item spelling n)) = codes "read" ∷ spelling_flags spelling
command_words (Answer readings.Sequence) = codes "seq" ∷ []
command_words (Answer (readings.Form order n)) = codes "canon" ∷ order_flags order
command_words (Answer (readings.Notation layout n)) = codes "diag" ∷ layout_flags layout
command_words (Answer readings.Dump) = codes "dump" ∷ []
command_words (Answer readings.Exact) = codes "diag" ∷ (codes "--exact" ∷ [])
command_words (Answer (readings.Encode n)) = codes "encode" ∷ []
command_words (Sort order) = codes "sort" ∷ order_flags order
command_words (Show (showings.Encoding spelling) n) =
    codes "read" ∷ (codes "--binary" ∷ spelling_flags spelling)
command_words (Show (showings.Notation layout) n) =
    codes "diag" ∷ (codes "--binary" ∷ layout_flags layout)
command_words (Show (showings.Form order) n) =
    codes "canon" ∷ (codes "--binary" ∷ order_flags order)
command_words ShowExactly = codes "diag" ∷ (codes "--binary" ∷ (codes "--exact" ∷ []))
command_words Dump = codes "dump" ∷ (codes "--binary" ∷ [])
command_words (Encode n) = codes "encode" ∷ (codes "--binary" ∷ [])
command_words (Tell Help) = codes "--help" ∷ []
command_words (Tell Version) = codes "--version" ∷ []

-- its limit, where it takes one
abbrev pub command_limit : Command → Option ℕ
command_limit (Answer (readings.Item spelling n)) = Some n
command_limit (Answer (readings.Form order n)) = Some n
command_limit (Answer (readings.Notation layout n)) = Some n
command_limit (Answer (readings.Encode n)) = Some n
command_limit (Show showing n) = Some n
command_limit (Encode n) = Some n
command_limit _ = None

-- the words are those for a command, and a limit behind them where it takes one
abbrev pub AreWordsFor : List (List ℕ) → Command → Type 0
AreWordsFor words command = MatchOption (command_limit command) (words ≡ command_words command)
    (λ n. NameLimitBehind (command_words command) words n)

-- the only word is `-h`, which asks for what `--help` does
abbrev pub AreShortFor : List (List ℕ) → Command → Type 0
AreShortFor words command = (words ≡ codes "-h" ∷ []) × (command ≡ Tell Help)

-- the words ask for this
abbrev pub AskFor : List (List ℕ) → Command → Type 0
AskFor words command = AreWordsFor words command ⊎ AreShortFor words command

-- all of the words ask for nothing
abbrev pub AskForNothing : List (List ℕ) → Type 0
AskForNothing words = (command : Command) → ¬ AskFor words command

-- whether files may be named behind the words for a command and its limit
abbrev pub takes_files : Command → Bool
takes_files (Show showing n) = true
takes_files ShowExactly = true
takes_files Dump = true
takes_files other = false

-- a word that is no name behind the first: a dash, and more behind it
abbrev pub is_flag : List ℕ → Bool
is_flag word = nat_le 2 (length word) && (get_or word 0 0 == 45)

-- digits alone
abbrev pub is_number : List ℕ → Bool
is_number word = list_all is_ascii_digit word

-- the words behind those at the front that are flags, but at most so many
abbrev pub behind_flags : ℕ → List (List ℕ) → List (List ℕ)
behind_flags zero words = words
behind_flags (suc n) [] = []
behind_flags (suc n) (word ∷ words) = if is_flag word then behind_flags n words else word ∷ words

-- the words behind the first one, where it is digits alone
abbrev pub behind_number : List (List ℕ) → List (List ℕ)
behind_number [] = []
behind_number (word ∷ words) = if is_number word then words else word ∷ words

-- the words that may be names of files: those behind the first, flags, of which no command has more
-- than three, and a word of digits right behind them
abbrev pub words_behind : List (List ℕ) → List (List ℕ)
words_behind [] = []
words_behind (first ∷ words) = behind_number (behind_flags 3 words)

-- the words before them
abbrev pub words_before : List (List ℕ) → List (List ℕ)
words_before words = take (length words - length (words_behind words)) words

-- the words ask for nothing by themselves, but those before the names of these files ask for this
abbrev pub AskForFiles : List (List ℕ) → Command → List (List ℕ) → Type 0
AskForFiles words command names = AskForNothing words × AskFor (words_before words) command ×
    IsTrue (takes_files command) × (names ≡ words_behind words)

-- the words ask for nothing that the program does, with files or without
abbrev pub AreWrong : List (List ℕ) → Type 0
AreWrong words = AskForNothing words × ((command : Command) (names : List (List ℕ)) → ¬ AskForFiles words command names)
