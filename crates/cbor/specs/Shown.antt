-- How items are shown. Texts are lists of bytes.
use Rattle.std.specs.Prelude.{◌≡◌, ◌⊎◌, ℕ, List}
use Rattle.hex.specs.Hex.{encode_lower}
use Rattle.ciborium_value.specs.{DeterministicForms.deterministic_form, Encoding.encoding, Given.{Outcome, gives}}
use Rattle.ciborium_value.specs.{Notation.{indented_notation, notation}, Tree.Tree}
use Rattle.cbor.specs.{Answer.{IsMeant, TellsRefusal}, declared.reading.Layout.{Layout, TheVariants.OneLine}}
use Rattle.cbor.specs.declared.reading.{Layout.TheVariants.Indented, Showing.{Showing, TheVariants.{Encoding, Form}}}
use Rattle.cbor.specs.declared.reading.{Showing.TheVariants.Notation, Spelling.{Spelling, TheVariants.Any}}

-- the diagnostic notation of a tree, laid out so (RFC 8949, section 8)
abbrev pub notation_text : Layout → Tree → List ℕ
notation_text OneLine v = notation v
notation_text Indented v = indented_notation v

-- the spellings that an item may have which is shown so
abbrev pub shown_spelling : Showing → Spelling
shown_spelling (Encoding spelling) = spelling
shown_spelling (Notation layout) = Any
shown_spelling (Form order) = Any

-- the tree that is shown of an item which means v: its deterministic form, where that is wanted and
-- there is one (RFC 8949, section 4.2), and else v
abbrev pub shown_tree : Showing → Tree → Outcome Tree
shown_tree (Encoding spelling) v = gives v
shown_tree (Notation layout) v = gives v
shown_tree (Form order) v = deterministic_form order v

-- a tree as it is shown: its encoding in lower-case hex (RFC 8949, section 4.1), or its notation
abbrev pub shown_text : Showing → Tree → List ℕ
shown_text (Encoding spelling) v = encode_lower (encoding v)
shown_text (Notation layout) v = notation_text layout v
shown_text (Form order) v = encode_lower (encoding v)

-- a line is an item in any spelling, within so many levels, and the text is its notation
abbrev pub IsNotationText : Layout → List ℕ → ℕ → List ℕ → Type 0
IsNotationText layout line limit text = (v : Tree) × IsMeant Any line limit v × (text ≡ notation_text layout v)

-- the text answers a line
abbrev pub IsNotationAnswer : Layout → List ℕ → ℕ → List ℕ → Type 0
IsNotationAnswer layout line limit text = IsNotationText layout line limit text ⊎ TellsRefusal Any line limit text
