-- What the program answers to a line of hex by the deterministic form of its item (RFC 8949,
-- section 4.2). Texts are lists of bytes.
use Rattle.std.specs.Prelude.{◌≡◌, ◌⊎◌, ℕ, List, codes}
use Rattle.ciborium_value.specs.{DeterministicForms.deterministic_form, Given.{gives, refuses}, Tree.Tree}
use Rattle.ciborium_value.specs.declared.key_order.KeyOrder.{KeyOrder}
use Rattle.ciborium_ll.specs.declared.kind.Kind.{Kind}
use Rattle.cbor.specs.{declared.reading.Spelling.TheVariants.Any, Answer.{IsMeant, TellsRefusal}, Line.tree_text}
use Rattle.ciborium_ll.specs.declared.kind.Kind.TheVariants as kinds

-- why a tree has no form, in a word
abbrev pub formless_text : Kind → List ℕ
formless_text kinds.DuplicateKey = codes "duplicate"
formless_text reason = codes "toolarge"

-- a line is an item in any spelling, within so many levels, and the text is the answer that holds
-- the encoding of its form by this order of keys
abbrev pub IsFormText : KeyOrder → List ℕ → ℕ → List ℕ → Type 0
IsFormText order line limit text =
    (v : Tree) × (u : Tree) × IsMeant Any line limit v × (deterministic_form order v ≡ gives u) × (text ≡ tree_text u)

-- a line is such an item, which has no form, and the text is the word for why
abbrev pub IsFormless : KeyOrder → List ℕ → ℕ → List ℕ → Type 0
IsFormless order line limit text = (v : Tree) ×
    (k : Kind) × IsMeant Any line limit v × (deterministic_form order v ≡ refuses k) × (text ≡ formless_text k)

-- the text tells why a line has none: its item has no form, or it is no item
abbrev pub TellsNoForm : KeyOrder → List ℕ → ℕ → List ℕ → Type 0
TellsNoForm order line limit text = IsFormless order line limit text ⊎ TellsRefusal Any line limit text

-- the text answers a line
abbrev pub IsFormAnswer : KeyOrder → List ℕ → ℕ → List ℕ → Type 0
IsFormAnswer order line limit text = IsFormText order line limit text ⊎ TellsNoForm order line limit text
