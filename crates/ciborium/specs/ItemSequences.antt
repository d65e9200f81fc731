-- CBOR sequences (RFC 8742, section 2): items one after the other, with nothing between them.
use Rattle.std.specs.Prelude.{◌≡◌, ℕ, List}
use Rattle.ciborium_ll.specs.{Item.Items, Spells.SpellsItems}

-- b is a sequence of the items: a spelling of each, one after the other
abbrev pub IsSequence : List ℕ → Items → Type 0
IsSequence b items = SpellsItems b items

-- no bytes are two sequences
abbrev pub OneSequence : Type 0
OneSequence = (b : List ℕ) (items others : Items) → IsSequence b items → IsSequence b others → items ≡ others
