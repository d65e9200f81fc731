-- What holds of the spellings of a `Header` (RFC 8949, sections 3 and 4.1).
use Rattle.std.specs.Prelude.{◌≡◌, ℕ, ◌≤◌, List, ◌++◌, length}
use Rattle.ciborium_ll.specs.declared.header.Header.{Header}
use Rattle.ciborium_ll.specs.Header.{SpellsHeader, header_bytes, IsWritable, IsProperHeader}

-- no bytes spell two headers
abbrev pub OneHeader : Type 0
OneHeader = (b : List ℕ) (h k : Header) → SpellsHeader b h → SpellsHeader b k → h ≡ k

-- no spelling is a proper beginning of another: bytes have at most one spelled header at their
-- front, and one end of it
abbrev pub OneHeaderAtFront : Type 0
OneHeaderAtFront = (a b x y : List ℕ) (h k : Header) →
    SpellsHeader a h → SpellsHeader b k → a ++ x ≡ b ++ y → (a ≡ b) × (x ≡ y) × (h ≡ k)

-- what is written for a header spells it
abbrev pub HeaderBytesSpell : Type 0
HeaderBytesSpell = (h : Header) → IsWritable h → IsProperHeader h → SpellsHeader (header_bytes h) h

-- no spelling of a header is shorter than what is written for it
abbrev pub NoSpellingIsShorter : Type 0
NoSpellingIsShorter = (b : List ℕ) (h : Header) → SpellsHeader b h → length (header_bytes h) ≤ length b

-- no other spelling of a header is as short
abbrev pub NoOtherSpellingIsAsShort : Type 0
NoOtherSpellingIsAsShort = (b : List ℕ) (h : Header) → SpellsHeader b h →
    length b ≤ length (header_bytes h) → b ≡ header_bytes h
