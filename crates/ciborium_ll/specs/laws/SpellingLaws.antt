-- What holds of heads and of spellings (RFC 8949, sections 3 and 4.1).
use Rattle.std.specs.Prelude.{◌≡◌, ℕ, ◌≤◌, List, [], ◌++◌, length}
use Rattle.ciborium_ll.specs.{Head.{IsHead, shortest_head}, Item.Item, ProperItems.IsArgument, Spells.Spells}

-- no spelling of an item is a proper beginning of a spelling of any item
abbrev pub NoneBeginsAnother : Type 0
NoneBeginsAnother = (b x : List ℕ) (i j : Item) → Spells b i → Spells (b ++ x) j → x ≡ []

-- no bytes spell two items
abbrev pub OneItem : Type 0
OneItem = (b : List ℕ) (i j : Item) → Spells b i → Spells b j → i ≡ j

-- so bytes have at most one spelled item at their front, and one end of it
abbrev pub OneAtFront : Type 0
OneAtFront = (a b x y : List ℕ) (i j : Item) → Spells a i → Spells b j → a ++ x ≡ b ++ y → (a ≡ b) × (x ≡ y) × (i ≡ j)

-- the shortest head is a head
abbrev pub ShortestIsHead : Type 0
ShortestIsHead = (major n : ℕ) → IsArgument n → IsHead (shortest_head major n) major n

-- no head of the same major type and argument is shorter
abbrev pub NoneIsShorter : Type 0
NoneIsShorter = (b : List ℕ) (major n : ℕ) → IsHead b major n → length (shortest_head major n) ≤ length b

-- no other head of the same major type and argument is as short
abbrev pub NoOtherIsAsShort : Type 0
NoOtherIsAsShort = (b : List ℕ) (major n : ℕ) → IsHead b major n →
    length b ≤ length (shortest_head major n) → b ≡ shortest_head major n
