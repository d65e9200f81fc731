-- What holds of encodings (RFC 8949, sections 4.1 and 4.2.1).
use Rattle.std.specs.{Prelude.{◌≡◌, ℕ, ◌<◌, ◌⊎◌, List, length}, Cmp.Lexicographic.slice_cmp, Ordering.nat_cmp}
use Rattle.ciborium_ll.specs.{Head.shortest_head, ProperItems.IsArgument, Spells.Spells}
use Rattle.ciborium_value.specs.{Encoding.{item_of, encoding}, ProperTrees.IsProperTree, Tree.Tree}

-- two trees that programs can hold have two encodings
abbrev pub OneTree : Type 0
OneTree = (v w : Tree) → IsProperTree v → IsProperTree w → encoding v ≡ encoding w → v ≡ w

-- the encoding of a tree spells its item, every string, array and map of which is definite
abbrev pub EncodingSpells : Type 0
EncodingSpells = (v : Tree) → IsProperTree v → Spells (encoding v) (item_of v)

-- and each other spelling of that item is longer
abbrev pub OthersAreLonger : Type 0
OthersAreLonger = (v : Tree) (s : List ℕ) → IsProperTree v → Spells s (item_of v) →
    (s ≡ encoding v) ⊎ (length (encoding v) < length s)

-- the shortest heads of one major type are ordered bytewise as their numbers
abbrev pub HeadsRise : Type 0
HeadsRise = (major n k : ℕ) → IsArgument n → IsArgument k →
    slice_cmp nat_cmp (shortest_head major n) (shortest_head major k) ≡ nat_cmp n k
