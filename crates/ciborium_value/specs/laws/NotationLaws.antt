-- What holds of texts of diagnostic notation (RFC 8949, section 8).
use Rattle.std.specs.Prelude.{◌≡◌, ℕ, Bool, List}
use Rattle.ciborium_value.specs.{Denotes.{Denotes, DenotesWithin, depth}, Notation.styled_notation}
use Rattle.ciborium_value.specs.{ProperTrees.IsProperTree, Tree.Tree}

-- what is printed of a tree that a program can hold, on one line or over lines, denotes it
-- within as many levels as it nests
abbrev pub PrintedIsDenoted : Type 0
PrintedIsDenoted = (is_indented : Bool) (v : Tree) → IsProperTree v →
    DenotesWithin (depth v) (styled_notation is_indented v) v

-- a text denotes one tree at most
abbrev pub OneTreeIsDenoted : Type 0
OneTreeIsDenoted = (t : List ℕ) (v w : Tree) → Denotes t v → Denotes t w → v ≡ w

-- trees that print alike are equal
abbrev pub PrintedAlikeIsEqual : Type 0
PrintedAlikeIsEqual = (is_indented : Bool) (v w : Tree) → IsProperTree v → IsProperTree w →
    styled_notation is_indented v ≡ styled_notation is_indented w → v ≡ w
