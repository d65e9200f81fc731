-- What holds of folding, and of reading what was written (RFC 8949, section 3.4.3).
use Rattle.std.specs.Prelude.{◌≡◌, ◌≤◌, length, Some}
use Rattle.ciborium_ll.specs.{Bytes.greatest_offset, Item.Item}
use Rattle.ciborium_value.specs.{Encoding.{item_of, encoding}, Folded.folded, Meaning.meaning, Nesting.Limit}
use Rattle.ciborium_value.specs.{Nesting.{IsWithin, nesting}, ProperTrees.IsProperTree, Spelling.{any, IsReadAs}}
use Rattle.ciborium_value.specs.Tree.{Tree}

-- what an item means nests no deeper than the item
abbrev pub MeaningNests : Type 0
MeaningNests = (i : Item) (v : Tree) → meaning i ≡ Some v → nesting (item_of v) ≤ nesting i

-- folding twice is folding once
abbrev pub FoldsOnce : Type 0
FoldsOnce = (v w : Tree) → folded v ≡ Some w → folded w ≡ Some w

-- the encoding of a proper tree that folds is read as the folded tree, where it nests within the
-- limit and ends within the greatest offset
abbrev pub EncodingIsGood : Type 0
EncodingIsGood = (v w : Tree) (l : Limit) → IsProperTree v → folded v ≡ Some w →
    IsWithin l (nesting (item_of v)) → length (encoding v) ≤ greatest_offset → IsReadAs any (encoding v) 0 l w
