-- The encodings of lists of values, one behind the other (RFC 8949, section 4.1).
use Rattle.std.specs.Prelude.{ℕ, List}
use Rattle.ciborium_value.specs.{Encoding.{items_of, pairs_of, items_bytes, pairs_bytes}, ValueLists.trees_of}
use Rattle.ciborium_value.specs.{ValueLists.tree_pairs_of, declared.tree.Value.Value}

-- the encoding of each value, in order
abbrev pub encodings : List Value → List ℕ
encodings vs = items_bytes (items_of (trees_of vs))

-- the encodings of each key and its value, in order
abbrev pub pair_encodings : List (Value × Value) → List ℕ
pair_encodings ps = pairs_bytes (pairs_of (tree_pairs_of ps))
