-- What is read at the front of bytes, and the end of a container.
use Rattle.std.specs.Prelude.{◌≡◌, ℕ, ◌+◌, ◌≤◌, List, [], ◌∷◌, ◌++◌, length, Some, None}
use Rattle.ciborium_ll.specs.{Bytes.greatest_offset, Head.break_byte, declared.strings.StringType.StringType}
use Rattle.ciborium_value.specs.{Nesting.Limit, Refuses.{Due, items, keys, values}, Spelling.{Spelling, IsReadAs}}
use Rattle.ciborium_value.specs.{Tree.{Tree, TreePairs}, View.trees_from}
use Rattle.ciborium_value.specs.Tree as trees

-- b, whose first byte is at offset p, begins with what is read as v within the limit; r follows it,
-- at offset q
pub record ReadsItem (spelling : Spelling) (l : Limit) (b : List ℕ) (p : ℕ) (v : Tree) (r : List ℕ)
    (q : ℕ) : Type 0 where
  pub taken : List ℕ
  pub read : IsReadAs spelling taken p l v
  pub split : b ≡ taken ++ r
  pub at : q ≡ p + length taken

-- the tree of a string of a type
abbrev pub string_tree : StringType → List ℕ → Tree
string_tree StringType.Bytes payload = trees.bytes payload
string_tree StringType.Text payload = trees.text payload

-- nothing is due before b, offset p, but the break of an open container; r follows it at offset q
abbrev pub IsComplete : Due → List ℕ → ℕ → List ℕ → ℕ → Type 0
IsComplete (items (Some n)) b p r q = (n ≡ 0) × (b ≡ r) × (p ≡ q)
IsComplete (items None) b p r q = (b ≡ break_byte ∷ r) × (p + 1 ≡ q) × (q ≤ greatest_offset)
IsComplete (keys (Some n)) b p r q = (n ≡ 0) × (b ≡ r) × (p ≡ q)
IsComplete (keys None) b p r q = (b ≡ break_byte ∷ r) × (p + 1 ≡ q) × (q ≤ greatest_offset)
IsComplete (values n) b p r q = ⊥

-- keys and values in turn as pairs
abbrev pub pairs_in : List Tree → TreePairs
pairs_in [] = trees.no_tree_pairs
pairs_in (k ∷ []) = trees.no_tree_pairs
pairs_in (k ∷ v ∷ vs) = trees.tree_pair k v (pairs_in vs)

-- the tree of a container with these parts
abbrev pub container_of : Due → List Tree → Tree
container_of (items n) vs = trees.array (trees_from vs)
container_of (keys n) vs = trees.map (pairs_in vs)
container_of (values n) vs = trees.map (pairs_in vs)
