-- What holds of deterministic forms (RFC 8949, section 4.2).
use Rattle.std.specs.Prelude.{◌≡◌, ◌↔◌, ◌⊎◌, ℕ, ◌+◌, ◌≤◌, length, Some}
use Rattle.ciborium_ll.specs.{Bytes.greatest_offset, declared.kind.Kind.Kind}
use Rattle.ciborium_value.specs.{DeterministicForms.deterministic_form, Encoding.{encoding, item_of}, Folded.folded}
use Rattle.ciborium_value.specs.{Nesting.nesting, ProperTrees.IsProperTree, SameContents.IsAlike}
use Rattle.ciborium_value.specs.{Spelling.{deterministic, IsReadAs}, Given.{gives, refuses}, Tree.Tree}
use Rattle.ciborium_value.specs.declared.key_order.KeyOrder.{KeyOrder}
use Rattle.ciborium_ll.specs.declared.kind.Kind.TheVariants as kinds

-- the form of a form is itself
abbrev pub FormIsItsOwn : Type 0
FormIsItsOwn = (o : KeyOrder) (v u : Tree) → deterministic_form o v ≡ gives u → deterministic_form o u ≡ gives u

-- of a tree that a program can hold the encoding is accepted, where it stands at offset p with l
-- levels left, just where the tree is its own form, nests within the levels, and the encoding ends
-- within the greatest offset
abbrev pub AcceptedWhereOwnForm : Type 0
AcceptedWhereOwnForm = (o : KeyOrder) (v : Tree) (p l : ℕ) →
    IsProperTree v → IsReadAs (deterministic o) (encoding v) p (Some l) v ↔ ((deterministic_form o v ≡ gives v) ×
    (nesting (item_of v) ≤ l) × (p + length (encoding v) ≤ greatest_offset))

-- trees that are equal but for the order of pairs and folding have the same form, if one of them
-- has one
abbrev pub AlikeHaveOneForm : Type 0
AlikeHaveOneForm = (o : KeyOrder) (v w u : Tree) → IsAlike v w → deterministic_form o v ≡ gives u →
    deterministic_form o w ≡ gives u

-- and two trees that have one form are so
abbrev pub OneFormWhereAlike : Type 0
OneFormWhereAlike = (o : KeyOrder) (v w t u : Tree) → deterministic_form o v ≡ gives t →
    deterministic_form o w ≡ gives u → (t ≡ u) ↔ IsAlike v w

-- a tree is equal to its form but for the order of pairs and folding
abbrev pub FormIsAlike : Type 0
FormIsAlike = (o : KeyOrder) (v u : Tree) → deterministic_form o v ≡ gives u → IsAlike v u

-- the form of a tree that a program can hold is such a tree
abbrev pub FormIsProper : Type 0
FormIsProper = (o : KeyOrder) (v u : Tree) → IsProperTree v → deterministic_form o v ≡ gives u → IsProperTree u

-- a tree that has a meaning is refused a form for equal keys alone
abbrev pub RefusedByDuplicates : Type 0
RefusedByDuplicates = (o : KeyOrder) (v u : Tree) (k : Kind) → folded v ≡ Some u →
    deterministic_form o v ≡ refuses k → k ≡ kinds.DuplicateKey

-- each tree has a form, or none for one of two reasons: two keys of a map have one form, or a
-- bignum of at most 16 bytes is negative and no `i128` holds it
abbrev pub FormOrRefused : Type 0
FormOrRefused = (o : KeyOrder) (v : Tree) → ((u : Tree) × (deterministic_form o v ≡ gives u)) ⊎
    ((deterministic_form o v ≡ refuses kinds.DuplicateKey) ⊎ (deterministic_form o v ≡ refuses kinds.TooLarge))
