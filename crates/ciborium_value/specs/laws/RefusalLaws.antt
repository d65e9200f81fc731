-- What holds of what is read and of refusals, in every spelling.
use Rattle.std.specs.Prelude.{◌≡◌, ◌↔◌, ℕ, ◌+◌, ◌≤◌, ◌⊎◌, List, ◌++◌, length}
use Rattle.ciborium_ll.specs.{Bytes.{AreBytes, greatest_offset}, Refusal.{Refusal, semantic}, declared.kind.Kind.Kind}
use Rattle.ciborium_value.specs.{DeterministicTrees.IsDeterministic, Encoding.item_of, Nesting.{Limit, IsWithin}}
use Rattle.ciborium_value.specs.{Nesting.nesting, Refuses.Refuses, Spelling.{Spelling, deterministic, IsReadAs}}
use Rattle.ciborium_value.specs.{Tree.Tree, declared.key_order.KeyOrder.KeyOrder}
use Rattle.ciborium_ll.specs.declared.kind.Kind.TheVariants as kinds

-- some beginning of b, whose first byte is at offset p, is read as a tree
abbrev pub HasGoodItem : Spelling → List ℕ → ℕ → Limit → Type 0
HasGoodItem spelling b p l = (s : List ℕ) × (v : Tree) × (r : List ℕ) × IsReadAs spelling s p l v × (b ≡ s ++ r)

-- all bytes begin with what is read, or something refuses them
abbrev pub GoodOrRefused : Type 0
GoodOrRefused = (spelling : Spelling) (b : List ℕ) (p : ℕ) (l : Limit) → AreBytes b →
    HasGoodItem spelling b p l ⊎ ((e : Refusal) × Refuses spelling b p l e)

-- never both
abbrev pub NeverBoth : Type 0
NeverBoth = (spelling : Spelling) (b : List ℕ) (p : ℕ) (l : Limit) (e : Refusal) → AreBytes b →
    HasGoodItem spelling b p l → ¬ Refuses spelling b p l e

-- with one refusal alone
abbrev pub OneRefusal : Type 0
OneRefusal = (spelling : Spelling) (b : List ℕ) (p : ℕ) (l : Limit) (e f : Refusal) → AreBytes b →
    Refuses spelling b p l e → Refuses spelling b p l f → e ≡ f

-- for a reason of these kinds alone, the last four in the deterministic spelling
abbrev pub IsRefusalKind : Kind → Type 0
IsRefusalKind kinds.Float = Unit {0}
IsRefusalKind kinds.Simple = Unit {0}
IsRefusalKind kinds.Break = Unit {0}
IsRefusalKind kinds.TooLarge = Unit {0}
IsRefusalKind kinds.NotShortest = Unit {0}
IsRefusalKind kinds.Open = Unit {0}
IsRefusalKind kinds.NotFolded = Unit {0}
IsRefusalKind kinds.KeyOrder = Unit {0}
IsRefusalKind _ = ⊥

abbrev pub NamesRefusalKind : Refusal → Type 0
NamesRefusalKind (semantic p kind) = IsRefusalKind kind
NamesRefusalKind _ = Unit {0}

abbrev pub RefusalKinds : Type 0
RefusalKinds = (spelling : Spelling) (b : List ℕ) (p : ℕ) (l : Limit) (e : Refusal) →
    Refuses spelling b p l e → NamesRefusalKind e

-- and as one tree alone, of the same bytes
abbrev pub OneReading : Type 0
OneReading = (spelling : Spelling) (s t q r : List ℕ) (p : ℕ) (l : Limit) (v w : Tree) →
    IsReadAs spelling s p l v → IsReadAs spelling t p l w → s ++ q ≡ t ++ r → (v ≡ w) × (s ≡ t) × (q ≡ r)

-- what is read in the deterministic spelling is the deterministic encoding of a tree that a program
-- can hold, and that folding does not change
abbrev pub DeterministicReading : Type 0
DeterministicReading = (order : KeyOrder) (s : List ℕ) (p : ℕ) (l : Limit) (v : Tree) →
    IsReadAs (deterministic order) s p l v ↔ (IsDeterministic order s v ×
    IsWithin l (nesting (item_of v)) × (p + length s ≤ greatest_offset))
