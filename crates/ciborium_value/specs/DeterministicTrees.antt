-- The trees that have a deterministic spelling, by an order of keys (RFC 8949, section 4.2).
use Rattle.std.specs.Prelude.{◌≡◌, ℕ, List, Some}
use Rattle.ciborium_value.specs.{Deterministic.HasRisingKeys, Encoding.encoding, Folded.folded}
use Rattle.ciborium_value.specs.{ProperTrees.IsProperTree, Tree.Tree, declared.key_order.KeyOrder.KeyOrder}

-- a tree that has one: a program can hold it, folding changes nothing, and its maps' keys rise
pub record IsDeterministicTree (o : KeyOrder) (v : Tree) : Type 0 where
  pub proper : IsProperTree v
  pub folds : folded v ≡ Some v
  pub rises : HasRisingKeys o v

-- b is the deterministic spelling of v: its one shortest definite encoding
abbrev pub IsDeterministic : KeyOrder → List ℕ → Tree → Type 0
IsDeterministic o b v = (b ≡ encoding v) × IsDeterministicTree o v
