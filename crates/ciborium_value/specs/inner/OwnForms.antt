-- Trees that are their own deterministic form: each bignum is what it folds to, and the keys of
-- each map rise (RFC 8949, sections 3.4.3 and 4.2).
use Rattle.std.specs.{Prelude.{◌≡◌, List, [], ◌∷◌, Some, false, MatchOption}, Ordering.is_eq}
use Rattle.ciborium_value.specs.{Canonical.bytewise_order, Deterministic.{AreRising, keys_of}}
use Rattle.ciborium_value.specs.{Folded.tree_folding_bytes, Meaning.bignum_meaning, Tree.{Tree, integer, bytes, text}}
use Rattle.ciborium_value.specs.Tree.{boolean, null, tag, array, map, Trees, no_trees, tree, TreePairs, no_tree_pairs}
use Rattle.ciborium_value.specs.{Tree.tree_pair, declared.key_order.KeyOrder.KeyOrder}

abbrev mutual
  -- a tag that folds is over the bytes that it folds to
  pub IsFormed : KeyOrder → Tree → Type 0
  IsFormed o (integer z) = Unit {0}
  IsFormed o (bytes b) = Unit {0}
  IsFormed o (text b) = Unit {0}
  IsFormed o (boolean b) = Unit {0}
  IsFormed o null = Unit {0}
  IsFormed o (tag t v) = MatchOption (tree_folding_bytes t v) (IsFormed o v) (λ b. bignum_meaning t b ≡ Some (tag t v))
  IsFormed o (array vs) = AreFormed o vs
  IsFormed o (map ps) = AreRising o (keys_of ps) × PairsAreFormed o ps

  -- each tree
  pub AreFormed : KeyOrder → Trees → Type 0
  AreFormed o no_trees = Unit {0}
  AreFormed o (tree v vs) = IsFormed o v × AreFormed o vs

  -- each key and each value
  pub PairsAreFormed : KeyOrder → TreePairs → Type 0
  PairsAreFormed o no_tree_pairs = Unit {0}
  PairsAreFormed o (tree_pair k v ps) = IsFormed o k × IsFormed o v × PairsAreFormed o ps

-- no two in a row have one encoding
abbrev pub AreApart : List Tree → Type 0
AreApart [] = Unit {0}
AreApart (k ∷ []) = Unit {0}
AreApart (k ∷ (j ∷ ks)) = (is_eq (bytewise_order k j) ≡ false) × AreApart (j ∷ ks)
