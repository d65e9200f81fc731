-- The order of keys that deterministic encoding asks for, in every map of a tree (RFC 8949, section
-- 4.2; length-first: section 4.2.3, bytewise: section 4.2.1).
use Rattle.std.specs.{Prelude.{◌≡◌, List, [], ◌∷◌}, declared.cmp.Ordering.TheVariants.Less}
use Rattle.ciborium_value.specs.{Canonical.key_order, Tree.{Tree, integer, bytes, text, boolean, null, tag, array, map}}
use Rattle.ciborium_value.specs.Tree.{Trees, no_trees, tree, TreePairs, no_tree_pairs, tree_pair}
use Rattle.ciborium_value.specs.declared.key_order.KeyOrder.{KeyOrder}

-- each stands behind the one before it in the order
abbrev pub AreRising : KeyOrder → List Tree → Type 0
AreRising o [] = Unit {0}
AreRising o (k ∷ []) = Unit {0}
AreRising o (k ∷ (j ∷ ks)) = (key_order o k j ≡ Less) × AreRising o (j ∷ ks)

-- the keys of pairs
abbrev pub keys_of : TreePairs → List Tree
keys_of no_tree_pairs = []
keys_of (tree_pair k v ps) = k ∷ keys_of ps

abbrev mutual
  -- in every map of a tree the keys strictly rise
  pub HasRisingKeys : KeyOrder → Tree → Type 0
  HasRisingKeys o (integer z) = Unit {0}
  HasRisingKeys o (bytes b) = Unit {0}
  HasRisingKeys o (text b) = Unit {0}
  HasRisingKeys o (boolean b) = Unit {0}
  HasRisingKeys o null = Unit {0}
  HasRisingKeys o (tag t v) = HasRisingKeys o v
  HasRisingKeys o (array vs) = HaveRisingKeys o vs
  HasRisingKeys o (map ps) = AreRising o (keys_of ps) × PairsHaveRisingKeys o ps

  -- of each tree
  pub HaveRisingKeys : KeyOrder → Trees → Type 0
  HaveRisingKeys o no_trees = Unit {0}
  HaveRisingKeys o (tree v vs) = HasRisingKeys o v × HaveRisingKeys o vs

  -- of each key and each value
  pub PairsHaveRisingKeys : KeyOrder → TreePairs → Type 0
  PairsHaveRisingKeys o no_tree_pairs = Unit {0}
  PairsHaveRisingKeys o (tree_pair k v ps) = HasRisingKeys o k × HasRisingKeys o v × PairsHaveRisingKeys o ps
