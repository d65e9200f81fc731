-- The deterministic form of a tree by an order of keys: bignums folded, and the pairs of each map,
-- inner maps first, sorted by the forms of their keys (RFC 8949, sections 3.4.3 and 4.2).
use Rattle.std.specs.{Prelude.{ℕ, List, Option, Some, None}, declared.cmp.Ordering.Ordering}
use Rattle.std.specs.declared.cmp.Ordering.TheVariants.{Less, Equal, Greater}
use Rattle.ciborium_value.specs.{Canonical.key_order, Folded.tree_folding_bytes, Meaning.bignum_meaning, Given.Outcome}
use Rattle.ciborium_value.specs.{Given.{gives, nests, of_meaning, outcome_map, refuses, then_take}, Tree.Tree}
use Rattle.ciborium_value.specs.Tree.{integer, bytes, text, boolean, null, tag, array, map, Trees, no_trees, tree}
use Rattle.ciborium_value.specs.{Tree.{TreePairs, no_tree_pairs, tree_pair}, declared.key_order.KeyOrder.KeyOrder}
use Rattle.ciborium_ll.specs.declared.kind.Kind.TheVariants as kinds

-- ---- pairs in order

-- a pair before the first pair of others, or behind it, as their keys compare; equal keys are
-- refused
abbrev pub placed_pair : Ordering → Tree → Tree → Tree → Tree → TreePairs → Outcome TreePairs → Outcome TreePairs
placed_pair Less k v l w ps behind = gives (tree_pair k v (tree_pair l w ps))
placed_pair Equal k v l w ps behind = refuses kinds.DuplicateKey
placed_pair Greater k v l w ps behind = outcome_map (tree_pair l w) behind

-- a pair put among pairs whose keys rise
abbrev pub inserted : KeyOrder → Tree → Tree → TreePairs → Outcome TreePairs
inserted o k v no_tree_pairs = gives (tree_pair k v no_tree_pairs)
inserted o k v (tree_pair l w ps) = placed_pair (key_order o k l) k v l w ps (inserted o k v ps)

-- pairs sorted by their keys, of which no two are equal
abbrev pub sorted_pairs : KeyOrder → TreePairs → Outcome TreePairs
sorted_pairs o no_tree_pairs = gives no_tree_pairs
sorted_pairs o (tree_pair k v ps) = then_take (sorted_pairs o ps) (inserted o k v)

-- ---- forms

-- the first reason why a tree or one of those after it has no form, or all forms
abbrev pub one_more : Outcome Tree → Outcome Trees → Outcome Trees
one_more (gives v) o = outcome_map (tree v) o
one_more (refuses k) o = refuses k
one_more nests o = nests

-- the same of a pair and those after it
abbrev pub one_pair_more : Outcome Tree → Outcome Tree → Outcome TreePairs → Outcome TreePairs
one_pair_more (gives k) (gives v) o = outcome_map (tree_pair k v) o
one_pair_more (gives k) (refuses j) o = refuses j
one_pair_more (gives k) nests o = nests
one_pair_more (refuses j) v o = refuses j
one_pair_more nests v o = nests

-- a tag: what the bytes mean over which it folds, else the tag over the form of its content
abbrev pub tag_form : ℕ → Option (List ℕ) → Outcome Tree → Outcome Tree
tag_form t (Some b) content = of_meaning kinds.TooLarge (bignum_meaning t b)
tag_form t None content = outcome_map (tag t) content

abbrev mutual
  -- the form, or why there is none: the first bignum that has no meaning, or map in which the keys
  -- of two pairs have one form
  pub deterministic_form : KeyOrder → Tree → Outcome Tree
  deterministic_form o (integer z) = gives (integer z)
  deterministic_form o (bytes b) = gives (bytes b)
  deterministic_form o (text b) = gives (text b)
  deterministic_form o (boolean b) = gives (boolean b)
  deterministic_form o null = gives null
  deterministic_form o (tag t v) = tag_form t (tree_folding_bytes t v) (deterministic_form o v)
  deterministic_form o (array vs) = outcome_map array (deterministic_forms o vs)
  deterministic_form o (map ps) = outcome_map map (then_take (pair_forms o ps) (sorted_pairs o))

  -- of each tree
  pub deterministic_forms : KeyOrder → Trees → Outcome Trees
  deterministic_forms o no_trees = gives no_trees
  deterministic_forms o (tree v vs) = one_more (deterministic_form o v) (deterministic_forms o vs)

  -- of each key and each value, the pairs as they stand
  pub pair_forms : KeyOrder → TreePairs → Outcome TreePairs
  pair_forms o no_tree_pairs = gives no_tree_pairs
  pair_forms o (tree_pair k v ps) = one_pair_more (deterministic_form o k) (deterministic_form o v) (pair_forms o ps)
