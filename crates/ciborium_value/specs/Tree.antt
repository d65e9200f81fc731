-- The tree that a `Value` stands for: its content, whatever capacity a list or text has. A text is
-- the bytes of its UTF-8.
use Rattle.std.specs.Prelude.{ℕ, ℤ, List, Bool}

mutual
  pub data Tree : Type 0 where
    integer : ℤ → Tree
    bytes : List ℕ → Tree
    text : List ℕ → Tree
    boolean : Bool → Tree
    null : Tree
    tag : ℕ → Tree → Tree
    array : Trees → Tree
    map : TreePairs → Tree

  pub data Trees : Type 0 where
    no_trees : Trees
    tree : Tree → Trees → Trees

  -- a key, its value, and the pairs after them
  pub data TreePairs : Type 0 where
    no_tree_pairs : TreePairs
    tree_pair : Tree → Tree → TreePairs → TreePairs
