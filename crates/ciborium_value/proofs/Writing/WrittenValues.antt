-- What a `Value` names, level by level.
use Rattle.std.proofs.Common.{◌≡◌, ℕ, false, List, [], ◌∷◌, map, Ok, Vec, Box, Global, refl, sym, ◌∙◌, ap}
use Rattle.ciborium_ll.specs.Item.{Item}
use Rattle.ciborium_value.{proofs.Trees.Views.{tree_of-Tag, tree_of-Array, tree_of-Map}, specs.Encoding.item_of}
use Rattle.ciborium_value.specs.{Encoding.{items_of, pairs_of}, Places.{an_array, a_map, items_from, pairs_from}}
use Rattle.ciborium_value.specs.Sinks.{and_then, all_named, contained, container_of, in_turn, named_value, tag_of}
use Rattle.ciborium_value.specs.{Tree.Tree, ValueLists.tree_pairs_of, View.{tree_of, trees_from}}
use Rattle.ciborium_value.specs.declared.tree.Value.{Value}
use Rattle.ciborium_ll.specs.Item as item
use Rattle.ciborium_value.specs.Tree as trees
use Rattle.ciborium_value.specs.declared.tree.Value as value

-- each part of a list by its tree: of the values of a type that holds itself, too
module _ {T : Type 0} (as_tree : T → Tree) where
  abbrev items : List T → List Item
  items [] = []
  items (v ∷ vs) = item_of (as_tree v) ∷ items vs

  all-items : (vs : List T) → all_named (map (λ v. Ok (item_of (as_tree v))) vs) ≡ Ok (items vs)
  all-items [] = refl
  all-items (v ∷ vs) = ap (and_then (Ok (item_of (as_tree v)))) (all-items vs)

  from-items : (vs : List T) → items_from (items vs) ≡ items_of (trees_from (map as_tree vs))
  from-items [] = refl
  from-items (v ∷ vs) = ap (item.item (item_of (as_tree v))) (from-items vs)

  pub named-parts : (vs : List T) (v : T) → as_tree v ≡ trees.array (trees_from (map as_tree vs)) →
      container_of an_array (map (λ w. Ok (item_of (as_tree w))) vs) ≡ Ok (item_of (as_tree v))
  named-parts vs v is = ap (contained an_array false) (all-items vs) ∙
      ap (λ l. Ok (item.array false l)) (from-items vs) ∙ ap (λ t. Ok (item_of t)) (sym is)

pub named-Array : (v : Value) (vs : Vec Value Global) → v ≡ value.Array vs →
    container_of an_array (map named_value vs.items) ≡ named_value v
named-Array v vs is = named-parts tree_of vs.items v (ap tree_of is ∙ tree_of-Array vs)

-- each key and value of a list of pairs
abbrev pair_items : List (Value × Value) → List Item
pair_items [] = []
pair_items (p ∷ ps) = item_of (tree_of p.0) ∷ item_of (tree_of p.1) ∷ pair_items ps

all-pair_items : (ps : List (Value × Value)) → all_named (in_turn named_value named_value ps) ≡ Ok (pair_items ps)
all-pair_items [] = refl
all-pair_items (p ∷ ps) = ap (λ r. and_then (named_value p.0) (and_then (named_value p.1) r)) (all-pair_items ps)

from-pair_items : (ps : List (Value × Value)) → pairs_from (pair_items ps) ≡ pairs_of (tree_pairs_of ps)
from-pair_items [] = refl
from-pair_items (p ∷ ps) = ap (item.pair (item_of (tree_of p.0)) (item_of (tree_of p.1))) (from-pair_items ps)

pub named-Map : (v : Value) (ps : Vec (Value × Value) Global) → v ≡ value.Map ps →
    container_of a_map (in_turn named_value named_value ps.items) ≡ named_value v
named-Map v ps is = ap (contained a_map false) (all-pair_items ps.items) ∙ ap (λ l. Ok (item.map false l))
    (from-pair_items ps.items) ∙ ap (λ t. Ok (item_of t)) (sym (ap tree_of is ∙ tree_of-Map ps))

pub named-Tag : (v : Value) (t : ℕ) (content : Box Value Global) → v ≡ value.Tag t content →
    tag_of t (named_value content.value) ≡ named_value v
named-Tag v t content is = ap (λ t. Ok (item_of t)) (sym (ap tree_of is ∙ tree_of-Tag t content))
