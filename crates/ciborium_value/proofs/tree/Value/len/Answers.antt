use Rattle.std.proofs.Common.{Some, ap, sym, ◌∙◌}
use Rattle.ciborium_value.proofs.Trees.Views.{tree_of-Array, tree_of-Map, tree_pairs_count-tree_pairs_of}
use Rattle.ciborium_value.{proofs.Trees.Views.trees_count-trees_of, specs.{Lookups.parts_of, View.tree_of}}
use Rattle.ciborium_value.proofs.tree.Value.len.Goals as goal

pub returns-in-Array : goal.returns-in-Array
returns-in-Array c =
    ap Some (c.len.ensures ∙ c.in-Array.items.ok.0 ∙ sym (trees_count-trees_of c.in-Array.items.items)) ∙
    sym (ap parts_of (ap tree_of c.in-Array.is ∙ tree_of-Array c.in-Array.items))

pub returns-in-Map : goal.returns-in-Map
returns-in-Map c =
    ap Some (c.len-in-Map.ensures ∙ c.in-Map.pairs.ok.0 ∙ sym (tree_pairs_count-tree_pairs_of c.in-Map.pairs.items)) ∙
    sym (ap parts_of (ap tree_of c.in-Map.is ∙ tree_of-Map c.in-Map.pairs))
