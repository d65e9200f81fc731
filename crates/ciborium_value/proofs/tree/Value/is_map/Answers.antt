use Rattle.std.proofs.Common.{◌∙◌, ap, refl}
use Rattle.ciborium_value.{proofs.Trees.Views.tree_of-Map, specs.{ValueLists.tree_pairs_of, View.tree_of}}
use Rattle.ciborium_value.proofs.tree.Value.is_map.Goals as goal

pub returns-in-Map-clause-tree : goal.returns-in-Map-clause-tree
returns-in-Map-clause-tree c = (
  λ _. (
    tree_pairs_of c.in-Map.field-0.items,
    ap tree_of c.in-Map.is ∙
        tree_of-Map c.in-Map.field-0,
  ),
  λ _. refl,
)
