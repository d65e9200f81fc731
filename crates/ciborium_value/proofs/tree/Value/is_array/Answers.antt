use Rattle.std.proofs.Common.{◌∙◌, ap, refl}
use Rattle.ciborium_value.{proofs.Trees.Views.tree_of-Array, specs.{ValueLists.trees_of, View.tree_of}}
use Rattle.ciborium_value.proofs.tree.Value.is_array.Goals as goal

pub returns-in-Array-clause-tree : goal.returns-in-Array-clause-tree
returns-in-Array-clause-tree c = (
  λ _. (
    trees_of c.in-Array.field-0.items,
    ap tree_of c.in-Array.is ∙
        tree_of-Array c.in-Array.field-0,
  ),
  λ _. refl,
)
