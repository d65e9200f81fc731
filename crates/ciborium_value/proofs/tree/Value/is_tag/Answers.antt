use Rattle.std.proofs.Common.{◌∙◌, ap, refl}
use Rattle.ciborium_value.{proofs.Trees.Views.tree_of-Tag, specs.View.tree_of}
use Rattle.ciborium_value.proofs.tree.Value.is_tag.Goals as goal

pub returns-in-Tag-clause-tree : goal.returns-in-Tag-clause-tree
returns-in-Tag-clause-tree c = (
  λ _. (
    c.in-Tag.field-0,
    tree_of c.in-Tag.field-1.value,
    ap tree_of c.in-Tag.is ∙
        tree_of-Tag c.in-Tag.field-0 c.in-Tag.field-1,
  ),
  λ _. refl,
)
