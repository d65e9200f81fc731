-- Critical labels, by the list of values that names them.
use Rattle.std.proofs.Common.{◌≡◌, refl, List, [], ◌∷◌, Some}
use Rattle.ciborium.specs.{Tree.Tree, ValueLists.trees_of}
use Rattle.ciborium_value.specs.declared.tree.Value.{Value}
use Rattle.ciborium_uses.specs.Envelopes.{are_critical, is_crit}
use Rattle.ciborium.specs.Tree as trees

-- where there is one at least, they decide
pub crit_of : (es : List (Tree × Tree)) (t : Tree) (vs : List Value) → t ≡ trees.array (trees_of vs) →
    ¬ (vs ≡ []) → is_crit es (Some t) ≡ are_critical es (trees_of vs)
crit_of es t [] is some = absurd (some refl)
crit_of es t (v ∷ vs) is some = rw is refl
