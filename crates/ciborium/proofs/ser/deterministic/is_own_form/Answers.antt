use Rattle.std.proofs.Common.{ap, ◌∙◌}
use Rattle.ciborium_value.specs.{DeterministicForms.deterministic_form, View.tree_of}
use Rattle.ciborium_value.specs.lemmas.ItemsOfTrees.{tree_is_written_as_itself}
use Rattle.ciborium.proofs.ser.deterministic.is_own_form.Goals as goal

pub returns : goal.returns
returns c t = ap (deterministic_form c.args.order) (tree_is_written_as_itself (tree_of c.args.value.now)) ∙
    c.is_deterministic.ensures.0 t
