use Rattle.std.proofs.Common.{sym, subst, ◌∙◌}
use Rattle.ciborium_value.proofs.Trees.Views.{tree_of-Integer, tree_of-Null}
use Rattle.ciborium.{proofs.Items.WholeValues.{portable-null, portable-number}, specs.inner.ByteSources.MeansTree}
use Rattle.ciborium.proofs.de.byte_source.scalars.portable_value.Goals as goal

pub returns-in-Positive : goal.returns-in-Positive
returns-in-Positive c = subst (MeansTree c.args.header) (sym (tree_of-Integer c.from.result))
    (portable-number c.args.header c.in-Positive.n c.from.result c.in-Positive.is c.from.ensures)

pub returns-then-is_null : goal.returns-then-is_null
returns-then-is_null c = subst (MeansTree c.args.header) (sym tree_of-Null)
    (portable-null c.args.header c.in-Simple.number c.in-Simple.is (sym c.is_null.ensures ∙ c.if-is_null.true))
