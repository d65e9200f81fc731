use Rattle.std.proofs.{Common.{◌≡◌, None, sym, ap, ◌∙◌, subst, arith}, lemmas.Result.{IfOk-weaker, IfErr-weaker}}
use Rattle.ciborium_ll.specs.Item.{simple}
use Rattle.ciborium_value.specs.{Given.{gives, outcome, given_value, of_meaning}, inner.TreeSources.IsPending}
use Rattle.ciborium_value.specs.{inner.TreeSources.pending_tree_weight, View.tree_of}
use Rattle.ciborium_value.proofs.{Sources.TreeCalls.{given-there, taken-there}, Trees.Views.tree_of-Null}
use Rattle.ciborium_value.proofs.FoldedTrees.FoldedCopies.{given-folded, error_as}
use Rattle.ciborium_value.specs.declared.tree.Value as value
use Rattle.ciborium_ll.specs.declared.kind.Kind.TheVariants as kinds
use Rattle.ciborium_value.proofs.deserialized.TreeSourceSource.value.Goals as goal

pub returns-in-Whole-clause-takes : goal.returns-in-Whole-clause-takes
returns-in-Whole-clause-takes c = taken-there given_value tree_of c.args.self.now c.take.new.self c.take.ensures.next
    c.take.ensures.due c.in-Whole.value c.in-Whole.ensures.ahead c.fold_value.result
    (IfOk-weaker c.fold_value.result _ _ (λ v h. given-folded (tree_of c.in-Whole.value.now) ∙
    ap (of_meaning kinds.TooLarge) h) c.fold_value.ensures.ok)
    (IfErr-weaker c.fold_value.result _ _ (error_as (tree_of c.in-Whole.value.now)) c.fold_value.ensures.refused)

pub returns-in-Null-clause-takes : goal.returns-in-Null-clause-takes
unfolding Rattle.ciborium_value.specs.Meaning.simple_meaning
returns-in-Null-clause-takes c =
    let here = ap pending_tree_weight (sym c.in-Null.ensures.ahead) in
    given-there given_value tree_of c.args.self.now c.take.new.self c.take.ensures.next c.take.ensures.due
    (omega (arith, here)) value.Null (λ i is.
    let null : simple 22 ≡ i = subst (λ o. IsPending o i) (sym c.in-Null.ensures.ahead) is in
    ap (λ j. outcome None (given_value j)) (sym null) ∙ ap gives (sym tree_of-Null))
