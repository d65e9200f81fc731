use Rattle.std.proofs.Common.{◌≡◌, ◌∙◌, ap, sym, get_or, rules, Some}
use Rattle.ciborium_value.specs.{Lookups.{last_with, replaced_under, tree_under}, ValueLists.tree_pairs_of}
use Rattle.ciborium_value.specs.{View.tree_of, declared.tree.Value.the_lemmas}
use Rattle.ciborium_value.proofs.Trees.Replaced.{replaced-found, replaced-other, tree_pairs_of-set}
use Rattle.ciborium_value.proofs.Trees.Views.{tree_of-Map}
use Rattle.ciborium_value.proofs.tree.Value.replace.Goals as goal

pub returns-in-Some-clause-tree : goal.returns-in-Some-clause-tree
returns-in-Some-clause-tree g c = search (rules, the_lemmas, tree_of-Map, tree_pairs_of-set)

pub returns-in-Some-clause-found : goal.returns-in-Some-clause-found
returns-in-Some-clause-found g c =
    let l = g.L.SoughtLabel.label c.args.label in let w = tree_of c.args.value in
    let ps = c.in-Map.pairs.items in let old = ap tree_of c.in-Map.is ∙ tree_of-Map _ in
    let there : last_with l (tree_pairs_of ps) ≡ Some (tree_of (get_or ps c.in-Some.place c.index_mut.result.now).1) =
    search (rules, the_lemmas) in
    ap (tree_under l) (returns-in-Some-clause-tree g c ∙ ap (replaced_under l w) old) ∙
    replaced-found l w _ (tree_pairs_of ps) there

pub returns-in-Some-clause-others : goal.returns-in-Some-clause-others
returns-in-Some-clause-others g c = λ l apart.
    let k = g.L.SoughtLabel.label c.args.label in let w = tree_of c.args.value in
    let old = ap tree_of c.in-Map.is ∙ tree_of-Map _ in
    ap (tree_under l) (returns-in-Some-clause-tree g c ∙ ap (replaced_under k w) old) ∙
    (replaced-other l k w (tree_pairs_of c.in-Map.pairs.items) apart ∙ sym (ap (tree_under l) old))
