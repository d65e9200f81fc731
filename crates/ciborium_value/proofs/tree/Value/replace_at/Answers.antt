use Rattle.std.proofs.Common.{rules}
use Rattle.ciborium_value.specs.declared.tree.Value.{the_lemmas}
use Rattle.ciborium_value.proofs.{Trees.LookedUp.{nth_within, nth_past}, Trees.Replaced.nth_tree-set}
use Rattle.ciborium_value.proofs.{Trees.Replaced.{nth_tree-set_other, trees_of-set}, Trees.Views.tree_of-Array}
use Rattle.ciborium_value.proofs.tree.Value.replace_at.Goals as goal

pub returns-in-Some-clause-ok : goal.returns-in-Some-clause-ok
returns-in-Some-clause-ok c =
    let e = nth_within c.args.index c.in-Array.items.items c.replace.result (search (rules, the_lemmas))
    (search (rules, the_lemmas)) in
    search (rules, the_lemmas, tree_of-Array, e)

pub returns-in-Some-clause-tree : goal.returns-in-Some-clause-tree
returns-in-Some-clause-tree c = search (rules, the_lemmas, tree_of-Array, trees_of-set)

pub returns-in-Some-clause-found : goal.returns-in-Some-clause-found
returns-in-Some-clause-found c =
    let e = nth_tree-set c.args.index c.args.value c.in-Array.items.items (search (rules, the_lemmas)) in
    search (rules, the_lemmas, tree_of-Array, e)

pub returns-in-Some-clause-others : goal.returns-in-Some-clause-others
returns-in-Some-clause-others c = λ j apart.
    let e = nth_tree-set_other j c.args.index c.args.value c.in-Array.items.items apart in
    search (rules, the_lemmas, tree_of-Array, e)

pub returns-in-None-clause-err : goal.returns-in-None-clause-err
returns-in-None-clause-err c =
    let e = nth_past c.args.index c.in-Array.items.items (search (rules, the_lemmas)) in
    search (rules, the_lemmas, tree_of-Array, e)
