-- A tree is written level by level.
use Rattle.std.proofs.Common.{◌≡◌, ℕ, pos, Ok, Vec, Global, IfErr, map, rules, subst, sym, ap, ◌∙◌}
use Rattle.std.proofs.lemmas.Result.{on_ok_weaker, on_err_weaker}
use Rattle.ciborium.specs.{Encoding.item_of, Number.number_tree, Places.an_array, Sinks.{AddsNamed, BreaksNamed}}
use Rattle.ciborium.specs.{Sinks.{IsOwed, Named, container_of, number_item}, View.trees_from}
use Rattle.ciborium_value.proofs.{FoldedTrees.NumberItems.number_tree-item, Writing.WrittenValues.named-parts}
use Rattle.ciborium_examples.specs.{NumberTrees.shape_of, declared.tree_types.NumberTree.{NumberTree, the_lemmas}}
use Rattle.ciborium.specs.Tree as trees
use Rattle.ciborium_examples.specs.declared.tree_types.NumberTree as tree
use Rattle.ciborium_examples.proofs.tree_types.NumberTreeSerialize.+serialize.Goals as goal

abbrev named : NumberTree → Named
named t = Ok (item_of (shape_of t))

shape-leaf : (n : ℕ) → shape_of (tree.Leaf n) ≡ number_tree (pos n)
shape-leaf n = search (rules, the_lemmas)

shape-node : (parts : Vec NumberTree Global) → shape_of (tree.Node parts) ≡ trees.array
    (trees_from (map shape_of parts.items))
shape-node parts = search (rules, the_lemmas)

leaf : (t : NumberTree) (n : ℕ) → t ≡ tree.Leaf n → Ok (number_item (pos n)) ≡ named t
leaf t n is = ap Ok (sym (number_tree-item (pos n))) ∙ ap (λ v. Ok (item_of v)) (sym (ap shape_of is ∙ shape-leaf n))

node : (t : NumberTree) (parts : Vec NumberTree Global) → t ≡ tree.Node parts →
    container_of an_array (map named parts.items) ≡ named t
node t parts is = named-parts shape_of parts.items t (ap shape_of is ∙ shape-node parts)

pub returns-in-Leaf-clause-ok : goal.returns-in-Leaf-clause-ok
returns-in-Leaf-clause-ok g t c = on_ok_weaker _ (subst
    (AddsNamed g.S.Sink.stands_at c.args.sink.now c.serialize.new.sink) (leaf _ _ c.in-Leaf.is)) c.serialize.ensures.ok

pub returns-in-Leaf-clause-err : goal.returns-in-Leaf-clause-err
returns-in-Leaf-clause-err g t c = on_err_weaker _ (subst
    (BreaksNamed g.S.Sink.stands_at g.S.Sink.out c.args.sink.now c.serialize.new.sink) (leaf _ _ c.in-Leaf.is))
    c.serialize.ensures.err

pub returns-in-Node-clause-ok : goal.returns-in-Node-clause-ok
returns-in-Node-clause-ok g t c = on_ok_weaker _ (subst
    (AddsNamed g.S.Sink.stands_at c.args.sink.now c.serialize-in-Node.new.sink) (node _ _ c.in-Node.is))
    c.serialize-in-Node.ensures.ok

pub returns-in-Node-clause-cause : goal.returns-in-Node-clause-cause
returns-in-Node-clause-cause g t c = subst (λ n. IfErr c.serialize-in-Node.result (λ e. IsOwed (g.S.Sink.cause e) n))
    (node _ _ c.in-Node.is) c.serialize-in-Node.ensures.cause

pub returns-in-Node-clause-err : goal.returns-in-Node-clause-err
returns-in-Node-clause-err g t c = on_err_weaker _ (subst
    (BreaksNamed g.S.Sink.stands_at g.S.Sink.out c.args.sink.now c.serialize-in-Node.new.sink) (node _ _ c.in-Node.is))
    c.serialize-in-Node.ensures.err
