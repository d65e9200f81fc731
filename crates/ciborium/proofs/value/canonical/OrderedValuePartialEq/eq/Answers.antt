use Rattle.std.proofs.Common.{IsTrue, ◌≡◌, ◌↔◌, sym, subst, rules}
use Rattle.ciborium_value.{proofs.Orders.OrderedTrees.equal_as_trees, specs.{Derived.value_eq, View.tree_of}}
use Rattle.ciborium.proofs.value.canonical.OrderedValuePartialEq.eq.Goals as goal

pub returns-clause-same : goal.returns-clause-same
returns-clause-same g c =
    let gives : c.eq.result ≡ value_eq c.args.self.now c.args.other.now = search rules in
    subst (λ b. IsTrue b ↔ (tree_of c.args.self.now ≡ tree_of c.args.other.now)) (sym gives)
    (equal_as_trees c.args.self.now c.args.other.now)
