use Rattle.std.proofs.Common.{rules}
use Rattle.ciborium_value.specs.declared.tree.Value.{the_lemmas}
use Rattle.std.proofs.{Common.arith, lemmas.Grind.common_steps}
use Rattle.std.proofs.Common.{subst, ap, sym, ◌∙◌, add-one}
use Rattle.ciborium_value.proofs.Forms.FormedLists.{failed, AreFormed-more, formed_at, PairsAreFormed-more}
use Rattle.ciborium_value.proofs.{Forms.FormedLists.pair_formed_at, Trees.{Elements.at, Views.tree_of-Map}}
use Rattle.ciborium_value.specs.{Deterministic.{AreRising, keys_of}, ValueLists.tree_pairs_of, View.tree_of}
use Rattle.ciborium_value.specs.inner.OwnForms.{IsFormed}
use Rattle.ciborium_value.proofs.deterministic.+is_formed.Goals as goal

pub is_formed-returns-else-keys_rise : goal.is_formed-returns-else-keys_rise
is_formed-returns-else-keys_rise t c =
    let tree = ap tree_of c.in-Map.is ∙ tree_of-Map _ in
    let flat = failed c.keys_rise.result c.keys_rise.ensures c.if-keys_rise.false in (
      λ yes. absurd (flat (c.keys_rise.ensures.0 yes)),
      λ formed. let whole =
          subst (IsFormed c.args.order) tree formed in c.keys_rise.ensures.1
          (subst (λ l. AreRising c.args.order (keys_of (tree_pairs_of l))) (sym c.deref-in-Map.ensures.value) whole.0),
    )

pub are_formed-returns-then-not-is_formed : goal.are_formed-returns-then-not-is_formed
are_formed-returns-then-not-is_formed t c =
    let a = rw c.deref-item-items.ensures.value at (at c.loop-item-test.true c.item-item.is) in (
      λ no. absurd cc,
      λ all. absurd (failed c.is_formed.result c.is_formed.ensures c.if-not-is_formed.true
          (formed_at c.args.order a all)),
    )

pub are_formed-loop-item-preserved : goal.are_formed-loop-item-preserved
are_formed-loop-item-preserved t c =
    rw add-one (AreFormed-more c.args.order (at c.loop-item-test.true c.item-item.is) c.loop-item.invariant
    (c.is_formed.ensures.0 c.if-not-is_formed.false))

pub pairs_are_formed-returns-then-not-is_formed : goal.pairs_are_formed-returns-then-not-is_formed
pairs_are_formed-returns-then-not-is_formed t c =
    let a = rw c.deref-pair-items.ensures.value at (at c.loop-pair-test.true c.pair-item.is) in (
      λ no. absurd cc,
      λ all. absurd (failed c.is_formed.result c.is_formed.ensures c.if-not-is_formed.true
          (pair_formed_at c.args.order a all).0),
    )

pub pairs_are_formed-returns-then-not-is_formed-2 : goal.pairs_are_formed-returns-then-not-is_formed-2
pairs_are_formed-returns-then-not-is_formed-2 t c =
    let a = rw c.deref-pair-items.ensures.value at (at c.loop-pair-test.true c.pair-item.is) in (
      λ no. absurd cc,
      λ all. absurd (failed c.is_formed-in-loop-pair.result c.is_formed-in-loop-pair.ensures
          c.if-not-is_formed-2.true (pair_formed_at c.args.order a all).1),
    )

pub pairs_are_formed-loop-pair-preserved : goal.pairs_are_formed-loop-pair-preserved
pairs_are_formed-loop-pair-preserved t c =
    rw add-one (PairsAreFormed-more c.args.order (at c.loop-pair-test.true c.pair-item.is) c.loop-pair.invariant
    (c.is_formed.ensures.0 c.if-not-is_formed.false) (c.is_formed-in-loop-pair.ensures.0 c.if-not-is_formed-2.false))

pub pairs_are_formed-returns : goal.pairs_are_formed-returns
pairs_are_formed-returns t c = grind (arith, common_steps)

pub is_formed-returns-in-None : goal.is_formed-returns-in-None
is_formed-returns-in-None t c = search (rules, the_lemmas)

pub is_formed-returns-in-Array : goal.is_formed-returns-in-Array
is_formed-returns-in-Array t c = search (rules, the_lemmas)

pub is_formed-returns-in-Some : goal.is_formed-returns-in-Some
is_formed-returns-in-Some t c = search (rules, the_lemmas)

pub is_formed-returns-then-keys_rise : goal.is_formed-returns-then-keys_rise
is_formed-returns-then-keys_rise t c = search (rules, the_lemmas)
