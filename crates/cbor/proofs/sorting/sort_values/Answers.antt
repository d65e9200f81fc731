use Rattle.std.proofs.{Common.rules, lemmas.Fn.always_returns_same, lemmas.Result.IfOk-weaker}
use Rattle.ciborium_value.specs.declared.key_order.KeyOrder.TheVariants.{LengthFirst}
use Rattle.cbor.proofs.SortedValues.{sorted-trees, stands_before, stands_before-orders}
use Rattle.cbor.proofs.sorting.sort_values.Goals as goal

pub returns-then-len-le-MOST_IN_PLACE-clause-sorted : goal.returns-then-len-le-MOST_IN_PLACE-clause-sorted
returns-then-len-le-MOST_IN_PLACE-clause-sorted c =
    sorted-trees LengthFirst _ (c.in_ok-sort_by.ensures.sorted (stands_before LengthFirst)
    (stands_before-orders LengthFirst) (always_returns_same _ _ _ (λ a r f k. search rules)))

pub returns-clause-sorted : goal.returns-clause-sorted
returns-clause-sorted c =
    let up = sorted-trees LengthFirst _ (c.in_ok-sort_by-2.ensures.sorted (stands_before LengthFirst)
    (stands_before-orders LengthFirst) (always_returns_same _ _ _ (λ a r f k. search rules))) in
    IfOk-weaker c.give_values.result _ _ (λ v same. rw same up) c.give_values.ensures.same
