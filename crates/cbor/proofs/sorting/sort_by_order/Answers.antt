use Rattle.std.proofs.{Common.rules, lemmas.Fn.always_returns_same}
use Rattle.ciborium_value.specs.declared.key_order.KeyOrder.TheVariants.{Bytewise}
use Rattle.cbor.proofs.SortedValues.{sorted-trees, stands_before, stands_before-orders}
use Rattle.cbor.proofs.sorting.sort_by_order.Goals as goal

pub returns-in_ok-sort_by-in-Bytewise-clause-sorted : goal.returns-in_ok-sort_by-in-Bytewise-clause-sorted
returns-in_ok-sort_by-in-Bytewise-clause-sorted c =
    rw c.in-Bytewise.is (sorted-trees Bytewise _ (c.in_ok-sort_by-in-Bytewise.ensures.sorted (stands_before Bytewise)
    (stands_before-orders Bytewise) (always_returns_same _ _ _ (λ a r f k. search rules))))
