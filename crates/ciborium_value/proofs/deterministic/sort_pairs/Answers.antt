use Rattle.std.proofs.{Common.{rules, ◌∙◌}, lemmas.Fn.always_returns_same}
use Rattle.ciborium_value.proofs.Forms.ReorderedPairs.{alike-reordered, permuted-reordered, sorted-never_falls}
use Rattle.ciborium_value.proofs.Forms.ReorderedPairs.{sorted-reordered, stands_before, stands_before-orders}
use Rattle.ciborium_value.proofs.Forms.SortedPairs.{apart_rising, rising_apart, rising-sorted, tied_refused}
use Rattle.ciborium_value.proofs.deterministic.sort_pairs.Goals as goal

pub returns-then-keys_differ-clause-ok : goal.returns-then-keys_differ-clause-ok
returns-then-keys_differ-clause-ok c =
    let reordered = permuted-reordered _ _ c.sort_unstable_by.ensures.permutation in
    let in_order = sorted-never_falls c.args.order _ (c.sort_unstable_by.ensures.sorted (stands_before c.args.order)
    (stands_before-orders c.args.order) (always_returns_same _ _ _ (λ a r f k. search rules))) in
    let apart = c.keys_differ.ensures.0 c.if-keys_differ.true in
    sorted-reordered c.args.order reordered ∙ rising-sorted c.args.order _
    (apart_rising c.args.order _ in_order (search (rules, apart)))

pub returns-then-keys_differ-clause-alike : goal.returns-then-keys_differ-clause-alike
returns-then-keys_differ-clause-alike c = alike-reordered
    (permuted-reordered _ _ c.sort_unstable_by.ensures.permutation)

pub returns-else-keys_differ-clause-refused : goal.returns-else-keys_differ-clause-refused
returns-else-keys_differ-clause-refused c =
    let reordered = permuted-reordered _ _ c.sort_unstable_by.ensures.permutation in
    let in_order = sorted-never_falls c.args.order _ (c.sort_unstable_by.ensures.sorted (stands_before c.args.order)
    (stands_before-orders c.args.order) (always_returns_same _ _ _ (λ a r f k. search rules))) in
    sorted-reordered c.args.order reordered
    ∙ tied_refused c.args.order _ in_order (λ rises. let apart = rising_apart c.args.order _ rises in let yes =
    c.keys_differ.ensures.1 (search (rules, apart)) in search (rules, yes))

pub returns-else-keys_differ-clause-alike : goal.returns-else-keys_differ-clause-alike
returns-else-keys_differ-clause-alike c = alike-reordered
    (permuted-reordered _ _ c.sort_unstable_by.ensures.permutation)
