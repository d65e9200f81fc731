use Rattle.std.proofs.Common.{◌≡◌, ◌<◌, ◌≤◌, List, ℕ, length, get_or, rules, refl, sym, ap, ◌∙◌, subst, arith, add-one}
use Rattle.ciborium_value.specs.{Encoding.encoding, declared.tree.Value.the_lemmas}
use Rattle.ciborium_value.proofs.Orders.VisitCounts.{items_visits-differ, items_visits-same, keys_visits-differ}
use Rattle.ciborium_value.proofs.Orders.VisitCounts.{values_visits-differ, pairs_visits-same}
use Rattle.ciborium_value.proofs.Orders.SideBySide.{different_heads, contents_decide, payloads_decide, payloads_as_long}
use Rattle.ciborium_value.proofs.Orders.SideBySide.{same_payload-Bytes, same_payload-Text, alone_tied, as_many_items}
use Rattle.ciborium_value.proofs.Orders.SideBySide.{as_many_pairs, items_differ, items_same, items_all, keys_differ}
use Rattle.ciborium_value.proofs.Orders.SideBySide.{values_differ, pairs_same, pairs_all, same_decides, tied}
use Rattle.ciborium_value.proofs.Orders.TreeEncodings.{content_bytes-Bytes, content_bytes-Text, content_bytes-Tag}
use Rattle.ciborium_value.proofs.Orders.TreeEncodings.{content_bytes-Array, content_bytes-Map, argument_of-Bytes}
use Rattle.ciborium_value.proofs.Orders.TreeEncodings.{argument_of-Text}
use Rattle.ciborium_value.proofs.Trees.Elements.{At, at}
use Rattle.ciborium_value.proofs.canonical.+compare.Goals as goal

-- a walk over the left list stands inside both
both : {A : Type 0} {i m n : ℕ} {start left right : List A} {x y : A} → start ≡ left → x ≡ get_or start i x →
    i < length start → m ≡ n → m ≡ length left → n ≡ length right → y ≡ get_or right i y → At i left x × At i right y
both {i = i} {left = left} same is less as_many first second other =
    let within : i < length left = rw same at less in
    (at within (rw same at is), at (omega (arith, within, as_many, first, second)) other)

pub compare-returns-then-is_ne-clause-decides : goal.compare-returns-then-is_ne-clause-decides
compare-returns-then-is_ne-clause-decides t c =
    different_heads _ _ _ c.compare_heads-order.ensures.left_fits c.compare_heads-order.ensures.right_fits
    c.compare_heads-order.ensures.order (sym c.is_ne.ensures ∙ c.if-is_ne.true)

pub compare-compare_items-requires : goal.compare-compare_items-requires
compare-compare_items-requires t c =
    let many = as_many_items _ _ _ _ _ _ c.compare_heads-order.ensures.order c.is_ne.ensures c.if-is_ne.false
    c.in-Array-Array.is-0 c.in-Array-Array.is-1 in
    search (rules, the_lemmas, many)

pub compare-compare_pairs-requires : goal.compare-compare_pairs-requires
compare-compare_pairs-requires t c =
    let many = as_many_pairs _ _ _ _ _ _ c.compare_heads-order.ensures.order c.is_ne.ensures c.if-is_ne.false
    c.in-Map-Map.is-0 c.in-Map-Map.is-1 in
    search (rules, the_lemmas, many)

pub compare-returns-in-Bytes-Bytes-clause-decides : goal.compare-returns-in-Bytes-Bytes-clause-decides
compare-returns-in-Bytes-Bytes-clause-decides t c =
    let long = payloads_as_long _ _ _ _ _ _ c.compare_heads-order.ensures.order c.is_ne.ensures c.if-is_ne.false
    (argument_of-Bytes _ _ _ c.in-Bytes-Bytes.is-0 refl) (argument_of-Bytes _ _ _ c.in-Bytes-Bytes.is-1 refl) in
    contents_decide _ _ _ _ _ _ _ c.compare_heads-order.ensures.left_fits c.compare_heads-order.ensures.right_fits
    c.compare_heads-order.ensures.order c.is_ne.ensures c.if-is_ne.false
    (content_bytes-Bytes _ _ _ c.in-Bytes-Bytes.is-0 refl) (content_bytes-Bytes _ _ _ c.in-Bytes-Bytes.is-1 refl)
    (payloads_decide _ _ _ long c.cmp.ensures)

pub compare-returns-in-Bytes-Bytes-clause-equal : goal.compare-returns-in-Bytes-Bytes-clause-equal
compare-returns-in-Bytes-Bytes-clause-equal t c e = same_payload-Bytes _ _ _ _ c.in-Bytes-Bytes.is-0
    c.in-Bytes-Bytes.is-1 (sym c.cmp.ensures ∙ e)

pub compare-returns-in-Text-Text-clause-decides : goal.compare-returns-in-Text-Text-clause-decides
compare-returns-in-Text-Text-clause-decides t c =
    let long = payloads_as_long _ _ _ _ _ _ c.compare_heads-order.ensures.order c.is_ne.ensures c.if-is_ne.false
    (argument_of-Text _ _ _ c.in-Text-Text.is-0 refl) (argument_of-Text _ _ _ c.in-Text-Text.is-1 refl) in
    contents_decide _ _ _ _ _ _ _ c.compare_heads-order.ensures.left_fits c.compare_heads-order.ensures.right_fits
    c.compare_heads-order.ensures.order c.is_ne.ensures c.if-is_ne.false
    (content_bytes-Text _ _ _ c.in-Text-Text.is-0 refl) (content_bytes-Text _ _ _ c.in-Text-Text.is-1 refl)
    (payloads_decide _ _ _ long c.cmp-in-Text-Text.ensures)

pub compare-returns-in-Text-Text-clause-equal : goal.compare-returns-in-Text-Text-clause-equal
compare-returns-in-Text-Text-clause-equal t c e = same_payload-Text _ _ _ _ c.in-Text-Text.is-0 c.in-Text-Text.is-1
    (sym c.cmp-in-Text-Text.ensures ∙ e)

pub compare-returns-in-Tag-Tag-clause-decides : goal.compare-returns-in-Tag-Tag-clause-decides
compare-returns-in-Tag-Tag-clause-decides t c =
    contents_decide _ _ _ _ _ _ _ c.compare_heads-order.ensures.left_fits c.compare_heads-order.ensures.right_fits
    c.compare_heads-order.ensures.order c.is_ne.ensures c.if-is_ne.false
    (content_bytes-Tag _ _ _ _ c.in-Tag-Tag.is-0 c.deref.ensures)
    (content_bytes-Tag _ _ _ _ c.in-Tag-Tag.is-1 c.deref-in-Tag-Tag.ensures) c.compare.ensures.decides

pub compare-returns-in-Array-Array-clause-decides : goal.compare-returns-in-Array-Array-clause-decides
compare-returns-in-Array-Array-clause-decides t c =
    contents_decide _ _ _ _ _ _ _ c.compare_heads-order.ensures.left_fits c.compare_heads-order.ensures.right_fits
    c.compare_heads-order.ensures.order c.is_ne.ensures c.if-is_ne.false (content_bytes-Array _ _ c.in-Array-Array.is-0)
    (content_bytes-Array _ _ c.in-Array-Array.is-1) c.compare_items.ensures.decides

pub compare-returns-in-Map-Map-clause-decides : goal.compare-returns-in-Map-Map-clause-decides
compare-returns-in-Map-Map-clause-decides t c =
    contents_decide _ _ _ _ _ _ _ c.compare_heads-order.ensures.left_fits c.compare_heads-order.ensures.right_fits
    c.compare_heads-order.ensures.order c.is_ne.ensures c.if-is_ne.false
    (content_bytes-Map _ _ c.in-Map-Map.is-0) (content_bytes-Map _ _ c.in-Map-Map.is-1) c.compare_pairs.ensures.decides

pub compare-returns-in_default-6-clause-decides : goal.compare-returns-in_default-6-clause-decides
compare-returns-in_default-6-clause-decides t c =
    same_decides _ _ (ap encoding (alone_tied _ _ _ _ c.compare_heads-order.ensures.order c.is_ne.ensures
    c.if-is_ne.false (
      c.in_default.not-Bytes-0,
      c.in_default.not-Text-0,
      c.in_default.not-Tag-0,
      c.in_default.not-Array-0,
      c.in_default.not-Map-0,
    )))

pub compare_items-returns-then-is_ne-clause-decides : goal.compare_items-returns-then-is_ne-clause-decides
compare_items-returns-then-is_ne-clause-decides t c =
    let (a, b) = both c.deref-item-items.ensures.value c.item-item.is c.loop-index-test.true c.requires.as_many
    c.args.left.now.ok.0 c.args.right.now.ok.0 c.index.ensures in
    items_differ _ a b c.loop-index.invariant.same (sym c.is_ne.ensures ∙ c.if-is_ne.true)
    c.compare-order.ensures.decides

pub compare_items-returns-then-is_ne-clause-visits : goal.compare_items-returns-then-is_ne-clause-visits
compare_items-returns-then-is_ne-clause-visits t c =
    let (a, b) = both c.deref-item-items.ensures.value c.item-item.is c.loop-index-test.true c.requires.as_many
    c.args.left.now.ok.0 c.args.right.now.ok.0 c.index.ensures in
    items_visits-differ _ a b c.args.visits.now.in_range (sym c.is_ne.ensures ∙ c.if-is_ne.true)
    c.loop-index.invariant.visits c.compare-order.ensures.visits

pub compare_items-loop-index-preserved : goal.compare_items-loop-index-preserved
compare_items-loop-index-preserved t c =
    let (a, b) = both c.deref-item-items.ensures.value c.item-item.is c.loop-index-test.true c.requires.as_many
    c.args.left.now.ok.0 c.args.right.now.ok.0 c.index.ensures in
    let tie = tied _ _ c.is_ne.ensures c.if-is_ne.false in
    record {
      same = rw add-one (items_same a b c.loop-index.invariant.same (c.compare-order.ensures.equal tie));
      visits = rw add-one (items_visits-same _ a b tie c.loop-index.invariant.visits c.compare-order.ensures.visits);
    }

pub compare_items-returns-clause-decides : goal.compare_items-returns-clause-decides
compare_items-returns-clause-decides t c =
    let beyond : length c.args.left.now.items ≤ c.loop-index.index =
    subst (λ l. length l ≤ c.loop-index.index) c.deref-item-items.ensures.value c.loop-index-test.false in
    let other_beyond : length c.args.right.now.items ≤ c.loop-index.index =
    omega (arith, beyond, c.requires.as_many, c.args.left.now.ok.0, c.args.right.now.ok.0) in
    same_decides _ _ (items_all _ _ _ beyond other_beyond c.loop-index.invariant.same)

pub compare_pairs-returns-then-is_ne-clause-decides : goal.compare_pairs-returns-then-is_ne-clause-decides
compare_pairs-returns-then-is_ne-clause-decides t c =
    let (a, b) = both c.deref-pair-items.ensures.value c.pair-item.is c.loop-index-test.true c.requires.as_many
    c.args.left.now.ok.0 c.args.right.now.ok.0 c.index-other.ensures in
    keys_differ _ a b c.loop-index.invariant.same (sym c.is_ne.ensures ∙ c.if-is_ne.true) c.compare-keys.ensures.decides

pub compare_pairs-returns-then-is_ne-clause-visits : goal.compare_pairs-returns-then-is_ne-clause-visits
compare_pairs-returns-then-is_ne-clause-visits t c =
    let (a, b) = both c.deref-pair-items.ensures.value c.pair-item.is c.loop-index-test.true c.requires.as_many
    c.args.left.now.ok.0 c.args.right.now.ok.0 c.index-other.ensures in
    keys_visits-differ _ a b c.args.visits.now.in_range (sym c.is_ne.ensures ∙ c.if-is_ne.true)
    c.loop-index.invariant.visits c.compare-keys.ensures.visits

pub compare_pairs-returns-then-is_ne-2-clause-decides : goal.compare_pairs-returns-then-is_ne-2-clause-decides
compare_pairs-returns-then-is_ne-2-clause-decides t c =
    let (a, b) = both c.deref-pair-items.ensures.value c.pair-item.is c.loop-index-test.true c.requires.as_many
    c.args.left.now.ok.0 c.args.right.now.ok.0 c.index-other.ensures in
    values_differ _ a b c.loop-index.invariant.same
    (c.compare-keys.ensures.equal (tied _ _ c.is_ne.ensures c.if-is_ne.false))
    (sym c.is_ne-in-loop-index.ensures ∙ c.if-is_ne-2.true) c.compare-values.ensures.decides

pub compare_pairs-returns-then-is_ne-2-clause-visits : goal.compare_pairs-returns-then-is_ne-2-clause-visits
compare_pairs-returns-then-is_ne-2-clause-visits t c =
    let (a, b) = both c.deref-pair-items.ensures.value c.pair-item.is c.loop-index-test.true c.requires.as_many
    c.args.left.now.ok.0 c.args.right.now.ok.0 c.index-other.ensures in
    values_visits-differ _ a b c.args.visits.now.in_range (tied _ _ c.is_ne.ensures c.if-is_ne.false)
    (sym c.is_ne-in-loop-index.ensures ∙ c.if-is_ne-2.true) c.loop-index.invariant.visits
    c.compare-keys.ensures.visits c.compare-values.ensures.visits

pub compare_pairs-loop-index-preserved : goal.compare_pairs-loop-index-preserved
compare_pairs-loop-index-preserved t c =
    let (a, b) = both c.deref-pair-items.ensures.value c.pair-item.is c.loop-index-test.true c.requires.as_many
    c.args.left.now.ok.0 c.args.right.now.ok.0 c.index-other.ensures in
    let keys = tied _ _ c.is_ne.ensures c.if-is_ne.false in
    let values = tied _ _ c.is_ne-in-loop-index.ensures c.if-is_ne-2.false in
    record {
      same = rw add-one (pairs_same a b c.loop-index.invariant.same (c.compare-keys.ensures.equal keys)
          (c.compare-values.ensures.equal values));
      visits = rw add-one (pairs_visits-same _ a b keys values c.loop-index.invariant.visits
          c.compare-keys.ensures.visits c.compare-values.ensures.visits);
    }

pub compare_pairs-returns-clause-decides : goal.compare_pairs-returns-clause-decides
compare_pairs-returns-clause-decides t c =
    let beyond : length c.args.left.now.items ≤ c.loop-index.index =
    subst (λ l. length l ≤ c.loop-index.index) c.deref-pair-items.ensures.value c.loop-index-test.false in
    let other_beyond : length c.args.right.now.items ≤ c.loop-index.index =
    omega (arith, beyond, c.requires.as_many, c.args.left.now.ok.0, c.args.right.now.ok.0) in
    same_decides _ _ (pairs_all _ _ _ beyond other_beyond c.loop-index.invariant.same)

pub compare-returns-in_default-6-clause-visits : goal.compare-returns-in_default-6-clause-visits
compare-returns-in_default-6-clause-visits t c = search (rules, the_lemmas)
