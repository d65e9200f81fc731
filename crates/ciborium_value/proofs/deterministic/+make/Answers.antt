use Rattle.std.proofs.Common.{◌≡◌, ◌+◌, ◌≤◌, List, ℕ, length, get_or, set, Some, None, rules, refl, ap, ◌∙◌}
use Rattle.std.proofs.Common.{add-one, arith, inl, inr}
use Rattle.std.proofs.lemmas.{List.{get_or-set_other, length-set}, Result.{IfOk-weaker, IfErr-weaker}}
use Rattle.ciborium_value.proofs.Forms.MadeForms.{none_yet, made_next, made_weaker, written, all_made, all_pairs_made}
use Rattle.ciborium_value.proofs.Forms.MadeForms.{items_alike, pairs_alike, one_refused, one_pair_refused, made_as}
use Rattle.ciborium_value.proofs.Forms.MadeForms.{alike_as, made-tag, made-bignum, refused-pairs, sorted-map}
use Rattle.ciborium_value.proofs.Trees.Views.{tree_of-Tag, tree_of-Array, tree_of-Map, tree_of-Integer}
use Rattle.ciborium_value.specs.{Folded.tree_folding_bytes, Meaning.{bignum_meaning, without_zeros}}
use Rattle.ciborium_value.specs.{ValueLists.tree_pairs_of, View.tree_of, declared.tree.Value.the_lemmas}
use Rattle.ciborium_value.specs.SameContents as same
use Rattle.ciborium_value.specs.Tree as trees
use Rattle.ciborium_value.proofs.deterministic.+make.Goals as goal

-- what a walk has not visited stands there as before
unvisited_next : {A : Type 0} (start now : List A) (i : ℕ) (y : A) → (length now ≡ length start) ×
    ((k : ℕ) (d : A) → i ≤ k → get_or now k d ≡ get_or start k d) → (length (set now i y) ≡ length start) ×
    ((k : ℕ) (d : A) → i + 1 ≤ k → get_or (set now i y) k d ≡ get_or start k d)
unvisited_next start now i y (long, rest) = (
  length-set now i y ∙ long,
  λ k d h. get_or-set_other now i k y d (omega (arith, h)) ∙ rest k d (omega (arith, h)),
)

pub make-returns-in_err-number-in-Some-clause-alike : goal.make-returns-in_err-number-in-Some-clause-alike
make-returns-in_err-number-in-Some-clause-alike t c = alike_as refl (search (rules, the_lemmas)) same.itself

pub make-returns-in_err-make_pairs-in-Map-clause-refused : goal.make-returns-in_err-make_pairs-in-Map-clause-refused
make-returns-in_err-make_pairs-in-Map-clause-refused t c =
    let refused = refused-pairs c.args.order (ap tree_of c.in-Map.is ∙ tree_of-Map _)
    (rw c.in-Map.pairs-is at c.in_err-make_pairs-in-Map.ensures.refused) in
    search (rules, refused)

pub make-returns-in_err-make_pairs-in-Map-clause-alike : goal.make-returns-in_err-make_pairs-in-Map-clause-alike
make-returns-in_err-make_pairs-in-Map-clause-alike t c =
    alike_as (ap tree_of c.in-Map.is ∙ tree_of-Map _) (search (rules, the_lemmas, tree_of-Map))
    (same.in_map (rw c.in-Map.pairs-is at c.make_pairs.ensures.alike))

pub make-returns-in-Some-2-clause-alike : goal.make-returns-in-Some-2-clause-alike
make-returns-in-Some-2-clause-alike t c = alike_as (search (rules, the_lemmas, tree_of-Tag)) (tree_of-Integer _)
    (same.folds {t = c.in-Tag.tag} {v = tree_of c.in-Tag.content.value} c.in-Some.bytes.now (search (rules, the_lemmas))
    (search (rules, the_lemmas)))

pub make-returns-in-None-2 : goal.make-returns-in-None-2
make-returns-in-None-2 t c =
    let zeros : tree_of c.remove_leading_zeros.new.content ≡ trees.bytes (without_zeros c.in-Some.bytes.now) =
    search (rules, the_lemmas) in
    let meant : bignum_meaning c.in-Tag.tag c.in-Some.bytes.now ≡ Some
    (trees.tag c.in-Tag.tag (trees.bytes (without_zeros c.in-Some.bytes.now))) = search (rules, the_lemmas) in
    let folds : tree_folding_bytes c.in-Tag.tag (tree_of c.in-Tag.content.value) ≡ Some c.in-Some.bytes.now =
    search (rules, the_lemmas) in
    let was = ap tree_of c.in-Tag.is ∙ tree_of-Tag _ _ in
    let is = tree_of-Tag _ _ ∙ ap (λ n. trees.tag n (tree_of c.remove_leading_zeros.new.content)) c.in-Tag.tag-is ∙
    ap (trees.tag c.in-Tag.tag) zeros in
    record {
      ok = made_as c.args.order was is
          (made-bignum c.args.order c.in-Tag.tag (tree_of c.in-Tag.content.value) folds meant);
      refused = tt;
      alike = alike_as was is (same.folds c.in-Some.bytes.now folds meant);
    }

pub make-returns-in-None-clause-ok : goal.make-returns-in-None-clause-ok
make-returns-in-None-clause-ok t c =
    let content : c.deref_mut-in-None.result.now ≡ c.in-Tag.content.value = search (rules, the_lemmas) in
    let unfolded : tree_folding_bytes c.in-Tag.tag (tree_of c.in-Tag.content.value) ≡ None =
    search (rules, the_lemmas) in
    IfOk-weaker c.make.result _ _ (λ u made. made_as c.args.order (ap tree_of c.in-Tag.is ∙ tree_of-Tag _ _)
    (tree_of-Tag _ _ ∙ ap (λ n. trees.tag n (tree_of c.make.new.value)) c.in-Tag.tag-is)
    (made-tag c.args.order c.in-Tag.tag (tree_of c.in-Tag.content.value) unfolded (rw content at made)))
    c.make.ensures.ok

pub make-returns-in-None-clause-alike : goal.make-returns-in-None-clause-alike
make-returns-in-None-clause-alike t c =
    let content : c.deref_mut-in-None.result.now ≡ c.in-Tag.content.value = search (rules, the_lemmas) in
    alike_as (ap tree_of c.in-Tag.is ∙ tree_of-Tag _ _)
    (tree_of-Tag _ _ ∙ ap (λ n. trees.tag n (tree_of c.make.new.value)) c.in-Tag.tag-is)
    (same.in_tag (rw content at c.make.ensures.alike))

pub make-returns-in-Array-clause-alike : goal.make-returns-in-Array-clause-alike
make-returns-in-Array-clause-alike t c = alike_as (ap tree_of c.in-Array.is ∙ tree_of-Array _)
    (search (rules, the_lemmas, tree_of-Array)) (same.in_array (rw c.in-Array.items-is at c.make_items.ensures.alike))

pub make-returns-in_ok-make_pairs-in-Map : goal.make-returns-in_ok-make_pairs-in-Map
make-returns-in_ok-make_pairs-in-Map t c =
    let was = ap tree_of c.in-Map.is ∙ tree_of-Map _ in
    let made = rw c.in-Map.pairs-is at c.in_ok-make_pairs-in-Map.ensures.ok in
    record {
      ok = IfOk-weaker c.sort_pairs.result _ _ (λ u sorted. made_as c.args.order was
          (search (rules, the_lemmas, tree_of-Map))
          (sorted-map c.args.order {ps = tree_pairs_of c.in-Map.pairs.items} refl made sorted)) c.sort_pairs.ensures.ok;
      refused = IfErr-weaker c.sort_pairs.result _ _ (λ kind refused. sorted-map c.args.order was made refused)
          c.sort_pairs.ensures.refused;
      alike = alike_as was (search (rules, the_lemmas, tree_of-Map)) (same.in_map (same.one_after_another
          (rw c.in-Map.pairs-is at c.in_ok-make_pairs-in-Map.ensures.alike) c.sort_pairs.ensures.alike));
    }

pub make-returns-in_default-clause-alike : goal.make-returns-in_default-clause-alike
make-returns-in_default-clause-alike t c = same.itself

pub make_items-loop-item-init : goal.make_items-loop-item-init
make_items-loop-item-init t c = record {
  unvisited = (refl, λ k d h. refl);
  so_far = rw c.deref_mut-item-items.ensures.value none_yet;
}

pub make_items-returns-in_err-make-clause-refused : goal.make_items-returns-in_err-make-clause-refused
make_items-returns-in_err-make-clause-refused t c =
    let refused = one_refused c.args.order c.item-item.result c.loop-item.invariant.so_far
    (rw c.deref_mut-item-items.ensures.value at c.loop-item-test.true) c.in_err-make.ensures.refused in
    search (rules, refused)

pub make_items-returns-in_err-make-clause-alike : goal.make_items-returns-in_err-make-clause-alike
make_items-returns-in_err-make-clause-alike t c = items_alike c.args.items.now.len
    (made_next c.item-item.result c.make.new.value (made_weaker (λ v w r. r.1) c.loop-item.invariant.so_far)
    (rw c.deref_mut-item-items.ensures.value at c.loop-item-test.true) c.make.ensures.alike) c.args.items.now.ok.0

pub make_items-loop-item-preserved : goal.make_items-loop-item-preserved
make_items-loop-item-preserved t c = record {
  unvisited = unvisited_next _ _ c.loop-item.item-index _ c.loop-item.invariant.unvisited;
  so_far = rw add-one (made_next c.item-item.result c.make.new.value c.loop-item.invariant.so_far
      (rw c.deref_mut-item-items.ensures.value at c.loop-item-test.true)
      (c.in_ok-make.ensures.ok, c.make.ensures.alike));
}

pub make_items-returns : goal.make_items-returns
make_items-returns t c = record {
  ok = rw (written c.args.items.now.len c.loop-item.invariant.so_far c.args.items.now.ok.0)
      (all_made c.args.order c.loop-item.invariant.so_far
      (rw c.deref_mut-item-items.ensures.value at c.loop-item-test.false));
  refused = tt;
  alike = items_alike c.args.items.now.len (made_weaker (λ v w r. r.1) c.loop-item.invariant.so_far)
      c.args.items.now.ok.0;
}

pub make_pairs-loop-pair-init : goal.make_pairs-loop-pair-init
make_pairs-loop-pair-init t c = record {
  unvisited = (refl, λ k d h. refl);
  so_far = rw c.deref_mut-pair-items.ensures.value none_yet;
}

pub make_pairs-returns-in_err-make-clause-refused : goal.make_pairs-returns-in_err-make-clause-refused
make_pairs-returns-in_err-make-clause-refused t c =
    let refused = one_pair_refused c.args.order c.pair-item.result c.loop-pair.invariant.so_far
    (rw c.deref_mut-pair-items.ensures.value at c.loop-pair-test.true) (inl c.in_err-make.ensures.refused) in
    search (rules, refused)

pub make_pairs-returns-in_err-make-clause-alike : goal.make_pairs-returns-in_err-make-clause-alike
make_pairs-returns-in_err-make-clause-alike t c = pairs_alike c.args.pairs.now.len
    (made_next c.pair-item.result (c.make.new.value, _)
    (made_weaker (λ p q r. (r.0.1, r.1.1)) c.loop-pair.invariant.so_far)
    (rw c.deref_mut-pair-items.ensures.value at c.loop-pair-test.true) (c.make.ensures.alike, same.itself))
    c.args.pairs.now.ok.0

pub make_pairs-returns-in_err-make-2-clause-refused : goal.make_pairs-returns-in_err-make-2-clause-refused
make_pairs-returns-in_err-make-2-clause-refused t c =
    let refused = one_pair_refused c.args.order c.pair-item.result c.loop-pair.invariant.so_far
    (rw c.deref_mut-pair-items.ensures.value at c.loop-pair-test.true)
    (inr (_, c.in_ok-make.ensures.ok, c.in_err-make-2.ensures.refused)) in
    search (rules, refused)

pub make_pairs-returns-in_err-make-2-clause-alike : goal.make_pairs-returns-in_err-make-2-clause-alike
make_pairs-returns-in_err-make-2-clause-alike t c = pairs_alike c.args.pairs.now.len
    (made_next c.pair-item.result (c.make.new.value, c.make-in-loop-pair.new.value)
    (made_weaker (λ p q r. (r.0.1, r.1.1)) c.loop-pair.invariant.so_far)
    (rw c.deref_mut-pair-items.ensures.value at c.loop-pair-test.true)
    (c.make.ensures.alike, c.make-in-loop-pair.ensures.alike)) c.args.pairs.now.ok.0

pub make_pairs-loop-pair-preserved : goal.make_pairs-loop-pair-preserved
make_pairs-loop-pair-preserved t c = record {
  unvisited = unvisited_next _ _ c.loop-pair.pair-index _ c.loop-pair.invariant.unvisited;
  so_far = rw add-one (made_next c.pair-item.result (c.make.new.value, c.make-in-loop-pair.new.value)
      c.loop-pair.invariant.so_far (rw c.deref_mut-pair-items.ensures.value at c.loop-pair-test.true) (
        (c.in_ok-make.ensures.ok, c.make.ensures.alike),
        (c.in_ok-make-2.ensures.ok, c.make-in-loop-pair.ensures.alike),
      ));
}

pub make_pairs-returns : goal.make_pairs-returns
make_pairs-returns t c = record {
  ok = rw (written c.args.pairs.now.len c.loop-pair.invariant.so_far c.args.pairs.now.ok.0)
      (all_pairs_made c.args.order c.loop-pair.invariant.so_far
      (rw c.deref_mut-pair-items.ensures.value at c.loop-pair-test.false));
  refused = tt;
  alike = pairs_alike c.args.pairs.now.len (made_weaker (λ p q r. (r.0.1, r.1.1)) c.loop-pair.invariant.so_far)
      c.args.pairs.now.ok.0;
}

pub make-returns-in-Array-clause-ok : goal.make-returns-in-Array-clause-ok
make-returns-in-Array-clause-ok t c = search (rules, the_lemmas)
