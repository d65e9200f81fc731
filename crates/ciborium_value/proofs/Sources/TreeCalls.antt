-- What a call for one item says at a value.
use Rattle.std.proofs.Common.{◌≡◌, ◌<◌, ℕ, None, Result, Ok, Err, IfOk, IfErr, refl, sym, ap, ◌∙◌, subst, arith}
use Rattle.std.specs.Borrow.{Bor}
use Rattle.ciborium_ll.specs.Item.{Item}
use Rattle.ciborium_value.specs.{Sources.{IsFaultOf, TakesOneItem}, Given.{Outcome, Given, gives, outcome}}
use Rattle.ciborium_value.specs.{Ahead.end_of, TreeAnswers.{IsErrorOf, tree_fault, value_item}}
use Rattle.ciborium_value.specs.{declared.deserialized.Pending.Pending, declared.deserialized.TreeSource.TreeSource}
use Rattle.ciborium_value.specs.{declared.error.Error.Error, declared.error.Error.TheVariants.{Custom, Memory}}
use Rattle.ciborium_value.specs.{declared.tree.Value.Value, inner.TreeSources.{IsPending, IsTreeAt, due_weight}}
use Rattle.ciborium_value.specs.{inner.TreeSources.{pending_due, pending_tree_weight, source_weight}, View.tree_of}
use Rattle.ciborium_value.proofs.{Sources.TreeLevels.due_is_ahead, Sources.TreeReading.{due_next, some_node}}
use Rattle.ciborium_value.specs.declared.deserialized.Pending.TheVariants as pending

-- an error is one for which the item is refused
fault_of_error : {A : Type 0} (end : ℕ) (e : Error) (o : Outcome A) → IsErrorOf e o → IsFaultOf end (tree_fault e) o
fault_of_error end (Custom k) o h = h
fault_of_error end Memory o h = tt

-- what was ahead was taken, and the value that is due comes next
module _ {A V : Type 0} (taken : Given A) (content : V → A) (old new : TreeSource)
    (next : new.ahead ≡ pending_due old.due) (none : new.due ≡ None) where
  abbrev pub TakesOneOfTree : Result V Error → Type 0
  TakesOneOfTree = TakesOneItem IsTreeAt (λ source b. ⊥) (λ first now. Unit {0}) source_weight (λ _ e. tree_fault e) old
      new taken content

  found : (v : Bor Value) → pending.Whole v ≡ old.ahead → (i : Item) → IsPending old.ahead i → value_item v.now ≡ i
  found v here i is = subst (λ o. IsPending o i) (sym here) is

  some_ahead : (v : Bor Value) → pending.Whole v ≡ old.ahead → 0 < pending_tree_weight old.ahead
  some_ahead v here = subst (λ o. 0 < pending_tree_weight o) here (let some = some_node (tree_of v.now) in
      omega (arith, some))

  pub some-weight : ¬ (old.ahead ≡ pending.Nothing) → 0 < pending_tree_weight old.ahead
  some-weight some = by old.ahead some
    where
      by : (p : Pending) → ¬ (p ≡ pending.Nothing) → 0 < pending_tree_weight p
      by pending.Nothing h = absurd (h refl)
      by (pending.Whole v) h = let some = some_node (tree_of v.now) in omega (arith, some)
      by (pending.Byte n) h = omega arith
      by pending.Null h = omega arith

  weighs-less : 0 < pending_tree_weight old.ahead → source_weight new < source_weight old
  weighs-less some =
      let due : pending_tree_weight new.ahead ≡ due_weight old.due = ap pending_tree_weight next ∙ due_next old.due in
      let past : due_weight new.due ≡ 0 = ap due_weight none in
      omega (arith, some, due, past)

  -- the answer is what the item ahead gives
  pub given-there : 0 < pending_tree_weight old.ahead → (v : V) →
      ((i : Item) → IsPending old.ahead i → outcome None (taken i) ≡ gives (content v)) → TakesOneOfTree (Ok v)
  given-there some v give = record {
    ok = λ l i f st. (
      ap (λ k. outcome k (taken i)) st.0 ∙ give i st.1.0,
      (st.0, due_is_ahead new old.due f st.1.1 next),
    );
    refused = tt;
    took = λ b u. absurd u;
    only = λ first h. tt;
    less = weighs-less some;
    no_more = tt;
  }

  -- a value was ahead, and it is answered what its item gives, or refused as that is
  pub taken-there : (v : Bor Value) → pending.Whole v ≡ old.ahead → (r : Result V Error) →
      IfOk r (λ x. outcome None (taken (value_item v.now)) ≡ gives (content x)) →
      IfErr r (λ e. IsErrorOf e (outcome None (taken (value_item v.now)))) → TakesOneOfTree r
  taken-there v here (Ok x) give refuse = given-there (some_ahead v here) x
      (λ i is. subst (λ j. outcome None (taken j) ≡ gives (content x)) (found v here i is) give)
  taken-there v here (Err e) give refuse = record {
    ok = tt;
    refused = λ l i f st. subst (λ k. IsFaultOf (end_of f) (tree_fault e) (outcome k (taken i))) (sym st.0)
        (fault_of_error (end_of f) e (outcome None (taken i))
        (subst (λ j. IsErrorOf e (outcome None (taken j))) (found v here i st.1.0) refuse));
    took = tt;
    only = λ first h. tt;
    less = tt;
    no_more = let less = weighs-less (some_ahead v here) in omega (arith, less);
  }
