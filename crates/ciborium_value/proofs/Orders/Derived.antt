-- The derived comparisons of `Value` are those of the trees.
use Rattle.std.proofs.{Common.{◌≡◌, sym, ap, ◌∙◌, subst, Some, is_eq, Bool}, lemmas.Cmp.eq_by_cmp_equiv}
use Rattle.std.specs.{Cmp.{IsTotalOrder, IsEquivalence}, Ordering.eq_by_cmp}
use Rattle.ciborium_value.specs.{Derived.{value_eq, value_cmp, value_partial_cmp}, lemmas.DerivedOrder.value_cmp-is}
use Rattle.ciborium_value.specs.{Order.tree_cmp, View.tree_of, contracts.tree.ValueOrd.TheImpl.Laws.matches_eq-law}
use Rattle.ciborium_value.specs.contracts.tree.ValueOrd.TheImpl.Laws.{matches_partial_cmp-law, total-law}
use Rattle.ciborium_value.specs.declared.tree.Value.{Value}

pub value_eq-is : (v w : Value) → value_eq v w ≡ is_eq (tree_cmp (tree_of v) (tree_of w))
value_eq-is v w = matches_eq-law v w ∙ ap is_eq (value_cmp-is v w)

pub value_partial_cmp-is : (v w : Value) → value_partial_cmp v w ≡ Some (tree_cmp (tree_of v) (tree_of w))
value_partial_cmp-is v w = matches_partial_cmp-law v w ∙ ap Some (value_cmp-is v w)

-- the laws of `Ord` and `Eq`, which the derives prove
pub value_cmp_total : IsTotalOrder value_cmp
value_cmp_total = total-law

pub value_eq_equivalence : IsEquivalence value_eq
value_eq_equivalence =
    let tests : (Value → Value → Bool) → Type 0 = λ E. IsEquivalence E in
    let same : eq_by_cmp value_cmp ≡ value_eq = λ i v w. sym (matches_eq-law v w) i in
    subst tests same (eq_by_cmp_equiv value_cmp_total)
