-- What the derived `==`, `cmp` and `partial_cmp` of `Value` answer, by the names that the derives
-- give to it.
use Rattle.std.specs.{Prelude.{Bool, Option}, declared.cmp.Ordering.Ordering}
use Rattle.ciborium_value.specs.{declared.tree.Value.Value, declared.tree.Value.TheBlock.member-Value}
use Rattle.ciborium_value.specs.contracts.tree.ValueOrd.TheImpl.Laws as order
use Rattle.ciborium_value.specs.contracts.tree.ValuePartialEq.TheImpl.Laws as equality
use Rattle.ciborium_value.specs.contracts.tree.ValuePartialOrd.TheImpl.Laws as partial_order

-- `v == w`
abbrev pub value_eq : Value → Value → Bool
value_eq = equality.family member-Value

-- `v.cmp(w)`
abbrev pub value_cmp : Value → Value → Ordering
value_cmp = order.family member-Value

-- `v.partial_cmp(w)`
abbrev pub value_partial_cmp : Value → Value → Option Ordering
value_partial_cmp = partial_order.family member-Value
