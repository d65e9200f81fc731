use Rattle.std.proofs.Common.{◌≡◌, ap, ◌∙◌}
use Rattle.ciborium_value.specs.OrderedValues.{ordered_value_cmp}
use Rattle.ciborium.proofs.Encodings.OrderedValues.{ordered_value_cmp-is}
use Rattle.ciborium.proofs.value.canonical.OrderedValueOrd.cmp.Goals as goal

pub returns-clause-gives : goal.returns-clause-gives
returns-clause-gives g c =
    let left : c.self.inside.value ≡ c.args.self.now = c.self.view_is in
    let right : c.other.inside.value ≡ c.args.other.now = c.other.view_is in
    let o = g.O.EncodingOrder.order in
    ordered_value_cmp-is c.order.result _ _ _ c.cmp_keys.ensures.equal c.cmp_keys.ensures.order ∙
    ap (λ k. ordered_value_cmp k c.self.inside.value c.other.inside.value) c.order.ensures
    ∙ ap (λ v. ordered_value_cmp o v c.other.inside.value) left ∙ ap (ordered_value_cmp o c.args.self.now) right
