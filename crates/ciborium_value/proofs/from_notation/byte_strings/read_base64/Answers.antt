use Rattle.std.proofs.Common.{◌∙◌, ◌-◌, ◌∷◌, [], ap, arith, drop, get_or, length, refl, rules, sym, take}
use Rattle.std.proofs.lemmas.Grind.{common_steps}
use Rattle.ciborium_value.proofs.Denoting.Texts.{begins, prepended_twice}
use Rattle.ciborium_value.specs.{Tokens.{base64_at, prepended}, inner.ReadTokens.completed}
use Rattle.ciborium_value.proofs.from_notation.byte_strings.read_base64.Goals as goal

pub digits-preserved-in_ok-push : goal.digits-preserved-in_ok-push
digits-preserved-in_ok-push c =
    let rest = c.digits.rest.now in let bytes = c.digits.bytes.items in let group = c.digits.group in
    let behind = take (length rest - 1) (drop 1 rest) in
    let found = base64_at c.push.new.self.count c.push.new.self.bits behind in (
      c.digits.invariant.0 ∙ ap (λ t. prepended bytes (base64_at group.count group.bits t))
          (begins (get_or rest 0 0) rest c.in-len1-up.len_at_least refl) ∙ ap (prepended bytes)
          (c.push.ensures.completed (get_or rest 0 0) behind (search rules) (search rules) ∙
          ap (λ o. completed o found) c.in-Some-push.is) ∙ prepended_twice bytes (c.in-Some-push.byte ∷ []) found ∙
          ap (λ b. prepended b found) (sym c.in_ok-push.ensures.items),
      c.push.ensures.group,
      grind (arith, common_steps),
    )

pub digits-preserved : goal.digits-preserved
digits-preserved c = grind (arith, common_steps)

pub digits-preserved-in_default-push : goal.digits-preserved-in_default-push
digits-preserved-in_default-push c = grind (arith, common_steps)
