use Rattle.std.proofs.lemmas.Grind.{common_steps}
use Rattle.std.proofs.Common.{rules, arith, drop, get_or, ap, sym, ◌∙◌}
use Rattle.ciborium_value.{proofs.Denoting.Texts.{front_of, too_large}, specs.Tokens.digits_behind}
use Rattle.ciborium_value.proofs.from_notation.numbers.read_digits.Goals as goal

pub returns-in_default-push_digit-clause-refused : goal.returns-in_default-push_digit-clause-refused
returns-in_default-push_digit-clause-refused c = too_large c.args.base c.digits.number
    c.in-Some-digit_of.digit (get_or c.digits.rest.now 0 0) c.args.text.now (drop 1 c.digits.rest.now)
    (omega (arith, c.requires))
    (c.digits.invariant.0 ∙ ap (digits_behind c.args.base c.digits.number) (front_of c.digits.rest.now (search rules)))
    (sym c.digit_of-in-len1-up-rest.ensures.digit ∙ c.in-Some-digit_of.is) (search rules)

pub digits-preserved : goal.digits-preserved
digits-preserved c = grind (arith, common_steps)

pub digits-init : goal.digits-init
digits-init c = grind (arith, common_steps)
