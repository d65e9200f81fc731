use Rattle.std.proofs.Common.{◌≡◌, ◌∙◌, ◌-◌, Some, ap, append-nil, arith, drop, length, length-drop, rules, take}
use Rattle.std.proofs.lemmas.{Grind.common_steps, Result.{IfErr-weaker, IfOk-weaker}}
use Rattle.ciborium_value.proofs.Denoting.Texts.{begins, none_before, whole_rest}
use Rattle.ciborium_value.specs.Tokens.{prepended, text_at, text_token}
use Rattle.ciborium_value.proofs.from_notation.texts.read_text.Goals.{After-end_text}
use Rattle.ciborium_value.proofs.from_notation.texts.read_text.Goals as goal

ended : (c : After-end_text) → text_at c.args.text.now ≡ Some (
  c.push_plain.new.bytes.items,
  take (length c.in_ok-special.special.now - 1) (drop 1 c.in_ok-special.special.now),
)
ended c = c.in_ok-special.ensures.plain c.args.text.now c.parts.invariant.0 ∙
    ap (λ t. prepended c.push_plain.new.bytes.items (text_at t))
    (begins 34 c.in_ok-special.special.now (search rules) (search rules)) ∙
    ap (λ b. Some (b, take (length c.in_ok-special.special.now - 1) (drop 1 c.in_ok-special.special.now)))
    (append-nil c.push_plain.new.bytes.items)

pub parts-init : goal.parts-init
parts-init c = (none_before _ (text_at c.args.text.now) c.new-bytes.ensures.items, search rules)

pub returns-in-34-clause-found : goal.returns-in-34-clause-found
returns-in-34-clause-found c = rw (ended c) c.end_text.ensures.found

pub returns-in-34-clause-refused : goal.returns-in-34-clause-refused
returns-in-34-clause-refused c =
    IfErr-weaker c.end_text.result _ _ (λ e h m. ap text_token (ended c) ∙ h) c.end_text.ensures.refused

pub parts-preserved : goal.parts-preserved
parts-preserved c = (
  c.in_ok-rest-in-92.ensures.character c.args.text.now (c.in_ok-special.ensures.plain c.args.text.now
      c.parts.invariant.0 ∙ ap (λ t. prepended c.push_plain.new.bytes.items (text_at t))
      (begins 92 c.in_ok-special.special.now (search rules) (search rules))),
  grind (arith, common_steps),
)

pub parts-smaller : goal.parts-smaller
parts-smaller c = omega (
  arith,
  c.in_ok-special.ensures.shorter,
  c.in_ok-rest-in-92.ensures.shorter,
  ap length (whole_rest 1 c.in_ok-special.special.now),
  length-drop 1 c.in_ok-special.special.now,
)

pub returns-in-34-clause-shorter : goal.returns-in-34-clause-shorter
returns-in-34-clause-shorter c = IfOk-weaker c.end_text.result _ _ (λ p h. omega (
  arith,
  h,
  c.parts.invariant.1,
  c.in_ok-special.ensures.shorter,
  ap length (whole_rest 1 c.in_ok-special.special.now),
  length-drop 1 c.in_ok-special.special.now,
)) c.end_text.ensures.shorter

pub returns-in_err-rest-in-92-clause-refused : goal.returns-in_err-rest-in-92-clause-refused
returns-in_err-rest-in-92-clause-refused c = grind (arith, common_steps)
