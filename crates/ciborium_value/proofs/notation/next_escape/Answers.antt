use Rattle.std.proofs.{Common.{◌≡◌, false, sym, subst, ◌∙◌, arith, take_all}, lemmas.List.Elements.All-more}
use Rattle.ciborium_value.specs.Notation.{IsPlain, needs_escape}
use Rattle.ciborium_value.proofs.notation.next_escape.Goals as goal

pub loop-end-preserved : goal.loop-end-preserved
loop-end-preserved c = All-more (λ b. needs_escape b ≡ false) _ _ 0 c.loop-end-test.true c.loop-end.invariant
    (sym c.needs_escape.ensures ∙ c.if-needs_escape.false)

pub returns-clause-absent : goal.returns-clause-absent
returns-clause-absent c = λ _. subst IsPlain (take_all c.loop-end.end c.args.bytes.now
    (omega (arith, c.loop-end-test.false))) c.loop-end.invariant
