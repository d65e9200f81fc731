use Rattle.std.proofs.Common.{sym, ap, subst, ◌∙◌, ◌≡◌, Some}
use Rattle.ciborium_ll.proofs.KeptLevels.{IsStep, kept-entered, kept-within, not-zero, one-too-many, step-here}
use Rattle.ciborium_ll.proofs.{KeptLevels.top-within, levels.Levels.pass.Goals.{in-Within, in-Enters+else-self-eq0}}
use Rattle.ciborium_ll.{proofs.levels.Levels.pass.Goals.in-Ends, specs.{Levels.behind_head, inner.KeptLevels.levels_in}}
use Rattle.ciborium_ll.proofs.levels.Levels.pass.Goals as goal

pub returns-then-self-eq0 : goal.returns-then-self-eq0
returns-then-self-eq0 c =
    let k = c.args.self.now.free in
    let kept = c.args.self.now.kept in
    let top = sym c.top.ensures.top ∙ c.in-Some.is in
    let step = subst (IsStep c.args.header k kept) c.in-Enters.is
    (step-here c.args.header k kept c.in-Some.top c.step_of.result top c.step_of.ensures) in
    one-too-many c.args.header k kept _ _ c.if-self-eq0.true c.top.ensures.kept (top-within _ _ _ top) step

pub returns : goal.returns
returns c =
    let k = c.args.self.now.free in
    let kept = c.args.self.now.kept in
    let top = sym c.top.ensures.top ∙ c.in-Some.is in
    let less = top-within k kept c.in-Some.top top in
    let step = step-here c.args.header k kept c.in-Some.top c.step_of.result top c.step_of.ensures in
    let passed : behind_head c.args.header (levels_in c.args.self.now) ≡ Some (levels_in c.match-step_of.self) =
    elim c.match-step_of.branch [
      | in-Within w ↦ kept-within _ k kept _ less (subst (IsStep c.args.header k kept) w.in-Within.is step) ∙
          ap (λ s. Some (levels_in s)) (sym w.self-is)
      | in-Enters+else-self-eq0 w ↦ kept-entered _ k kept _ _ less (not-zero k w.if-self-eq0.false)
          (subst (IsStep c.args.header k kept) w.in-Enters.is step) ∙ ap (λ s. Some (levels_in s)) (sym w.self-is)
      | in-Ends w ↦ subst (IsStep c.args.header k kept) w.in-Ends.is step ∙
          ap (λ s. Some (levels_in s)) (sym w.self-is)
    ] in
    (levels_in c.match-step_of.self, passed, c.drop_complete.ensures)
