use Rattle.std.proofs.{Common.{◌∷◌, [], sym, ◌∙◌, subst, le_trans}}
use Rattle.ciborium_ll.specs.declared.levels.Level.TheVariants.{Items}
use Rattle.ciborium.proofs.Items.PassedOver.{denied-before, item-denied, item-passed, passed-incomplete, passed-then}
use Rattle.ciborium.proofs.Items.TakenOnly.{keeps-from, same-end}
use Rattle.ciborium.specs.inner.ByteSources.{IsUnread, end_at, fault_at}
use Rattle.ciborium.specs.inner.PassedOver.{DeniesLevels, PassesHeads, levels_in}
use Rattle.ciborium.proofs.Exits.{passed_on}
use Rattle.ciborium.proofs.de.byte_source.ByteSource.skip_heads.Goals as goal

pub heads-preserved : goal.heads-preserved
heads-preserved g c =
    let old = c.args.self.now in
    let mid = c.heads.self in
    let new = c.skip_head.new.self in
    let before = levels_in c.heads.unfinished in
    let behind = levels_in c.skip_head.new.unfinished in
    let head = subst (λ m. PassesHeads (IsUnread g.A.Access.remaining mid) (IsUnread g.A.Access.remaining new) m before
    behind) c.heads.invariant.levels c.in_ok-skip_head.ensures.ok in
    let all = passed-then (IsUnread g.A.Access.remaining old) (IsUnread g.A.Access.remaining mid)
    (IsUnread g.A.Access.remaining new) old.levels (Items 1 ∷ []) before behind c.heads.invariant.passed head in
    record {
      same_reader = c.in_ok-skip_head.ensures.keeps.kept.same_reader ∙ c.heads.invariant.same_reader;
      only = λ first h. c.in_ok-skip_head.ensures.keeps.kept.only first (c.heads.invariant.only first h);
      levels = c.in_ok-skip_head.ensures.keeps.kept.levels ∙ c.heads.invariant.levels;
      fewer = le_trans c.in_ok-skip_head.ensures.keeps.kept.no_more c.heads.invariant.fewer;
      whole = c.if-drop_complete.ensures.1;
      passed = subst (PassesHeads (IsUnread g.A.Access.remaining old) (IsUnread g.A.Access.remaining new) old.levels
          (Items 1 ∷ [])) (sym c.if-drop_complete.ensures.0)
          (passed-incomplete (IsUnread g.A.Access.remaining old) (IsUnread g.A.Access.remaining new) old.levels
          (Items 1 ∷ []) behind all);
    }

pub returns-then-drop_complete-clause-answer : goal.returns-then-drop_complete-clause-answer
returns-then-drop_complete-clause-answer g c =
    let old = c.args.self.now in
    let mid = c.heads.self in
    let new = c.skip_head.new.self in
    let before = levels_in c.heads.unfinished in
    let behind = levels_in c.skip_head.new.unfinished in
    let head = subst (λ m. PassesHeads (IsUnread g.A.Access.remaining mid) (IsUnread g.A.Access.remaining new) m before
    behind) c.heads.invariant.levels c.in_ok-skip_head.ensures.ok in
    let all = passed-then (IsUnread g.A.Access.remaining old) (IsUnread g.A.Access.remaining mid)
    (IsUnread g.A.Access.remaining new) old.levels (Items 1 ∷ []) before behind c.heads.invariant.passed head in
    item-passed (IsUnread g.A.Access.remaining old) (IsUnread g.A.Access.remaining new) old.levels
    (subst (PassesHeads (IsUnread g.A.Access.remaining old) (IsUnread g.A.Access.remaining new) old.levels (Items 1 ∷
    []))
    c.if-drop_complete.ensures (passed-incomplete (IsUnread g.A.Access.remaining old) (IsUnread g.A.Access.remaining
    new)
    old.levels (Items 1 ∷ []) behind all))

pub returns-in_err-skip_head-clause-answer : goal.returns-in_err-skip_head-clause-answer
returns-in_err-skip_head-clause-answer g c =
    let old = c.args.self.now in
    let mid = c.heads.self in
    let before = levels_in c.heads.unfinished in
    let fault = fault_at g.A.Access.can_fail g.A.Access.remaining c.skip_head.new.self c.in_err-skip_head.field-0.0 in
    rw (passed_on c.from_residual.result _ c.from_residual.ensures.1)
    (item-denied (IsUnread g.A.Access.remaining old) (end_at g.A.Access.remaining old) old.levels
    fault
    (denied-before (IsUnread g.A.Access.remaining old) (IsUnread g.A.Access.remaining mid) old.levels
    (end_at g.A.Access.remaining old) (end_at g.A.Access.remaining mid) (Items 1 ∷ []) before fault
    c.heads.invariant.passed (same-end g.A.Access.remaining old mid c.heads.invariant.only)
    (subst (λ m. DeniesLevels (IsUnread g.A.Access.remaining mid) (end_at g.A.Access.remaining mid) m before fault)
    c.heads.invariant.levels c.in_err-skip_head.ensures.denied)))

pub returns-in_err-skip_head-clause-keeps : goal.returns-in_err-skip_head-clause-keeps
returns-in_err-skip_head-clause-keeps g c =
    rw (passed_on c.from_residual.result _ c.from_residual.ensures.1) (record {
      kept = keeps-from (c.heads.invariant.same_reader, c.heads.invariant.only) c.heads.invariant.levels
          c.heads.invariant.fewer c.in_err-skip_head.ensures.keeps.kept;
      fewer = tt;
    })

pub returns-then-drop_complete-clause-keeps : goal.returns-then-drop_complete-clause-keeps
returns-then-drop_complete-clause-keeps g c = record {
  kept = keeps-from (c.heads.invariant.same_reader, c.heads.invariant.only) c.heads.invariant.levels
      c.heads.invariant.fewer c.in_ok-skip_head.ensures.keeps.kept;
  fewer = le_trans c.in_ok-skip_head.ensures.keeps.fewer c.heads.invariant.fewer;
}
