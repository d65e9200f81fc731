use Rattle.std.proofs.Common.{◌∷◌, ◌<◌, ◌≤◌, ℕ, suc, refl, sym, ap, ◌∙◌, subst, arith, length, le_refl}
use Rattle.std.proofs.lemmas.Result.{err_from_is_err_and}
use Rattle.ciborium.proofs.{Exits.passed_on, Items.PassedOver.{bignum-denied, bignum-passed, fits, head-denied}}
use Rattle.ciborium.proofs.Items.PassedOver.{head-passed, is-end, misplaced-denied, open-levels, passed-ended}
use Rattle.ciborium.proofs.Items.{PassedOver.{payload-denied, stays}, TakenOnly.{keeps-then, same-end}}
use Rattle.ciborium.{proofs.Items.Weights.head-behind, specs.inner.ByteSources.{IsUnread, end_at, fault_at}}
use Rattle.ciborium.specs.inner.PassedOver.{PassesHeads, around_in, levels_in}
use Rattle.ciborium_ll.specs.Levels.{levels_by}
use Rattle.ciborium.proofs.de.byte_source.ByteSource.skip_head.Goals as goal

one-more : (n : ℕ) → n ≤ suc n
one-more n = omega arith

pub returns-in_err-header-clause-denied : goal.returns-in_err-header-clause-denied
returns-in_err-header-clause-denied g c =
    let old = c.args.self.now in
    rw (passed_on c.from_residual.result _ c.from_residual.ensures.1)
    (head-denied (IsUnread g.A.Access.remaining old) (end_at g.A.Access.remaining old) old.levels
    (levels_in c.args.unfinished.now)
    (fault_at g.A.Access.can_fail g.A.Access.remaining c.next_head.new.self c.in_err-header.field-0.0)
    (open-levels _ _ c.requires) (IsUnread g.A.Access.remaining) (end_at g.A.Access.remaining) old (λ y u. u) refl
    c.in_err-header.ensures.denied)

pub returns-in-Misplaced-clause-denied : goal.returns-in-Misplaced-clause-denied
returns-in-Misplaced-clause-denied g c =
    let old = c.args.self.now in
    misplaced-denied (IsUnread g.A.Access.remaining old) (end_at g.A.Access.remaining old) old.levels
    (levels_in c.args.unfinished.now)
    (fault_at g.A.Access.can_fail g.A.Access.remaining c.next_head.new.self c.misplaced.result)
    (open-levels _ _ c.requires) (IsUnread g.A.Access.remaining c.next_head.new.self) c.in_ok-header.header
    c.in_ok-header.ensures.head
    (c.step_of-step.ensures (around_in c.args.unfinished.now) ∙
    ap (λ s. levels_by s (around_in c.args.unfinished.now)) c.in-Misplaced.is)

pub returns-in_err-skip_payload-clause-denied : goal.returns-in_err-skip_payload-clause-denied
returns-in_err-skip_payload-clause-denied g c =
    let old = c.args.self.now in
    let mid = c.next_head.new.self in
    rw (passed_on c.from_residual-in_err-skip_payload.result _ c.from_residual-in_err-skip_payload.ensures.1)
    (payload-denied (IsUnread g.A.Access.remaining old) (end_at g.A.Access.remaining old) old.levels
    (levels_in c.args.unfinished.now)
    (fault_at g.A.Access.can_fail g.A.Access.remaining c.skip_payload.new.self c.in_err-skip_payload.field-0.0)
    (open-levels _ _ c.requires) (IsUnread g.A.Access.remaining mid) (end_at g.A.Access.remaining mid)
    c.in_ok-header.header c.in_ok-header.ensures.head
    (same-end g.A.Access.remaining old mid c.in_ok-header.ensures.keeps.only) c.in_err-skip_payload.ensures.denied)

pub returns-in-Within-clause-ok : goal.returns-in-Within-clause-ok
returns-in-Within-clause-ok g c =
    let old = c.args.self.now in
    let around = around_in c.args.unfinished.now in
    let behind = c.step_of-step.ensures around ∙ ap (λ s. levels_by s around) c.in-Within.is in
    head-passed (IsUnread g.A.Access.remaining old) (IsUnread g.A.Access.remaining c.next_head.new.self)
    (IsUnread g.A.Access.remaining c.skip_payload.new.self) old.levels (levels_in c.args.unfinished.now)
    (c.in-Within.next ∷ around) c.in_ok-header.header c.in_ok-header.ensures.head c.in_ok-skip_payload.ensures.ok behind
    (λ limited. stays old.levels limited c.in_ok-header.header _ around _ behind (le_refl _))

pub returns-in_default-step-clause-ok : goal.returns-in_default-step-clause-ok
returns-in_default-step-clause-ok g c =
    let old = c.args.self.now in
    let around = around_in c.args.unfinished.now in
    let behind = is-end c.step_of-step.result _ around c.in_default-step.not-Within c.in_default-step.not-Enters
    c.in_default.not-Misplaced (c.step_of-step.ensures around) in
    passed-ended _ _ old.levels (levels_in c.args.unfinished.now) around
    (head-passed (IsUnread g.A.Access.remaining old) (IsUnread g.A.Access.remaining c.next_head.new.self)
    (IsUnread g.A.Access.remaining c.skip_payload.new.self) old.levels (levels_in c.args.unfinished.now)
    around c.in_ok-header.header c.in_ok-header.ensures.head c.in_ok-skip_payload.ensures.ok behind
    (λ limited. stays old.levels limited c.in_ok-header.header _ around _ behind (one-more _)))

pub returns-in_ok-skip_bignum-in-Enters-clause-ok : goal.returns-in_ok-skip_bignum-in-Enters-clause-ok
returns-in_ok-skip_bignum-in-Enters-clause-ok g c =
    let old = c.args.self.now in
    let around = around_in c.args.unfinished.now in
    let behind = c.step_of-step.ensures around ∙ ap (λ s. levels_by s around) c.in-Enters.is in
    bignum-passed (IsUnread g.A.Access.remaining old) (IsUnread g.A.Access.remaining c.next_head.new.self)
    (IsUnread g.A.Access.remaining c.skip_payload.new.self) old.levels
    (IsUnread g.A.Access.remaining c.skip_bignum.new.self) (levels_in c.args.unfinished.now)
    (c.in-Enters.next ∷ around) c.in-Enters.inner c.in_ok-header.header c.in_ok-header.ensures.head
    c.in_ok-skip_payload.ensures.ok c.in_ok-skip_bignum-in-Enters.ensures.ok behind

pub returns-in_ok-begin-in-Enters-clause-ok : goal.returns-in_ok-begin-in-Enters-clause-ok
returns-in_ok-begin-in-Enters-clause-ok g c =
    let old = c.args.self.now in
    let around = around_in c.args.unfinished.now in
    let behind = c.step_of-step.ensures around ∙ ap (λ s. levels_by s around) c.in-Enters.is in
    subst (PassesHeads (IsUnread g.A.Access.remaining old) (IsUnread g.A.Access.remaining c.skip_payload.new.self)
    old.levels (levels_in c.args.unfinished.now)) (sym c.in_ok-begin-in-Enters.ensures.ok)
    (head-passed (IsUnread g.A.Access.remaining old) (IsUnread g.A.Access.remaining c.next_head.new.self)
    (IsUnread g.A.Access.remaining c.skip_payload.new.self) old.levels (levels_in c.args.unfinished.now)
    (c.in-Enters.inner ∷ c.in-Enters.next ∷ around) c.in_ok-header.header c.in_ok-header.ensures.head
    c.in_ok-skip_payload.ensures.ok behind
    (λ limited. fits old.levels limited c.in_ok-header.header c.args.unfinished.now.level around
    (λ one. subst (λ n. length around < n)
    (c.in_ok-skip_payload.ensures.keeps.levels ∙ c.in_ok-header.ensures.keeps.levels) (c.if-is_full.ensures.room refl
    one))))

pub returns-in_err-skip_bignum-in-Enters-clause-denied : goal.returns-in_err-skip_bignum-in-Enters-clause-denied
returns-in_err-skip_bignum-in-Enters-clause-denied g c =
    let old = c.args.self.now in
    let ahead = c.skip_payload.new.self in
    let around = around_in c.args.unfinished.now in
    let behind = c.step_of-step.ensures around ∙ ap (λ s. levels_by s around) c.in-Enters.is in
    rw (passed_on c.from_residual-in_err-skip_bignum-in-Enters.result _
    c.from_residual-in_err-skip_bignum-in-Enters.ensures.1)
    (bignum-denied (IsUnread g.A.Access.remaining old)
    (IsUnread g.A.Access.remaining c.next_head.new.self) (IsUnread g.A.Access.remaining ahead) old.levels
    (end_at g.A.Access.remaining old) (end_at g.A.Access.remaining ahead) c.args.unfinished.now.level around
    (c.in-Enters.next ∷ around) c.in-Enters.inner c.in_ok-header.header
    (fault_at g.A.Access.can_fail g.A.Access.remaining c.skip_bignum.new.self c.in_err-skip_bignum-in-Enters.field-0.0)
    (open-levels _ _ c.requires) c.in_ok-header.ensures.head c.in_ok-skip_payload.ensures.ok behind
    (c.if-is_full.ensures.full refl).0 (subst (λ n. n ≤ length around)
    (c.in_ok-skip_payload.ensures.keeps.levels ∙ c.in_ok-header.ensures.keeps.levels) (c.if-is_full.ensures.full
    refl).1)
    (same-end g.A.Access.remaining old ahead (keeps-then c.in_ok-header.ensures.keeps
    c.skip_payload.ensures.keeps).only) c.in_err-skip_bignum-in-Enters.ensures.denied)

pub returns-in_err-begin-in-Enters-clause-denied : goal.returns-in_err-begin-in-Enters-clause-denied
returns-in_err-begin-in-Enters-clause-denied g c =
    let exit = err_from_is_err_and c.from_residual-in_err-begin-in-Enters.result
    c.from_residual-in_err-begin-in-Enters.ensures.1 in
    rw (exit.1, exit.2, c.in_err-begin-in-Enters.ensures.memory) (λ y z end u to fits. tt)

pub returns-in-Within-clause-keeps : goal.returns-in-Within-clause-keeps
returns-in-Within-clause-keeps g c =
    head-behind _ c.in_ok-header.ensures.fewer c.next_head.ensures.keeps c.skip_payload.ensures.keeps

pub returns-in_default-step-clause-keeps : goal.returns-in_default-step-clause-keeps
returns-in_default-step-clause-keeps g c =
    head-behind _ c.in_ok-header.ensures.fewer c.next_head.ensures.keeps c.skip_payload.ensures.keeps

pub returns-in_ok-begin-in-Enters-clause-keeps : goal.returns-in_ok-begin-in-Enters-clause-keeps
returns-in_ok-begin-in-Enters-clause-keeps g c =
    head-behind _ c.in_ok-header.ensures.fewer c.next_head.ensures.keeps c.skip_payload.ensures.keeps

pub returns-in_ok-skip_bignum-in-Enters-clause-keeps : goal.returns-in_ok-skip_bignum-in-Enters-clause-keeps
returns-in_ok-skip_bignum-in-Enters-clause-keeps g c =
    head-behind _ c.in_ok-header.ensures.fewer c.next_head.ensures.keeps (keeps-then c.skip_payload.ensures.keeps
    c.skip_bignum.ensures.keeps)

pub returns-in_err-skip_payload-clause-keeps : goal.returns-in_err-skip_payload-clause-keeps
returns-in_err-skip_payload-clause-keeps g c =
    rw (passed_on c.from_residual-in_err-skip_payload.result _ c.from_residual-in_err-skip_payload.ensures.1)
    (record { kept = keeps-then c.next_head.ensures.keeps c.skip_payload.ensures.keeps; fewer = tt })

pub returns-in_err-begin-in-Enters-clause-keeps : goal.returns-in_err-begin-in-Enters-clause-keeps
returns-in_err-begin-in-Enters-clause-keeps g c =
    rw (passed_on c.from_residual-in_err-begin-in-Enters.result _ c.from_residual-in_err-begin-in-Enters.ensures.1)
    (record { kept = keeps-then c.next_head.ensures.keeps c.skip_payload.ensures.keeps; fewer = tt })

pub returns-in_err-skip_bignum-in-Enters-clause-keeps : goal.returns-in_err-skip_bignum-in-Enters-clause-keeps
returns-in_err-skip_bignum-in-Enters-clause-keeps g c =
    rw (passed_on c.from_residual-in_err-skip_bignum-in-Enters.result _
    c.from_residual-in_err-skip_bignum-in-Enters.ensures.1)
    (record {
      kept = keeps-then c.next_head.ensures.keeps (keeps-then c.skip_payload.ensures.keeps
          c.skip_bignum.ensures.keeps);
      fewer = tt;
    })

pub returns-in_err-header-clause-keeps : goal.returns-in_err-header-clause-keeps
returns-in_err-header-clause-keeps g c =
    rw (passed_on c.from_residual.result _ c.from_residual.ensures.1)
    (record { kept = c.next_head.ensures.keeps; fewer = tt })
