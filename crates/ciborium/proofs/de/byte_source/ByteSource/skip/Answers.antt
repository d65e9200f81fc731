use Rattle.std.proofs.{Common.{[], ◌∷◌, IfOk, OnOk, Result, Ok, Err, refl}, lemmas.Result.MatchResult-from_both}
use Rattle.ciborium_ll.specs.declared.levels.Level.TheVariants.{Items}
use Rattle.ciborium_value.{proofs.Sources.TreeReading.if_err_so, specs.Given.given_skip}
use Rattle.ciborium.proofs.{Containers.HeadsAside.answers-aside, Exits.passed_on, Items.PassedOver.head-denied}
use Rattle.ciborium.proofs.Items.PassedOver.{item-denied, item-passed, lone-passed, payload-denied}
use Rattle.ciborium.{proofs.Items.TakenOnly.same-end, specs.inner.ByteSources.{IsUnread, end_at, fault_at}}
use Rattle.ciborium.proofs.de.byte_source.ByteSource.skip.Goals as goal

ok-if : {T E Q : Type 0} {P : T → Type 0} (r : Result T E) → (Q → (v : T) → P v) → OnOk r Q → IfOk r P
ok-if (Ok v) f q = f q v
ok-if (Err e) f q = tt

pub returns-in_err-header-clause-answer : goal.returns-in_err-header-clause-answer
returns-in_err-header-clause-answer g c =
    let old = c.args.self.now in
    let fault = fault_at g.A.Access.can_fail g.A.Access.remaining c.next_head.new.self c.in_err-header.field-0.0 in
    rw (passed_on c.from_residual.result _ c.from_residual.ensures.1)
    (item-denied (IsUnread g.A.Access.remaining old) (end_at g.A.Access.remaining old) old.levels
    fault
    (head-denied (IsUnread g.A.Access.remaining old) (end_at g.A.Access.remaining old) old.levels (Items 1 ∷ []) fault
    tt
    (IsUnread g.A.Access.remaining) (end_at g.A.Access.remaining) old (λ y u. u) refl c.in_err-header.ensures.denied))

pub returns-then-is_lone-clause-answer : goal.returns-then-is_lone-clause-answer
returns-then-is_lone-clause-answer g c =
    let old = c.args.self.now in
    let mid = c.next_head.new.self in
    let new = c.skip_payload.new.self in
    let header = c.in_ok-header.header in
    MatchResult-from_both c.skip_payload.result _ _
    (ok-if c.skip_payload.result (λ took _. item-passed (IsUnread g.A.Access.remaining old)
    (IsUnread g.A.Access.remaining new) old.levels (lone-passed (IsUnread g.A.Access.remaining old)
    (IsUnread g.A.Access.remaining mid) (IsUnread g.A.Access.remaining new) old.levels header
    c.in_ok-header.ensures.head (c.if-is_lone.ensures refl) took)) c.skip_payload.ensures.ok)
    (if_err_so c.skip_payload.result (λ e denied. let fault = fault_at g.A.Access.can_fail g.A.Access.remaining new e in
    item-denied (IsUnread g.A.Access.remaining old) (end_at g.A.Access.remaining old) old.levels fault
    (payload-denied (IsUnread g.A.Access.remaining old) (end_at g.A.Access.remaining old) old.levels (Items 1 ∷ [])
    fault
    tt (IsUnread g.A.Access.remaining mid) (end_at g.A.Access.remaining mid) header c.in_ok-header.ensures.head
    (same-end g.A.Access.remaining old mid c.in_ok-header.ensures.keeps.only) denied)) c.skip_payload.ensures.denied)

pub returns-clause-answer : goal.returns-clause-answer
returns-clause-answer g c =
    let mid = c.next_head.new.self in
    let head = c.in_ok-header.ensures in
    answers-aside g.A.Access.remaining c.args.self.now mid c.in_ok-header.header head.head c.in_ok-header.offset
    head.keeps.pending head.counted head.keeps.levels head.keeps.only g.A.Access.can_fail given_skip (λ v. v)
    c.skip_heads.new.self
    c.skip_heads.result c.skip_heads.ensures.answer
