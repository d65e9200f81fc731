use Rattle.std.proofs.{Common.{◌≡◌, None, Some, ap, refl, subst, sym, ◌∙◌}, lemmas.Result.{IfOk-from_err, IfOk-weaker}}
use Rattle.ciborium_ll.specs.{Head.IsHead, declared.strings.StringType.StringType}
use Rattle.ciborium_value.specs.Sources.{of_syntax}
use Rattle.ciborium.proofs.{Exits.passed_on, Payloads.ShortNames.{just-denied, no-text-denied}}
use Rattle.ciborium.{proofs.Payloads.VisitedPayloads.content-denied-then, specs.inner.ByteSources.{IsUnread, end_at}}
use Rattle.ciborium.specs.inner.ByteSources.{fault_at}
use Rattle.ciborium.proofs.Items.TakenOnly.{keeps-then}
use Rattle.ciborium.proofs.de.byte_source.ByteSource.short_place.Goals as goal

pub returns-in_err-place-clause-denied : goal.returns-in_err-place-clause-denied
returns-in_err-place-clause-denied g c =
    let fault = fault_at g.A.Access.can_fail g.A.Access.remaining c.visit.new.self c.in_err-place.field-0.0 in
    rw (passed_on c.from_residual.result _ c.from_residual.ensures.1)
    (just-denied (IsUnread g.A.Access.remaining c.args.self.now)
    (end_at g.A.Access.remaining c.args.self.now) c.args.n fault StringType.Text c.in_err-place.ensures.outside)

pub returns-in-Some-None-clause-denied : goal.returns-in-Some-None-clause-denied
returns-in-Some-None-clause-denied g c =
    let none : c.in_ok-place.field-0 ≡ Some None = c.in-Some-None.is ∙ ap Some c.in-Some-None.field-0-is in
    let (b, size, not, took) = rw none at c.in_ok-place.ensures.some in
    no-text-denied (IsUnread g.A.Access.remaining c.args.self.now) (end_at g.A.Access.remaining c.args.self.now)
    c.args.n of_syntax (IsUnread g.A.Access.remaining c.visit.new.self) b size not took

pub returns-in-None-clause-denied : goal.returns-in-None-clause-denied
returns-in-None-clause-denied g c =
    let kept = rw c.in-None.is at c.in_ok-place.ensures.none in
    content-denied-then g.A.Access.remaining c.args.self.now c.visit.new.self
    (fault_at g.A.Access.can_fail g.A.Access.remaining c.copied_place.new.self) c.in_ok-place.ensures.keeps.only kept
    StringType.Text (Some c.args.n) c.copied_place.result c.copied_place.ensures.denied

pub returns-in_err-place-clause-ok : goal.returns-in_err-place-clause-ok
returns-in_err-place-clause-ok g c = IfOk-from_err c.from_residual.result _ c.from_residual.ensures.0

pub returns-in-Some-Some-clause-ok : goal.returns-in-Some-Some-clause-ok
returns-in-Some-Some-clause-ok g c =
    let found : c.in_ok-place.field-0 ≡ Some (Some c.in-Some-Some.place) =
    c.in-Some-Some.is ∙ ap Some c.in-Some-Some.field-0-is in
    let (b, size, named, took) = rw found at c.in_ok-place.ensures.some in (
      b,
      λ y u. let (z, whole, v) = took y u in
          (b, z, λ x head. (x, subst (IsHead x 3) (sym size) head, named.0, refl), whole, v),
      named.1,
    )

pub returns-in-None-clause-ok : goal.returns-in-None-clause-ok
returns-in-None-clause-ok g c =
    let kept = rw c.in-None.is at c.in_ok-place.ensures.none in
    IfOk-weaker c.copied_place.result _ _ (λ place t. let (payload, took, is) = t in
    (payload, λ y u. took y (kept y u), is)) c.copied_place.ensures.ok

pub returns-in-None-clause-keeps : goal.returns-in-None-clause-keeps
returns-in-None-clause-keeps g c = keeps-then c.visit.ensures.keeps c.copied_place.ensures.keeps
