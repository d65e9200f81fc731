use Rattle.std.proofs.Common.{◌∙◌, subst, length-take-le}
use Rattle.ciborium.proofs.{Exits.passed_on, Payloads.ShortNames.{just-denied, no-text-denied}}
use Rattle.ciborium.specs.inner.{ByteSources.{IsUnread, end_at, fault_at}, StringContents.DeniesJust}
use Rattle.ciborium_ll.specs.declared.strings.StringType.{StringType}
use Rattle.ciborium_value.specs.Sources.{of_syntax}
use Rattle.ciborium.proofs.de.byte_source.ByteSource.copied_place.Goals as goal

pub returns-in_err-fill-clause-denied : goal.returns-in_err-fill-clause-denied
returns-in_err-fill-clause-denied g c =
    let P = IsUnread g.A.Access.remaining c.args.self.now in
    let end = end_at g.A.Access.remaining c.args.self.now in
    let fault = fault_at g.A.Access.can_fail g.A.Access.remaining c.fill.new.self c.in_err-fill.field-0.0 in
    rw (passed_on c.from_residual.result _ c.from_residual.ensures.1)
    (just-denied P end c.args.n fault StringType.Text (subst (λ k. DeniesJust P end k fault)
    (length-take-le c.args.n _ c.requires.short) c.in_err-fill.ensures.outside))

pub returns-in-Err-clause-denied : goal.returns-in-Err-clause-denied
returns-in-Err-clause-denied g c =
    no-text-denied (IsUnread g.A.Access.remaining c.args.self.now) (end_at g.A.Access.remaining c.args.self.now)
    c.args.n of_syntax (IsUnread g.A.Access.remaining c.fill.new.self) c.fill.new.buffer
    (c.fill.auto.buffer ∙ length-take-le c.args.n _ c.requires.short) c.in-Err.ensures.cases.0 c.in_ok-fill.ensures.ok
