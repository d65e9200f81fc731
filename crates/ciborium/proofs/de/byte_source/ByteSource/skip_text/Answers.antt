use Rattle.std.proofs.{Common.{◌≡◌, Some, false, ap, ◌∙◌}}
use Rattle.ciborium_value.specs.Sources.{of_syntax}
use Rattle.ciborium.specs.inner.ByteSources.{IsUnread, end_at, fault_at}
use Rattle.ciborium.proofs.Payloads.VisitedPayloads.{payload-denied, payload-denied-then, no-text-there}
use Rattle.ciborium_ll.specs.declared.header.Header.TheVariants as header
use Rattle.ciborium.proofs.Exits.{passed_on}
use Rattle.ciborium.proofs.Items.TakenOnly.{keeps-then}
use Rattle.ciborium.proofs.de.byte_source.ByteSource.skip_text.Goals as goal

pub returns-in_err-visit-clause-denied : goal.returns-in_err-visit-clause-denied
returns-in_err-visit-clause-denied g c =
    let fault = fault_at g.A.Access.can_fail g.A.Access.remaining c.visit.new.self c.in_err-visit.field-0.0 in
    rw (passed_on c.from_residual.result _ c.from_residual.ensures.1)
    (payload-denied (IsUnread g.A.Access.remaining c.args.self.now)
    (end_at g.A.Access.remaining c.args.self.now) c.args.len fault (header.Text (Some c.args.len)) (λ p is. is.0)
    c.in_err-visit.ensures.outside)

pub returns-in-Some-false-clause-denied : goal.returns-in-Some-false-clause-denied
returns-in-Some-false-clause-denied g c =
    let none : c.in_ok-visit.field-0 ≡ Some false = c.in-Some-false.is ∙ ap Some c.in-Some-false.field-0-test in
    let (b, size, not, took) = rw none at c.in_ok-visit.ensures.some in
    no-text-there (IsUnread g.A.Access.remaining c.args.self.now) (IsUnread g.A.Access.remaining c.visit.new.self)
    (end_at g.A.Access.remaining c.args.self.now) c.args.len of_syntax b size not took

pub returns-in-None-clause-denied : goal.returns-in-None-clause-denied
returns-in-None-clause-denied g c =
    let kept = rw c.in-None.is at c.in_ok-visit.ensures.none in
    payload-denied-then g.A.Access.remaining c.args.self.now c.visit.new.self
    (fault_at g.A.Access.can_fail g.A.Access.remaining c.skip_text_pieces.new.self) c.in_ok-visit.ensures.keeps.only
    kept
    (header.Text (Some c.args.len)) c.skip_text_pieces.result c.skip_text_pieces.ensures.denied

pub returns-in-None-clause-keeps : goal.returns-in-None-clause-keeps
returns-in-None-clause-keeps g c = keeps-then c.visit.ensures.keeps c.skip_text_pieces.ensures.keeps
