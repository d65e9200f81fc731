use Rattle.std.{proofs.Common.{sym, Some, subst}, specs.Int.complement_if}
use Rattle.ciborium_value.specs.{Given.{given_integer, given_skip}, Labels.{numbered, other, placed}}
use Rattle.ciborium.{proofs.{Containers.Labels.denies-mapped, Exits.passed_on}, specs.inner.ByteSources.IsUnread}
use Rattle.ciborium.specs.inner.{ByteSources.{end_at, fault_at}, FrontItems.Denies}
use Rattle.ciborium.proofs.de.byte_source.ByteSource.place_of_type.Goals as goal

pub returns-in_err-negative-in-Number-clause-answer : goal.returns-in_err-negative-in-Number-clause-answer
returns-in_err-negative-in-Number-clause-answer g c =
    let place = g.N.Labels.place_of c.args.labels.now in
    let l = Some c.args.self.now.levels in
    let fault = fault_at g.A.Access.can_fail g.A.Access.remaining c.read_integer.new.self
    c.in_err-negative-in-Number.field-0.0 in
    rw (passed_on c.from_residual.result _
    c.from_residual.ensures.1)
    (subst (λ k. Denies (IsUnread g.A.Access.remaining) (end_at g.A.Access.remaining)
    c.args.self.now l (placed place k) fault) (sym c.in-Number.is)
    (denies-mapped (IsUnread g.A.Access.remaining) (end_at g.A.Access.remaining) c.args.self.now l given_integer
    (λ n. place (numbered (complement_if n.0 n.1))) fault c.in_err-negative-in-Number.ensures.answer))

pub returns-in_err-skip-in-Other-clause-answer : goal.returns-in_err-skip-in-Other-clause-answer
returns-in_err-skip-in-Other-clause-answer g c =
    let place = g.N.Labels.place_of c.args.labels.now in
    let l = Some c.args.self.now.levels in
    let fault = fault_at g.A.Access.can_fail g.A.Access.remaining c.skip.new.self c.in_err-skip-in-Other.field-0.0 in
    rw (passed_on c.from_residual-in_err-skip-in-Other.result _ c.from_residual-in_err-skip-in-Other.ensures.1)
    (subst (λ k. Denies (IsUnread g.A.Access.remaining) (end_at g.A.Access.remaining)
    c.args.self.now l (placed place k) fault) (sym c.in-Other.is)
    (denies-mapped (IsUnread g.A.Access.remaining) (end_at g.A.Access.remaining) c.args.self.now l given_skip
    (λ n. place other) fault c.in_err-skip-in-Other.ensures.answer))

pub returns-in-Name-clause-answer : goal.returns-in-Name-clause-answer
returns-in-Name-clause-answer g c = rw c.in-Name.is c.named_place.ensures.answer
