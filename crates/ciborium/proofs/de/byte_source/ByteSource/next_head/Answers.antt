use Rattle.std.proofs.{Common.{◌∙◌, sym, refl, subst, ◌≡◌, ◌≤◌, arith, false, ◌+◌}}
use Rattle.ciborium.proofs.Items.FrontReads.{ahead-unpushed, counted-pending, counted-pulled, fewer-bytes, head-outside}
use Rattle.ciborium.proofs.Items.{FrontReads.{ended-ll, failed-fault, granted-head, weighs-none}, TakenOnly.keeps-taken}
use Rattle.ciborium.specs.{Errors.from_ll, inner.ByteSources.{IsUnreadBy, bytes_weight, weight_left, known_end}}
use Rattle.ciborium_ll.specs.{Accesses.left_at_failure, Decoding.left_of}
use Rattle.ciborium_value.specs.Sources.{IsOutsideFault}
use Rattle.ciborium.proofs.Exits.{passed_on}
use Rattle.ciborium.proofs.de.byte_source.ByteSource.next_head.Goals as goal

pub returns-in_err-header-clause-denied : goal.returns-in_err-header-clause-denied
returns-in_err-header-clause-denied g c =
    let d = c.args.self.now.decoder in
    let e = c.pull_next_keeping.new.self in
    let error = c.in_err-header.field-0.0 in
    rw (passed_on c.from_residual.result _ c.from_residual.ensures.1) (λ b x y h n end u s f there fits.
    let left = subst (λ o. IsUnreadBy g.A.Access.remaining d o b) c.in_default.is u in
    subst (IsOutsideFault end) (failed-fault g.A.Access.can_fail
    (left_of g.A.Access.remaining e) (from_ll error) (ended-ll g.A.Access.can_fail (left_of g.A.Access.remaining e)
    error c.in_err-header.ensures.ended))
    (head-outside (left_of g.A.Access.remaining e) error b x y d.counter.count n end h s f there
    (subst (λ o. known_end o d.counter.count ≤ end + n) left fits)
    (c.in_err-header.ensures.ahead b d.counter.count (ahead-unpushed g.A.Access.remaining d b c.args.self.now.unpushed
    left))))

pub returns-in_err-header-clause-memory : goal.returns-in_err-header-clause-memory
returns-in_err-header-clause-memory g c =
    let taken = c.in_err-header.ensures.taken in
    rw (passed_on c.from_residual.result _ c.from_residual.ensures.1) (granted-head
    (left_at_failure g.A.Access.can_fail (g.A.Access.remaining c.pull_next_keeping.new.self.reader.now))
    c.in_err-header.field-0.0 taken.0 c.args.self.now.decoder.counter.count false taken.3)

pub returns-clause-fewer : goal.returns-clause-fewer
returns-clause-fewer g c =
    let fewer = fewer-bytes Unit g.A.Access.remaining c.args.self.now.decoder c.pull_next_keeping.new.self
    c.in_ok-header.header c.in_ok-header.ensures.taken in
    let none : weight_left c.args.self.now ≡ bytes_weight c.args.self.now =
    weighs-none c.args.self.now c.in_default.is in
    omega (arith, fewer, none)

pub returns-in-Some-clause-counted : goal.returns-in-Some-clause-counted
returns-in-Some-clause-counted g c b x y u = counted-pending g.A.Access.remaining c.args.self.now.decoder
    c.args.self.now.pending (c.in-Some.header, c.in-Some.offset) b x y c.in-Some.is u

pub returns-clause-counted : goal.returns-clause-counted
returns-clause-counted g c b x y u =
    let d = c.args.self.now.decoder in
    counted-pulled Unit (left_of g.A.Access.remaining c.pull_next_keeping.new.self) c.pull_next_keeping.new.self
    c.in_ok-header.header d.counter.count c.last_offset-offset.result c.pull_next_keeping.new.self.last b x y
    (c.last_offset-offset.ensures ∙ c.in_ok-header.ensures.last)
    (c.in_ok-header.ensures.ahead b d.counter.count (ahead-unpushed g.A.Access.remaining d b c.args.self.now.unpushed
    (subst (λ o. IsUnreadBy g.A.Access.remaining d o b) c.in_default.is u)))

pub returns-clause-head : goal.returns-clause-head
returns-clause-head g c b u =
    let d = c.args.self.now.decoder in
    let (x, y, hd, usable, e, stood, counted, rest) = c.in_ok-header.ensures.ahead b d.counter.count
    (ahead-unpushed g.A.Access.remaining d b c.args.self.now.unpushed
    (subst (λ o. IsUnreadBy g.A.Access.remaining d o b) c.in_default.is u)) in (
      x,
      y,
      hd,
      e,
      subst (λ o. IsUnreadBy g.A.Access.remaining c.pull_next_keeping.new.self o y) (sym c.in_default.is)
          rest,
    )

pub returns-clause-keeps : goal.returns-clause-keeps
returns-clause-keeps g c = keeps-taken g.A.Access.remaining c.args.self.now _ _
    c.in_ok-header.ensures.same_reader c.in_ok-header.ensures.taken refl c.in_default.is

pub returns-in_err-header-clause-keeps : goal.returns-in_err-header-clause-keeps
returns-in_err-header-clause-keeps g c = keeps-taken g.A.Access.remaining c.args.self.now _ _
    c.in_err-header.ensures.same_reader c.in_err-header.ensures.taken refl c.in_default.is
