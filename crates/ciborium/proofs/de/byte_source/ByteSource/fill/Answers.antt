use Rattle.std.proofs.{Common.{arith, refl, subst, false}}
use Rattle.ciborium_ll.specs.Accesses.{left_at_failure}
use Rattle.ciborium.proofs.{Items.{FrontReads.granted-fill, TakenOnly.keeps-taken}, Payloads.LoneCharacters.just-taken}
use Rattle.ciborium.{proofs.Payloads.ReadDigits.fill-outside, specs.inner.ByteSources.IsUnreadBy}
use Rattle.ciborium.proofs.Exits.{passed_on}
use Rattle.ciborium.proofs.de.byte_source.ByteSource.fill.Goals as goal

pub returns-clause-ok : goal.returns-clause-ok
returns-clause-ok g c = just-taken Unit g.A.Access.remaining c.args.self.now.decoder c.read_exact_keeping.new.self
    c.args.self.now.pending c.read_exact_keeping.new.buffer c.requires c.in_ok-read_exact_keeping.ensures.taken

pub returns-in_err-read_exact_keeping-clause-outside : goal.returns-in_err-read_exact_keeping-clause-outside
returns-in_err-read_exact_keeping-clause-outside g c =
    let d = c.args.self.now.decoder in
    rw (passed_on c.from_residual.result _ c.from_residual.ensures.1) (λ y m end u there fits.
    let same = c.read_exact_keeping.auto.buffer in
    fill-outside g.A.Access.can_fail g.A.Access.remaining d c.read_exact_keeping.new.self
    c.read_exact_keeping.new.buffer y m end
    c.in_err-read_exact_keeping.field-0.0 (subst (λ o. IsUnreadBy g.A.Access.remaining d o y) c.requires u)
    (omega (arith, there, same)) fits c.in_err-read_exact_keeping.ensures.taken
    c.in_err-read_exact_keeping.ensures.ended)

pub returns-in_err-read_exact_keeping-clause-memory : goal.returns-in_err-read_exact_keeping-clause-memory
returns-in_err-read_exact_keeping-clause-memory g c =
    let taken = c.in_err-read_exact_keeping.ensures.taken in
    rw (passed_on c.from_residual.result _ c.from_residual.ensures.1) (granted-fill
    (left_at_failure g.A.Access.can_fail (g.A.Access.remaining c.read_exact_keeping.new.self.reader.now))
    c.in_err-read_exact_keeping.field-0.0 taken.0 c.read_exact_keeping.new.buffer c.args.self.now.decoder.counter.count
    false taken.3)

pub returns-clause-keeps : goal.returns-clause-keeps
returns-clause-keeps g c = keeps-taken g.A.Access.remaining c.args.self.now _ _
    c.in_ok-read_exact_keeping.ensures.same_reader c.in_ok-read_exact_keeping.ensures.taken refl c.requires

pub returns-in_err-read_exact_keeping-clause-keeps : goal.returns-in_err-read_exact_keeping-clause-keeps
returns-in_err-read_exact_keeping-clause-keeps g c = keeps-taken g.A.Access.remaining c.args.self.now _ _
    c.in_err-read_exact_keeping.ensures.same_reader c.in_err-read_exact_keeping.ensures.taken refl c.requires
