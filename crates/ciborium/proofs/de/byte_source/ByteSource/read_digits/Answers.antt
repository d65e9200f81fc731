use Rattle.std.proofs.Common.{refl, sym, ap, ◌∙◌, subst, arith, length, length-append, ◌+◌, ◌≡◌, ◌≤◌, false}
use Rattle.ciborium_ll.specs.Accesses.{left_at_failure}
use Rattle.ciborium.proofs.Exits.{passed_on}
use Rattle.ciborium.proofs.Items.{FrontReads.granted-fill, TakenOnly.{keeps-taken, keeps-then, same-end}}
use Rattle.ciborium.proofs.Payloads.ReadDigits.{digit-more, fill-outside}
use Rattle.ciborium.specs.inner.ByteSources.{IsUnreadBy}
use Rattle.ciborium.proofs.de.byte_source.ByteSource.read_digits.Goals as goal

pub loop-left-preserved : goal.loop-left-preserved
loop-left-preserved g c =
    let d = c.loop-left.self.decoder in
    let e = c.read_exact_keeping.new.self in
    let none = c.loop-left.invariant.kept.pending in
    let buffer = c.read_exact_keeping.new.buffer in record {
      kept = keeps-then c.loop-left.invariant.kept (keeps-taken g.A.Access.remaining c.loop-left.self _ _
          c.in_ok-read_exact_keeping.ensures.same_reader c.in_ok-read_exact_keeping.ensures.taken refl none);
      took = λ y u.
          let (t, z, len, bytes, val, split, un) = c.loop-left.invariant.took y u in
          let (t', z', len', bytes', val', split', left') =
          digit-more Unit g.A.Access.remaining d e buffer c.only_byte.result c.loop-left.left c.args.len c.args.start
          c.loop-left.number c.with_digit-number.result y c.only_byte.ensures c.loop-left-test.true
          c.with_digit-number.ensures c.in_ok-read_exact_keeping.ensures.taken
          (t, z, len, bytes, val, split, subst (λ o. IsUnreadBy g.A.Access.remaining d o z) none un) in
          (t', z', len', bytes', val', split', subst (λ o. IsUnreadBy g.A.Access.remaining e o z') (sym none) left');
    }

pub returns-in_err-read_exact_keeping-clause-outside : goal.returns-in_err-read_exact_keeping-clause-outside
returns-in_err-read_exact_keeping-clause-outside g c =
    let d = c.loop-left.self.decoder in
    rw (passed_on c.from_residual.result _ c.from_residual.ensures.1) (λ y m end u there fits.
    let (t, z, len, bytes, val, split, un) = c.loop-left.invariant.took y u in
    let more : length y ≡ length t + length z = ap length split ∙ length-append t z in
    let one = c.read_exact_keeping.auto.buffer in
    fill-outside g.A.Access.can_fail g.A.Access.remaining d c.read_exact_keeping.new.self
    c.read_exact_keeping.new.buffer z m end
    c.in_err-read_exact_keeping.field-0.0 (subst (λ o. IsUnreadBy g.A.Access.remaining d o z)
    c.loop-left.invariant.kept.pending un)
    (omega (arith, there, more, len, one, c.loop-left-test.true)) (subst (λ n. n ≤ end + m)
    (sym (same-end g.A.Access.remaining c.args.self.now c.loop-left.self c.loop-left.invariant.kept.only y u)) fits)
    c.in_err-read_exact_keeping.ensures.taken c.in_err-read_exact_keeping.ensures.ended)

pub returns-in_err-read_exact_keeping-clause-memory : goal.returns-in_err-read_exact_keeping-clause-memory
returns-in_err-read_exact_keeping-clause-memory g c =
    let taken = c.in_err-read_exact_keeping.ensures.taken in
    rw (passed_on c.from_residual.result _ c.from_residual.ensures.1) (granted-fill
    (left_at_failure g.A.Access.can_fail (g.A.Access.remaining c.read_exact_keeping.new.self.reader.now))
    c.in_err-read_exact_keeping.field-0.0 taken.0 c.read_exact_keeping.new.buffer c.loop-left.self.decoder.counter.count
    false taken.3)

pub returns-in_err-read_exact_keeping-clause-keeps : goal.returns-in_err-read_exact_keeping-clause-keeps
returns-in_err-read_exact_keeping-clause-keeps g c =
    keeps-then c.loop-left.invariant.kept (keeps-taken g.A.Access.remaining c.loop-left.self _ _
    c.in_err-read_exact_keeping.ensures.same_reader c.in_err-read_exact_keeping.ensures.taken refl
    c.loop-left.invariant.kept.pending)
