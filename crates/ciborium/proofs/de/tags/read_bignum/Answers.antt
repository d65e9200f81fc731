use Rattle.std.proofs.Common.{◌∙◌, ◌+◌, ◌≤◌, length, length-take-le, refl, sym, ap, subst}
use Rattle.ciborium_ll.specs.{Bytes.greatest_offset, Decoding.with_left}
use Rattle.ciborium.{proofs.Turns.AfterTag.{bignum-cut, bignum-folded, bignum-unwanted}, specs.inner.Parts.IsFolded}
use Rattle.ciborium_value.specs.Spelling.{IsUnwanted}
use Rattle.ciborium.proofs.Exits.{passed_on}
use Rattle.ciborium.proofs.de.tags.read_bignum.Goals as goal

pub returns-then-refuses_bignum-clause-bignum : goal.returns-then-refuses_bignum-clause-bignum
returns-then-refuses_bignum-clause-bignum g c =
    let t = c.in_ok-read_exact_keeping.ensures.taken in
    let len = c.read_exact_keeping.auto.buffer ∙ length-take-le c.args.n _ c.requires.short in (
      t.0,
      t.1,
      t.2,
      λ z xs p at fits. bignum-unwanted g.S.Rules.spelling c.args.tag c.args.n c.args.offset t.0 z xs
          (ap length t.3.0 ∙ len) t.4 (subst (IsUnwanted g.S.Rules.spelling) (sym t.3.0)
          (c.if-refuses_bignum.ensures.yes refl)) at.1,
      t.4,
    )

pub returns-clause-bignum : goal.returns-clause-bignum
returns-clause-bignum g c =
    let t = c.in_ok-read_exact_keeping.ensures.taken in
    let len = c.read_exact_keeping.auto.buffer ∙ length-take-le c.args.n _ c.requires.short in (
      t.0,
      t.1,
      t.2,
      λ z xs p at. bignum-folded g.S.Rules.spelling (with_left c.read_exact_keeping.new.self z) c.args.tag c.args.n
          c.args.offset p t.0 z xs c.fold.result (ap length t.3.0 ∙ len) t.4
          (subst (λ b. ¬ IsUnwanted g.S.Rules.spelling b) (sym t.3.0) (c.if-refuses_bignum.ensures.no refl)) at.1
          (t.2 ∙ ap (λ n. n + length t.0) at.0 ∙ ap (λ n. p + n) (ap length t.3.0 ∙ len), refl)
          (subst (λ b. IsFolded c.args.tag b c.args.offset c.fold.result) (sym t.3.0) c.fold.ensures),
      t.4,
    )

pub returns-in_err-read_exact_keeping-clause-bignum : goal.returns-in_err-read_exact_keeping-clause-bignum
returns-in_err-read_exact_keeping-clause-bignum g c =
    let t = c.in_err-read_exact_keeping.ensures.taken in
    let start = c.args.decoder.now.counter.count in
    rw (passed_on c.from_residual.result _ c.from_residual.ensures.1) (
      t.0,
      t.1,
      t.2,
      λ z xs p at fits. bignum-cut g.S.Rules.spelling c.in_err-read_exact_keeping.field-0.0 c.args.tag c.args.n
          c.args.offset start t.0 z xs c.read_exact_keeping.new.buffer t.3
          (c.read_exact_keeping.auto.buffer ∙ length-take-le c.args.n _ c.requires.short) at.1
          (subst (λ n. n + c.args.n ≤ greatest_offset) (sym at.0) fits),
      t.4,
    )
