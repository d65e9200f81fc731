use Rattle.std.proofs.Common.{◌≡◌, ◌+◌, ◌≤◌, ◌++◌, ◌∙◌, List, Ok, Some, add-zero, ap, inr, length, refl, subst, sym, ℕ}
use Rattle.ciborium_ll.specs.{Bytes.greatest_offset, Decoded.IsVisited, Decoding.Takes}
use Rattle.ciborium.proofs.{Exits.passed_on, Readers.WhateverFollows.{held-no-text, held-refused}}
use Rattle.ciborium.specs.inner.StringAnswers.{IsCopied, string_type}
use Rattle.ciborium.proofs.de.held.copy_held.Goals as goal

pub returns-in_err-value-clause-content : goal.returns-in_err-value-clause-content
returns-in_err-value-clause-content g c =
    rw (passed_on c.from_residual.result _ c.from_residual.ensures.1)
    (held-refused (Unit {0}) g.A.Access.remaining c.args.decoder.now c.visit_keeping.new.self
    (string_type c.args.is_text) c.args.len (IsCopied (string_type c.args.is_text)) c.in_err-value.field-0.0
    (subst (λ r. Takes g.A.Access.remaining c.args.decoder.now c.visit_keeping.new.self (λ y. IsVisited c.args.len
    (IsCopied (string_type c.args.is_text)) y c.args.decoder.now.counter.count r))
    (c.in-Some.is ∙ ap Some c.in_err-value.was) c.visit_keeping.ensures.taken))

pub returns-in-NoText-clause-content : goal.returns-in-NoText-clause-content
returns-in-NoText-clause-content g c =
    rw (c.last_offset.ensures ∙ c.visit_keeping.ensures.last) (held-no-text (Unit {0}) g.A.Access.remaining
    c.args.decoder.now c.visit_keeping.new.self (string_type c.args.is_text) c.args.len
    (subst (λ r. Takes g.A.Access.remaining c.args.decoder.now c.visit_keeping.new.self (λ y. IsVisited
    {E = Unit {0}} c.args.len (IsCopied (string_type c.args.is_text)) y c.args.decoder.now.counter.count r))
    (c.in-Some.is ∙ ap Some c.in_ok-value.was ∙ ap (λ v. Some (Ok v)) c.in-NoText.is) c.visit_keeping.ensures.taken))

pub returns-in-NoMemory-clause-content : goal.returns-in-NoMemory-clause-content
returns-in-NoMemory-clause-content g c =
    let t = c.visit_keeping.ensures.taken in (t.0, t.1, t.2, λ z xs p at. tt, t.4)

pub returns-in-Whole-clause-content : goal.returns-in-Whole-clause-content
returns-in-Whole-clause-content g c =
    let start = c.args.decoder.now.counter.count in
    let (y, taken, count, (size, fits, (allowed, tree)), bytes) = subst (λ r. Takes g.A.Access.remaining
    c.args.decoder.now c.visit_keeping.new.self (λ y. IsVisited {E = Unit {0}} c.args.len
    (IsCopied (string_type c.args.is_text)) y start r))
    (c.in-Some.is ∙ ap Some c.in_ok-value.was ∙ ap (λ v. Some (Ok v)) c.in-Whole.is) c.visit_keeping.ensures.taken in (
      y,
      taken,
      count,
      λ z xs p at.
          let whole : xs ≡ y ++ z = cc (at.1) in
          let ends : p + c.args.len ≤ greatest_offset = subst (λ n. n + c.args.len ≤ greatest_offset) at.0 fits in (
            y,
            y,
            z,
            inr (ends, (size, allowed, refl)),
            tree,
            whole,
            (count ∙ ap (λ n. n + length y) at.0, refl),
            subst (λ n. p + n ≤ greatest_offset) (sym size) ends,
          ),
      bytes,
    )

pub returns-in_default-clause-content : goal.returns-in_default-clause-content
returns-in_default-clause-content g c =
    let start = c.args.decoder.now.counter.count in
    let (y, taken, count, none, bytes) = subst (λ r. Takes g.A.Access.remaining c.args.decoder.now
    c.visit_keeping.new.self (λ y. IsVisited {E = Unit {0}} c.args.len (IsCopied (string_type c.args.is_text)) y start
    r)) c.in_default.is c.visit_keeping.ensures.taken in (
      y,
      taken,
      count,
      λ z xs p at. (
        count ∙ ap (λ (w : List ℕ). start + length w) none ∙ add-zero start ∙ at.0,
        ap (λ (w : List ℕ). Some (w ++ z)) (sym none) ∙ at.1,
      ),
      bytes,
    )
