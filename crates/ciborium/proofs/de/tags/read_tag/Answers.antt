use Rattle.std.proofs.Common.{◌≡◌, None, Some, Ok, Err, ap, sym, ◌∙◌, subst}
use Rattle.ciborium_ll.{proofs.Decoders.unread-with, specs.Decoding.{ReadsNothing, with_left}}
use Rattle.ciborium.proofs.{Exits.passed_on, Readers.WhateverFollows.{so-both, so-unread}, Turns.AfterTag.BignumSo}
use Rattle.ciborium.proofs.Turns.AfterTag.{bignum-refused, got-bignum, tag-faulty, tag-no-level, tag-begun, tag-refused}
use Rattle.ciborium.{proofs.Turns.Fronts.PullsSo, specs.inner.{Parts.IsFolding, Rules.head_fault}}
use Rattle.ciborium.proofs.de.tags.read_tag.{Given.Over, Goals.In_default-find_head_fault}
use Rattle.ciborium.proofs.de.tags.read_tag.Goals as goal

pub returns-in_err-next-clause-part : goal.returns-in_err-next-clause-part
returns-in_err-next-clause-part g c =
    let t = c.in_err-next.ensures.head in
    rw (passed_on c.from_residual.result _ c.from_residual.ensures.1) (
      t.0,
      t.1,
      t.2,
      λ z xs p a here. tag-refused c.args.levels c.requires a (with_left c.pull.new.decoder z) c.in_err-next.field-0.0
          (t.3 z),
      t.4,
    )

pub returns-in-Some-find_head_fault-clause-part : goal.returns-in-Some-find_head_fault-clause-part
returns-in-Some-find_head_fault-clause-part g c =
    let t = c.in_ok-next.ensures.head in (
      t.0,
      t.1,
      t.2,
      λ z xs p a here. tag-faulty c.args.levels c.requires a Unit (with_left c.pull.new.decoder z) (t.3 z)
          c.in-Some.ensures c.in_ok-next.ensures.measured
          (sym (c.find_head_fault.ensures ∙ ap (head_fault g.S.Rules.spelling c.in_ok-next.next) c.head_len.ensures)
          ∙ c.in-Some-find_head_fault.is) c.offset-at.ensures,
      t.4,
    )

-- the head of the string over which the tag folds is accepted, and its bytes are read
folding : (g : Over) (c : In_default-find_head_fault g) → head_fault g.S.Rules.spelling c.in_ok-next.next
    c.pull.new.decoder.head_len ≡ None
folding g c = sym (c.find_head_fault.ensures ∙ ap (head_fault g.S.Rules.spelling c.in_ok-next.next) c.head_len.ensures)
    ∙ c.in_default-find_head_fault.is

pub returns-in_err-value-clause-part : goal.returns-in_err-value-clause-part
returns-in_err-value-clause-part g c =
    let t = so-both g.A.Access.remaining c.args.decoder.now c.pull.new.decoder c.read_bignum.new.decoder
    (λ d e. PullsSo {E = Unit} Some d e (Ok c.in_ok-next.next))
    (λ d e. BignumSo {E = Unit} g.S.Rules.spelling Some d e c.args.tag c.in-Some.n c.args.offset
    (Err c.in_err-value.field-0.0)) c.in_ok-next.ensures.head c.in_err-value.ensures.bignum in
    rw (passed_on c.from_residual-in_err-value.result _ c.from_residual-in_err-value.ensures.1) (
      t.0,
      t.1,
      t.2,
      λ z xs p a here. let m = t.3 z in
          bignum-refused c.args.levels c.requires a Unit (with_left c.pull.new.decoder m.0) m.1 c.in-Some.ensures
          c.in_ok-next.ensures.measured
          (folding g (goal.at.returns-in_err-value-clause-part g c).In_default-find_head_fault)
          (with_left c.read_bignum.new.decoder z) c.in_err-value.field-0.0 here m.2,
      t.4,
    )

pub returns-in-Some-clause-part : goal.returns-in-Some-clause-part
returns-in-Some-clause-part g c =
    let t = so-both g.A.Access.remaining c.args.decoder.now c.pull.new.decoder c.read_bignum.new.decoder
    (λ d e. PullsSo {E = Unit} Some d e (Ok c.in_ok-next.next))
    (λ d e. BignumSo {E = Unit} g.S.Rules.spelling Some d e c.args.tag c.in-Some.n c.args.offset
    (Ok c.in_ok-value.value)) c.in_ok-next.ensures.head c.in_ok-value.ensures.bignum in (
      t.0,
      t.1,
      t.2,
      λ z xs p a here. let m = t.3 z in
          got-bignum c.args.levels c.requires a Unit (with_left c.pull.new.decoder m.0) m.1 c.in-Some.ensures
          c.in_ok-next.ensures.measured (folding g (goal.at.returns-in-Some-clause-part g c).In_default-find_head_fault)
          (with_left c.read_bignum.new.decoder z) c.args.offset c.in_ok-value.value c.read_bignum.ensures.pushed m.2,
      t.4,
    )

pub returns-then-levels-eq0-clause-part : goal.returns-then-levels-eq0-clause-part
returns-then-levels-eq0-clause-part g c =
    let t = c.in_ok-next.ensures.head in (
      t.0,
      t.1,
      t.2,
      λ z xs p a here. tag-no-level c.args.levels c.requires a Unit (with_left c.pull.new.decoder z) (t.3 z)
          (subst (λ o. IsFolding c.args.tag c.in_ok-next.next o) c.in_default.is c.find_folding.ensures)
          c.if-levels-eq0.true,
      t.4,
    )

pub returns-clause-part : goal.returns-clause-part
returns-clause-part g c =
    let t = so-both g.A.Access.remaining c.args.decoder.now c.pull.new.decoder c.push.new.self
    (λ d e. PullsSo {E = Unit} Some d e (Ok c.in_ok-next.next)) (λ d e. ReadsNothing d e)
    c.in_ok-next.ensures.head (so-unread g.A.Access.remaining c.pull.new.decoder c.push.new.self
    (λ d e. ReadsNothing d e)
    c.push.ensures.unread (λ u. unread-with c.pull.new.decoder c.push.new.self u c.push.ensures.unread)) in (
      t.0,
      t.1,
      t.2,
      λ z xs p a here. let m = t.3 z in
          tag-begun c.args.levels c.requires a Unit (with_left c.pull.new.decoder m.0) m.1 (with_left c.push.new.self z)
          (subst (λ o. IsFolding c.args.tag c.in_ok-next.next o) c.in_default.is c.find_folding.ensures)
          c.if-levels-eq0.false c.offset-at.ensures m.2 c.push.ensures.pushed c.push.ensures.head_len
          c.in_ok-next.ensures.measured,
      t.4,
    )
