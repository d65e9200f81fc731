use Rattle.std.proofs.Common.{subst}
use Rattle.ciborium_value.specs.Sources.{of_kind}
use Rattle.ciborium.proofs.{Exits.passed_on, Items.TakenOnly.{keeps-then, same-end}, Payloads.OpenNumbers.bignum-reads}
use Rattle.ciborium.proofs.Payloads.OpenNumbers.{bignum-large, bignum-content, bignum-no-head, bignum-break}
use Rattle.ciborium.{proofs.Payloads.OpenNumbers.bignum-other, specs.inner.ByteSources.{IsUnread, end_at, fault_at}}
use Rattle.ciborium.specs.inner.{FrontItems.TakesHead, StringContents.TakesNumber}
use Rattle.ciborium_ll.specs.declared.kind.Kind.TheVariants as kinds
use Rattle.ciborium.proofs.de.byte_source.ByteSource.read_bignum.Goals as goal

pub returns-in_err-header-clause-answer : goal.returns-in_err-header-clause-answer
returns-in_err-header-clause-answer g c =
    rw (passed_on c.from_residual.result _ c.from_residual.ensures.1)
    (bignum-no-head (IsUnread g.A.Access.remaining) (end_at g.A.Access.remaining) c.args.self.now
    c.next_head.new.self (fault_at g.A.Access.can_fail g.A.Access.remaining c.next_head.new.self
    c.in_err-header.field-0.0)
    c.in_err-header.ensures.denied)

pub returns-in_err-number-in-Bytes-clause-answer : goal.returns-in_err-number-in-Bytes-clause-answer
returns-in_err-number-in-Bytes-clause-answer g c =
    rw (passed_on c.from_residual-in_err-number-in-Bytes.result _ c.from_residual-in_err-number-in-Bytes.ensures.1)
    (bignum-content (IsUnread g.A.Access.remaining) (end_at g.A.Access.remaining) c.args.self.now
    c.next_head.new.self c.in-Bytes.len (fault_at g.A.Access.can_fail g.A.Access.remaining c.read_number.new.self
    c.in_err-number-in-Bytes.field-0.0)
    (same-end g.A.Access.remaining c.args.self.now c.next_head.new.self c.in_ok-header.ensures.keeps.only)
    (subst (TakesHead (IsUnread g.A.Access.remaining) c.args.self.now c.next_head.new.self) c.in-Bytes.is
    c.in_ok-header.ensures.head) c.in_err-number-in-Bytes.ensures.denied)

pub returns-in-Some-clause-answer : goal.returns-in-Some-clause-answer
returns-in-Some-clause-answer g c =
    let U = IsUnread g.A.Access.remaining in
    bignum-reads U (end_at g.A.Access.remaining) c.args.self.now c.next_head.new.self c.read_number.new.self
    c.in-Bytes.len c.in-Some.n (subst (TakesHead U c.args.self.now c.next_head.new.self) c.in-Bytes.is
    c.in_ok-header.ensures.head)
    (subst (TakesNumber (U c.next_head.new.self) (U c.read_number.new.self) c.in-Bytes.len) c.in-Some.is
    c.in_ok-number-in-Bytes.ensures.ok)

pub returns-in-None-clause-answer : goal.returns-in-None-clause-answer
returns-in-None-clause-answer g c =
    let U = IsUnread g.A.Access.remaining in
    bignum-large U (end_at g.A.Access.remaining) c.args.self.now c.next_head.new.self (U c.read_number.new.self)
    c.in-Bytes.len (subst (TakesHead U c.args.self.now c.next_head.new.self) c.in-Bytes.is
    c.in_ok-header.ensures.head)
    (subst (TakesNumber (U c.next_head.new.self) (U c.read_number.new.self) c.in-Bytes.len) c.in-None.is
    c.in_ok-number-in-Bytes.ensures.ok)

pub returns-in-Break-clause-answer : goal.returns-in-Break-clause-answer
returns-in-Break-clause-answer g c =
    let U = IsUnread g.A.Access.remaining in
    bignum-break U (end_at g.A.Access.remaining) c.args.self.now c.next_head.new.self (of_kind kinds.Break)
    (subst (TakesHead U c.args.self.now c.next_head.new.self) c.in-Break.is c.in_ok-header.ensures.head)

pub returns-in_default-clause-answer : goal.returns-in_default-clause-answer
returns-in_default-clause-answer g c =
    bignum-other (IsUnread g.A.Access.remaining) (end_at g.A.Access.remaining) c.args.self.now c.next_head.new.self
    c.in_ok-header.header c.in_ok-header.ensures.head c.in_default.not-Bytes

pub returns-in_err-number-in-Bytes-clause-keeps : goal.returns-in_err-number-in-Bytes-clause-keeps
returns-in_err-number-in-Bytes-clause-keeps g c = keeps-then c.next_head.ensures.keeps c.read_number.ensures.keeps

pub returns-in-Some-clause-keeps : goal.returns-in-Some-clause-keeps
returns-in-Some-clause-keeps g c = keeps-then c.next_head.ensures.keeps c.read_number.ensures.keeps

pub returns-in-None-clause-keeps : goal.returns-in-None-clause-keeps
returns-in-None-clause-keeps g c = keeps-then c.next_head.ensures.keeps c.read_number.ensures.keeps
