use Rattle.std.proofs.Common.{Some, ap, false, true}
use Rattle.ciborium_ll.specs.Item.{simple}
use Rattle.ciborium_value.specs.Given.{boolean_of, given_boolean}
use Rattle.ciborium.proofs.Containers.ByteItems.{bare-refused, head-refused, other-refuses, whole-given}
use Rattle.ciborium.proofs.{Exits.passed_on, Items.BareScalars.{boolean-gives, boolean-none, boolean-other}}
use Rattle.ciborium_ll.specs.declared.header.Header.TheVariants as header
use Rattle.ciborium.proofs.de.byte_source.source.ByteSourceSource.boolean.Goals as goal

pub returns-in_err-header-clause-takes : goal.returns-in_err-header-clause-takes
returns-in_err-header-clause-takes g c =
    rw (passed_on c.from_residual.result _ c.from_residual.ensures.1)
    (head-refused c.in_err-header.ensures.reads c.in_err-header.ensures.denied)

pub returns-then-number-eq-FALSE-clause-takes : goal.returns-then-number-eq-FALSE-clause-takes
returns-then-number-eq-FALSE-clause-takes g c =
    let n = c.in-Simple.number in
    whole-given c.in_ok-header.ensures.reads c.in_ok-header.ensures.head (header.Simple n) c.in-Simple.is (simple n)
    (λ x hd. hd) (boolean-gives (Some c.args.self.now.levels) n false (ap boolean_of c.if-number-eq-FALSE.true))

pub returns-then-number-eq-TRUE-clause-takes : goal.returns-then-number-eq-TRUE-clause-takes
returns-then-number-eq-TRUE-clause-takes g c =
    let n = c.in-Simple.number in
    whole-given c.in_ok-header.ensures.reads c.in_ok-header.ensures.head (header.Simple n) c.in-Simple.is (simple n)
    (λ x hd. hd) (boolean-gives (Some c.args.self.now.levels) n true (ap boolean_of c.if-number-eq-TRUE.true))

pub returns-else-number-eq-TRUE-clause-takes : goal.returns-else-number-eq-TRUE-clause-takes
returns-else-number-eq-TRUE-clause-takes g c =
    let h = c.in_ok-header.header in
    bare-refused c.in_ok-header.ensures.reads
    (other-refuses given_boolean c.in_ok-header.ensures.reads c.in_ok-header.ensures.head
    (boolean-other (Some c.args.self.now.levels) h c.in_ok-header.ensures.reads.bare
    (boolean-none h c.in-Simple.number c.in-Simple.is c.if-number-eq-FALSE.false c.if-number-eq-TRUE.false)))

pub returns-in_default-clause-takes : goal.returns-in_default-clause-takes
returns-in_default-clause-takes g c = bare-refused c.in_ok-header.ensures.reads
    (other-refuses given_boolean c.in_ok-header.ensures.reads c.in_ok-header.ensures.head
    (boolean-other (Some c.args.self.now.levels) c.in_ok-header.header c.in_ok-header.ensures.reads.bare
    (λ n e. absurd (c.in_default.not-Simple n e))))
