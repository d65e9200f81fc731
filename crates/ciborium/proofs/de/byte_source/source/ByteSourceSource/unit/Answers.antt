use Rattle.std.proofs.Common.{Some, sym, ◌∙◌}
use Rattle.ciborium_ll.specs.Item.{simple}
use Rattle.ciborium_value.specs.Given.{given_unit}
use Rattle.ciborium.proofs.Containers.ByteItems.{bare-refused, head-refused, other-refuses, whole-given}
use Rattle.ciborium.proofs.{Exits.passed_on, Items.BareScalars.{unit-gives, unit-none, unit-other}}
use Rattle.ciborium_ll.specs.declared.header.Header.TheVariants as header
use Rattle.ciborium.proofs.de.byte_source.source.ByteSourceSource.unit.Goals as goal

pub returns-in_err-header-clause-takes : goal.returns-in_err-header-clause-takes
returns-in_err-header-clause-takes g c =
    rw (passed_on c.from_residual.result _ c.from_residual.ensures.1)
    (head-refused c.in_err-header.ensures.reads c.in_err-header.ensures.denied)

pub returns-then-is_null-clause-takes : goal.returns-then-is_null-clause-takes
returns-then-is_null-clause-takes g c =
    let n = c.in-Simple.number in
    whole-given c.in_ok-header.ensures.reads c.in_ok-header.ensures.head (header.Simple n) c.in-Simple.is (simple n)
    (λ x hd. hd) (unit-gives (Some c.args.self.now.levels) n (sym c.is_null.ensures ∙ c.if-is_null.true))

pub returns-else-is_null-clause-takes : goal.returns-else-is_null-clause-takes
returns-else-is_null-clause-takes g c =
    let h = c.in_ok-header.header in
    bare-refused c.in_ok-header.ensures.reads
    (other-refuses given_unit c.in_ok-header.ensures.reads c.in_ok-header.ensures.head
    (unit-other (Some c.args.self.now.levels) h c.in_ok-header.ensures.reads.bare
    (unit-none h c.in-Simple.number c.in-Simple.is (sym c.is_null.ensures ∙ c.if-is_null.false))))

pub returns-in_default-clause-takes : goal.returns-in_default-clause-takes
returns-in_default-clause-takes g c = bare-refused c.in_ok-header.ensures.reads
    (other-refuses given_unit c.in_ok-header.ensures.reads c.in_ok-header.ensures.head
    (unit-other (Some c.args.self.now.levels) c.in_ok-header.header c.in_ok-header.ensures.reads.bare
    (λ n e. absurd (c.in_default.not-Simple n e))))
