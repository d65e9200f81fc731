use Rattle.std.proofs.Common.{refl}
use Rattle.ciborium_ll.specs.declared.strings.StringType.{StringType}
use Rattle.ciborium.proofs.{Exits.passed_on, Items.TakenOnly.keeps-taken, Payloads.SpelledStrings.content-denied}
use Rattle.ciborium.proofs.Payloads.StringPayloads.{content-taken, content-fewer}
use Rattle.ciborium.proofs.de.byte_source.ByteSource.bytes_content.Goals as goal

pub returns-in_err-bytes_into_keeping-clause-denied : goal.returns-in_err-bytes_into_keeping-clause-denied
returns-in_err-bytes_into_keeping-clause-denied g c =
    rw (passed_on c.from_residual.result _ c.from_residual.ensures.1)
    (content-denied g.A.Access.can_fail g.A.Access.remaining c.args.self.now.decoder
    c.bytes_into_keeping.new.self
    c.args.self.now.pending c.in_err-bytes_into_keeping.field-0.0 StringType.Bytes c.args.len c.requires
    c.in_err-bytes_into_keeping.ensures.refused c.in_err-bytes_into_keeping.ensures.ended)

pub returns-clause-ok : goal.returns-clause-ok
returns-clause-ok g c = content-taken Unit g.A.Access.remaining c.args.self.now.decoder c.bytes_into_keeping.new.self
    c.args.self.now.pending
    StringType.Bytes c.args.len c.new-out.result.items c.bytes_into_keeping.new.out.items c.requires
    c.new-out.ensures.items
    c.in_ok-bytes_into_keeping.ensures.taken

pub returns-clause-fewer : goal.returns-clause-fewer
returns-clause-fewer g c =
    content-fewer Unit g.A.Access.remaining c.args.self.now.decoder c.bytes_into_keeping.new.self StringType.Bytes
    c.args.len
    c.new-out.result.items c.bytes_into_keeping.new.out.items c.new-out.ensures.items
    c.in_ok-bytes_into_keeping.ensures.taken

pub returns-clause-keeps : goal.returns-clause-keeps
returns-clause-keeps g c = keeps-taken g.A.Access.remaining c.args.self.now _ _
    c.in_ok-bytes_into_keeping.ensures.same_reader c.in_ok-bytes_into_keeping.ensures.taken refl c.requires

pub returns-in_err-bytes_into_keeping-clause-keeps : goal.returns-in_err-bytes_into_keeping-clause-keeps
returns-in_err-bytes_into_keeping-clause-keeps g c = keeps-taken g.A.Access.remaining c.args.self.now _ _
    c.in_err-bytes_into_keeping.ensures.same_reader c.in_err-bytes_into_keeping.ensures.taken refl c.requires
