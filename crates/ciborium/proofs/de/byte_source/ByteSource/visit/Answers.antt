use Rattle.std.proofs.Common.{refl}
use Rattle.ciborium.proofs.Items.TakenOnly.{keeps-taken}
use Rattle.ciborium.proofs.de.byte_source.ByteSource.visit.Goals as goal

pub returns-in_err-value-in-Some-clause-keeps : goal.returns-in_err-value-in-Some-clause-keeps
returns-in_err-value-in-Some-clause-keeps g c = keeps-taken g.A.Access.remaining c.args.self.now _ _
    c.visit_keeping.ensures.same_reader c.visit_keeping.ensures.taken refl c.requires

pub returns-in_ok-value-in-Some-clause-keeps : goal.returns-in_ok-value-in-Some-clause-keeps
returns-in_ok-value-in-Some-clause-keeps g c = keeps-taken g.A.Access.remaining c.args.self.now _ _
    c.visit_keeping.ensures.same_reader c.visit_keeping.ensures.taken refl c.requires

pub returns-in-None-clause-keeps : goal.returns-in-None-clause-keeps
returns-in-None-clause-keeps g c = keeps-taken g.A.Access.remaining c.args.self.now _ _
    c.visit_keeping.ensures.same_reader c.visit_keeping.ensures.taken refl c.requires
