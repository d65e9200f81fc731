use Rattle.std.proofs.Common.{None, refl, subst}
use Rattle.ciborium_ll.{proofs.FirstHeads.{first-empty, pulls-first}, specs.Decoding.IsAheadBy}
use Rattle.ciborium_ll.proofs.decoder.Decoder.pull_first.Goals as goal

pub returns-in-Ok-Some-clause-empty : goal.returns-in-Ok-Some-clause-empty
returns-in-Ok-Some-clause-empty g c known = first-empty _ _ _ _ _ c.requires.room known
    c.read_first_head-pulled.ensures.head

pub returns-2-clause-empty : goal.returns-2-clause-empty
returns-2-clause-empty g c known = first-empty _ _ _ _ _ c.requires.room known c.read_first_head-pulled.ensures.head

pub returns-in-Ok-Some-clause-ahead : goal.returns-in-Ok-Some-clause-ahead
returns-in-Ok-Some-clause-ahead g c b p h =
    let unread : IsAheadBy g.A.Access.remaining c.args.self.now b p None =
    subst (IsAheadBy g.A.Access.remaining c.args.self.now b p) c.requires.unpushed h in
    pulls-first _ _ _ _ b _ p _ unread refl c.read_first_head-pulled.ensures.head c.read_first_head-pulled.ensures.end

pub returns-2-clause-ahead : goal.returns-2-clause-ahead
returns-2-clause-ahead g c b p h =
    let unread : IsAheadBy g.A.Access.remaining c.args.self.now b p None =
    subst (IsAheadBy g.A.Access.remaining c.args.self.now b p) c.requires.unpushed h in
    pulls-first _ _ _ _ b _ p _ unread refl c.read_first_head-pulled.ensures.head c.read_first_head-pulled.ensures.end
