use Rattle.std.proofs.Common.{◌≡◌, None, refl, subst}
use Rattle.ciborium_ll.{proofs.Unread.pulls-head, specs.Decoding.IsAheadBy}
use Rattle.ciborium_ll.proofs.decoder.Decoder.pull_next_keeping.Goals as goal

pub returns-then-is_ok-clause-ahead : goal.returns-then-is_ok-clause-ahead
returns-then-is_ok-clause-ahead g c b p h =
    let none : c.args.self.now.pushed ≡ None = c.requires in
    let unread : IsAheadBy g.A.Access.remaining c.args.self.now b p None =
    subst (IsAheadBy g.A.Access.remaining c.args.self.now b p) none h in
    pulls-head _ _ _ _ b _ p _ unread refl c.read_head-pulled.ensures.head

pub returns-else-is_ok-clause-ahead : goal.returns-else-is_ok-clause-ahead
returns-else-is_ok-clause-ahead g c b p h =
    let none : c.args.self.now.pushed ≡ None = c.requires in
    let unread : IsAheadBy g.A.Access.remaining c.args.self.now b p None =
    subst (IsAheadBy g.A.Access.remaining c.args.self.now b p) none h in
    pulls-head _ _ _ _ b _ p _ unread refl c.read_head-pulled.ensures.head
