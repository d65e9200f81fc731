use Rattle.std.{proofs.Common.{rules, subst}, specs.Io.BufRead.FillKeeps}
use Rattle.ciborium_ll.proofs.HeldBytes.{consumed}
use Rattle.ciborium_ll.proofs.access.BufferedAccess.take_head.Goals as goal

pub returns-clause-some : goal.returns-clause-some
returns-clause-some g c =
    let rested = c.fill_buf.follows.lender-at-none in
    let kept = subst (FillKeeps _ (g.R.Read.remaining rested) (g.R.BufRead.consumable_len rested)) c.in-Ok.is
    c.fill_buf.follows.holds-at-none in
    record {
      taken = consumed _ _ _ _ c.in-Ok.held.now c.in_ok-head-in-Ok.size _ c.in_ok-head-in-Ok.ensures.within
          c.in_ok-head-in-Ok.ensures.bytes c.in-Ok.ensures.front kept (search rules) c.in_ok-head-in-Ok.ensures.head;
      ended = search rules;
    }
