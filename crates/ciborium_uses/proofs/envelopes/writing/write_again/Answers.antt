use Rattle.std.proofs.Common.{◌∙◌}
use Rattle.ciborium_uses.proofs.{Exits.answered_by, WholeMessages.{alike-shortest, one-envelope, spelled-is-read}}
use Rattle.ciborium_uses.proofs.envelopes.writing.write_again.Goals as goal

pub returns-clause-again : goal.returns-clause-again
returns-clause-again c =
    let w = c.in_ok-wrapping.wrapping in
    let e = c.in_ok-wrapping.envelope in
    answered_by c.write_under.result c.write_under.ensures.item (λ again spells. record {
      wrapping = w;
      envelope = e;
      read = c.in_ok-wrapping.ensures.ok;
      same = spelled-is-read again.items w e c.in_ok-wrapping.ensures.whole spells;
    })

pub returns-clause-shortest : goal.returns-clause-shortest
returns-clause-shortest c =
    let w = c.in_ok-wrapping.wrapping in
    let e = c.in_ok-wrapping.envelope in
    answered_by c.write_under.result c.write_under.ensures.bytes (λ again is v f h.
    is ∙ alike-shortest w v e f (one-envelope c.args.bytes.now w v e f c.in_ok-wrapping.ensures.ok h))
