use Rattle.std.proofs.Common.{Some, Ok, Err}
use Rattle.ciborium_ll.specs.{Decoding.with_left, Refusal.HeadRefuses}
use Rattle.ciborium.proofs.{Exits.passed_on, Readers.WhateverFollows.{so-map, head-pulled, PullsAll}}
use Rattle.ciborium.{proofs.Turns.{Fronts.PullsSo, Pulled.{refused-from, head-read, fewer-heads}}, specs.Errors.from_ll}
use Rattle.ciborium.proofs.de.front.pull.Goals as goal

pub returns-in_err-pull_keeping-clause-head : goal.returns-in_err-pull_keeping-clause-head
returns-in_err-pull_keeping-clause-head g c =
    rw (passed_on c.from_residual.result _ c.from_residual.ensures.1)
    (so-map g.A.Access.remaining c.args.decoder.now c.pull_keeping.new.self
    (λ d e. PullsAll {E = g.row.K-Kept.Denot} d e (Err c.in_err-pull_keeping.field-0.0))
    (λ d e. PullsSo {E = g.row.K-Kept.Denot} Some d e (Err (from_ll c.in_err-pull_keeping.field-0.0)))
    (λ u v h xs p s. refused-from (Some v) c.in_err-pull_keeping.field-0.0 (λ r. HeadRefuses xs p r) (h xs p s))
    (head-pulled g.row.K-Kept.Denot g.A.Access.remaining c.args.decoder.now c.pull_keeping.new.self
    (Err c.in_err-pull_keeping.field-0.0) c.in_err-pull_keeping.ensures.pushed c.in_err-pull_keeping.ensures.taken
    c.in_err-pull_keeping.ensures.last))

pub returns-clause-fewer : goal.returns-clause-fewer
returns-clause-fewer g c = fewer-heads g.row.K-Kept.Denot g.A.Access.remaining c.args.decoder.now
    c.pull_keeping.new.self
    c.in_ok-pull_keeping.field-0 c.pull_keeping.ensures.none_pushed c.in_ok-pull_keeping.ensures.pushed
    c.in_ok-pull_keeping.ensures.taken

pub returns-clause-head : goal.returns-clause-head
returns-clause-head g c = so-map g.A.Access.remaining c.args.decoder.now c.pull_keeping.new.self
    (λ d e. PullsAll {E = g.row.K-Kept.Denot} d e (Ok c.in_ok-pull_keeping.field-0))
    (λ d e. PullsSo {E = g.row.K-Kept.Denot} Some d e (Ok c.in_ok-pull_keeping.field-0))
    (λ u v h xs p s. head-read Some (with_left c.pull_keeping.new.self v) xs p c.in_ok-pull_keeping.field-0 (h xs p s))
    (head-pulled g.row.K-Kept.Denot g.A.Access.remaining c.args.decoder.now c.pull_keeping.new.self
    (Ok c.in_ok-pull_keeping.field-0) c.in_ok-pull_keeping.ensures.pushed c.in_ok-pull_keeping.ensures.taken
    c.in_ok-pull_keeping.ensures.last)
