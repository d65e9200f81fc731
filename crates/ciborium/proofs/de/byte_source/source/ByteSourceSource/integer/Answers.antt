use Rattle.ciborium.proofs.{Containers.ByteItems.{takes-denied, takes-given}, Exits.passed_on, Items.TakenOnly.is-kept}
use Rattle.ciborium.proofs.de.byte_source.source.ByteSourceSource.integer.Goals as goal

pub returns-clause-takes : goal.returns-clause-takes
returns-clause-takes g c =
    let read = c.in_ok-number.ensures in
    takes-given _ _ (is-kept read.keeps.kept) read.keeps.kept.levels read.keeps.kept.pending read.keeps.fewer
    read.answer

pub returns-in_err-number-clause-takes : goal.returns-in_err-number-clause-takes
returns-in_err-number-clause-takes g c =
    let read = c.in_err-number.ensures in
    rw (passed_on c.from_residual.result _ c.from_residual.ensures.1)
    (takes-denied _ _ read.keeps.kept.only read.keeps.kept.no_more read.answer)
