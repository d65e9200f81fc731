use Rattle.std.proofs.lemmas.Result.{err_from_is_err_and}
use Rattle.ciborium.proofs.de.read_item.Goals as goal

pub returns-in_err-value-clause-item : goal.returns-in_err-value-clause-item
returns-in_err-value-clause-item g c =
    let exit = err_from_is_err_and c.from_residual.result c.from_residual.ensures.1 in
    rw (c.in-Some.is, exit.1, exit.2) c.in_err-value.ensures
