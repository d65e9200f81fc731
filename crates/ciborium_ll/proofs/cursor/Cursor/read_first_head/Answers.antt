-- The reader fails before the first head.
use Rattle.std.proofs.lemmas.Result.{err_from_is_err_and}
use Rattle.ciborium_ll.proofs.FirstHeads.{none-taken}
use Rattle.ciborium_ll.proofs.cursor.Cursor.read_first_head.Goals as goal

pub returns-in_err-holds_nothing-clause-head : goal.returns-in_err-holds_nothing-clause-head
returns-in_err-holds_nothing-clause-head g c =
    let exit = err_from_is_err_and c.from_residual.result c.from_residual.ensures.1 in
    none-taken _ _ _ c.from_residual.result _ c.in_err-holds_nothing.field-0.0 exit.1 exit.2
    c.in_err-holds_nothing.ensures.io c.requires c.in_err-holds_nothing.ensures.kept
