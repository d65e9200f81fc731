use Rattle.std.proofs.Common.{◌^◌, ◌<◌, subst}
use Rattle.ciborium_value.proofs.Orders.TreeEncodings.{argument_of-Array, argument_of-Map}
use Rattle.ciborium_value.proofs.canonical.head_of.Goals as goal

pub returns-in-Array-clause-argument : goal.returns-in-Array-clause-argument
returns-in-Array-clause-argument c = argument_of-Array _ _ _ c.in-Array.is c.len-in-Array.ensures

pub returns-in-Array-clause-fits : goal.returns-in-Array-clause-fits
returns-in-Array-clause-fits c = subst (λ n. n < 2 ^ 64) (argument_of-Array _ _ _ c.in-Array.is c.len-in-Array.ensures)
    c.len-in-Array.type_inv

pub returns-in-Map-clause-argument : goal.returns-in-Map-clause-argument
returns-in-Map-clause-argument c = argument_of-Map _ _ _ c.in-Map.is c.len-in-Map.ensures

pub returns-in-Map-clause-fits : goal.returns-in-Map-clause-fits
returns-in-Map-clause-fits c = subst (λ n. n < 2 ^ 64) (argument_of-Map _ _ _ c.in-Map.is c.len-in-Map.ensures)
    c.len-in-Map.type_inv
