-- What is due is made, and compared.
use Rattle.std.proofs.Common.{rules}
use Rattle.ciborium.specs.LoadedAnswers.{RefusesOther}
use Rattle.ciborium.proofs.de.loading.compare.Goals as goal

pub returns-in-Err-Value-clause-refused : goal.returns-in-Err-Value-clause-refused
returns-in-Err-Value-clause-refused g c l = RefusesOther.no_form c.in-Err-Value.kind (search rules)

pub returns : goal.returns
returns g c = record { ok = tt; refused = λ l. RefusesOther.no_memory }
