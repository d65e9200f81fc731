use Rattle.std.proofs.Common.{rules}
use Rattle.ciborium_value.proofs.{Denoting.BegunLevels.some_open, Denoting.Steps.ends}
use Rattle.ciborium_value.proofs.from_notation.levels.Levels.end.Goals as goal

pub returns-in-Some-clause-refused : goal.returns-in-Some-clause-refused
returns-in-Some-clause-refused c = λ l t v none h. some_open c.args.self.now.levels.items
    (search rules) (ends l _ _ t v none h)
