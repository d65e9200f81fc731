use Rattle.ciborium_value.proofs.Denoting.BegunLevels.{level_ended, misplaced_behind, more_due}
use Rattle.ciborium_value.proofs.from_notation.levels.Levels.take_behind.Goals as goal

pub returns-in_ok-push-in-More-clause-taken : goal.returns-in_ok-push-in-More-clause-taken
returns-in_ok-push-in-More-clause-taken c = more_due c.args.self.now.limit c.args.self.now.levels.items
    c.pop.new.self.items c.push.new.self.items c.in-Some.level c.in-More.level _ _ c.in-Some.ensures.items
    c.in_ok-push-in-More.ensures.items (rw c.in-More.is at c.in-Ok.ensures)

pub returns-in-End-clause-taken : goal.returns-in-End-clause-taken
returns-in-End-clause-taken c = level_ended c.args.self.now.limit c.args.self.now.levels.items
    c.pop.new.self.items c.in-Some.level c.in-End.value _ _ c.in-Some.ensures.items
    (rw c.in-End.is at c.in-Ok.ensures)

pub returns-in-Err-clause-taken : goal.returns-in-Err-clause-taken
returns-in-Err-clause-taken c = misplaced_behind c.args.self.now.limit c.args.self.now.levels.items
    c.pop.new.self.items c.in-Some.level _ _ _ c.in-Some.ensures.items c.in-Err.ensures
