use Rattle.std.proofs.Common.{rules}
use Rattle.ciborium_value.proofs.Trees.Stacked.{last-two}
use Rattle.ciborium_value.proofs.stack.last_keys.Goals as goal

pub returns-in-len2-up : goal.returns-in-len2-up
returns-in-len2-up c = last-two c.args.pairs.now _ _ (search rules)
