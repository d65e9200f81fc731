-- The pair of the map at the index that the loop has come to.
use Rattle.std.proofs.Common.{rules}
use Rattle.ciborium_examples.proofs.callers.version.Goals as goal

pub returns-in-Some : goal.returns-in-Some
returns-in-Some c = (
  c.in_ok-as_map.field-0.now,
  search rules,
  (c.loop-key.key-index, c.loop-key-item.result, search rules, search rules, (search rules, search rules)),
)
