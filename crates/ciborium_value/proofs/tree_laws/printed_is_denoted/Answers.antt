use Rattle.ciborium_value.proofs.Denoting.OneTree.{one_tree_is_denoted}
use Rattle.ciborium_value.proofs.Denoting.Printed.{printed_alike_is_equal, printed_is_denoted}
use Rattle.ciborium_value.proofs.tree_laws.printed_is_denoted.Goals as goal

pub returns : goal.returns
returns c = record {
  denoted = printed_is_denoted;
  one = one_tree_is_denoted;
  alike = printed_alike_is_equal;
}
