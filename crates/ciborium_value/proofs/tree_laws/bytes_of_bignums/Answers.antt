use Rattle.ciborium_value.specs.lemmas.ReadsBackBignums.{big_endian-shortest, without_zeros-shortest}
use Rattle.ciborium_value.proofs.FoldedTrees.NumberItems.{number_tree-item}
use Rattle.ciborium_value.proofs.tree_laws.bytes_of_bignums.Goals as goal

pub returns : goal.returns
returns c = record { number = big_endian-shortest; shortest = without_zeros-shortest; item = number_tree-item }
