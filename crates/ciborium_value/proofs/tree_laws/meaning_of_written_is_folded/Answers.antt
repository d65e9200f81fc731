use Rattle.ciborium_value.proofs.FoldedTrees.{Folding.folds_once, Nests.meaning_nests}
use Rattle.ciborium_value.proofs.Writing.Written.{encoding_is_good}
use Rattle.ciborium_value.proofs.tree_laws.meaning_of_written_is_folded.Goals as goal

pub returns : goal.returns
returns c = record { nests = meaning_nests; once = folds_once; read_back = encoding_is_good }
