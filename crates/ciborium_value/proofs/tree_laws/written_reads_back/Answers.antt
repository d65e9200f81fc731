use Rattle.ciborium_value.specs.lemmas.ItemsOfTrees.{tree_is_written_as_itself}
use Rattle.ciborium_value.proofs.Writing.ReadBack.{written_spells_item, written_tree_folds, written_tree_is_proper}
use Rattle.ciborium_value.proofs.tree_laws.written_reads_back.Goals as goal

pub returns : goal.returns
returns c = record {
  spells = written_spells_item;
  folds = written_tree_folds;
  itself = tree_is_written_as_itself;
  proper = written_tree_is_proper;
}
