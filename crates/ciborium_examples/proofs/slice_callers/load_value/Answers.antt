use Rattle.ciborium.specs.View.{tree_of}
use Rattle.ciborium_examples.proofs.MemoryAlone.{whatever_stands}
use Rattle.ciborium_examples.proofs.slice_callers.load_value.Goals as goal

pub returns-clause-refused : goal.returns-clause-refused
returns-clause-refused c = whatever_stands tree_of c.from_slice.result c.from_slice.ensures.whole
