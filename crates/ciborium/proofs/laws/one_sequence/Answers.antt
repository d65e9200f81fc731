use Rattle.ciborium.proofs.Encodings.Sequences.{one_sequence}
use Rattle.ciborium.proofs.laws.one_sequence.Goals as goal

pub returns : goal.returns
returns c = one_sequence
