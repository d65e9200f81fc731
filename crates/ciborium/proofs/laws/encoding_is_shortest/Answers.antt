use Rattle.ciborium.proofs.Encodings.EncodingLaws.{one_tree, encoding_spells, others_are_longer, heads_rise}
use Rattle.ciborium.proofs.laws.encoding_is_shortest.Goals as goal

pub returns : goal.returns
returns c = record { one_tree = one_tree; spells = encoding_spells; others = others_are_longer; heads = heads_rise }
