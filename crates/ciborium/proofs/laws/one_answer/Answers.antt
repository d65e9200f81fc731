use Rattle.ciborium.proofs.Encodings.OneAnswer.{one_answer}
use Rattle.ciborium.proofs.laws.one_answer.Goals as goal

pub returns : goal.returns
returns c = one_answer
