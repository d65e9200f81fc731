-- A refusal of deterministic reading stands for itself.
use Rattle.std.proofs.Common.{refl, rules}
use Rattle.ciborium.specs.LoadedAnswers.{RefusesSpelling}
use Rattle.ciborium.proofs.de.loading.refuse_other.Goals as goal

pub returns-in-Err-Semantic-Some-default : goal.returns-in-Err-Semantic-Some-default
returns-in-Err-Semantic-Some-default c =
    RefusesSpelling.spelled c.in-Err-Semantic-Some-default.offset c.in-Err-Semantic-Some-default.kind
    (search (rules, c.read_in_order-answer.ensures.refused c.args.bytes.now refl))

pub returns : goal.returns
returns c = RefusesSpelling.differs
