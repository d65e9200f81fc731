use Rattle.std.{proofs.Common.{ℕ, List, rules, subst}, specs.Io.KnownBytes.Consumes}
use Rattle.ciborium.specs.ReaderSteps.{IsHeadTaken}
use Rattle.ciborium_ll.proofs.Decoders.{first-taken}
use Rattle.ciborium_examples.proofs.head_callers.first_head_by.Goals as goal

pub returns : goal.returns
returns g c =
    let remaining = g.A.Access.remaining in
    subst (λ r. (b : List ℕ) × Consumes (remaining c.args.reader.now) (remaining r) b × IsHeadTaken b 0 c.pull.result)
    {x = c.pull.new.self.reader.now} (search rules)
    (first-taken remaining c.begin-decoder.result c.pull.new.self _ _ _ c.begin-decoder.ensures.begins
    c.pull.ensures.taken)
