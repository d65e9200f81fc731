use Rattle.std.proofs.Common.{map, string_bytes}
use Rattle.cbor.proofs.AskedWords.{asks-for-one}
use Rattle.cbor.proofs.run.run.Goals as goal

pub returns-in-Some-clause-done : goal.returns-in-Some-clause-done
returns-in-Some-clause-done g c command w asked f zero =
    let same = asks-for-one (map string_bytes c.args.words.now) c.in-Some.command command c.in-Some.ensures asked in
    rw (c.conclude.ensures.all.0 zero, same) at c.perform-done.ensures w f

pub returns-in-None-clause-right : goal.returns-in-None-clause-right
returns-in-None-clause-right g c command asked = absurd (c.in-None.ensures command asked)

pub returns-in-None-clause-done : goal.returns-in-None-clause-done
returns-in-None-clause-done g c command w asked f zero = absurd (c.in-None.ensures command asked)
