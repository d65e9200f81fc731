use Rattle.std.proofs.Common.{map, string_bytes}
use Rattle.cbor.proofs.AskedWords.{shows-none}
use Rattle.cbor.proofs.words.judge_showing.Goals as goal

pub returns : goal.returns
returns c = shows-none (map string_bytes c.args.words.now) c.in_default.ensures c.in_default-limit_behind.ensures
    c.in_default-limit_behind-2.ensures c.in_default-limit_behind-3.ensures c.in_default-limit_behind-4.ensures
    c.in_default-limit_behind-5.ensures c.in_default-limit_behind-6.ensures
