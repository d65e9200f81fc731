use Rattle.std.proofs.Common.{map, string_bytes}
use Rattle.cbor.proofs.AskedWords.{judged}
use Rattle.cbor.proofs.words.judge_words.Goals as goal

pub returns : goal.returns
returns c =
    judged (map string_bytes c.args.words.now) c.judge_with_limit.result c.in_default.ensures c.judge_with_limit.ensures
