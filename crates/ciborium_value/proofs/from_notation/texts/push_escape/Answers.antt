use Rattle.std.proofs.Common.{encode_utf8, rules, ◌∙◌, ap}
use Rattle.ciborium_value.{proofs.Denoting.Texts.prepended_twice, specs.Tokens.{prepended, text_at}}
use Rattle.ciborium_value.proofs.from_notation.texts.push_escape.Goals as goal

pub returns-clause-character : goal.returns-clause-character
returns-clause-character c = λ whole e. e ∙ ap (prepended c.args.bytes.now.items) (search rules) ∙
    prepended_twice c.args.bytes.now.items (encode_utf8 c.in-Some.character) (text_at c.in-Some.behind.now) ∙
    ap (λ x. prepended x (text_at c.in-Some.behind.now)) (search rules)
