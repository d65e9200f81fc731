use Rattle.std.proofs.{Common.arith, lemmas.Grind.common_steps}
use Rattle.std.proofs.Common.{rules, [], ◌-◌, drop, length, take}
use Rattle.ciborium_value.proofs.Denoting.Texts.{further, plain_all, plain_part}
use Rattle.ciborium_value.proofs.from_notation.texts.push_plain.Goals as goal

pub returns-in_default-clause-plain : goal.returns-in_default-clause-plain
returns-in_default-clause-plain c = λ whole e. further whole c.args.text.now [] c.args.text.now c.args.bytes.now.items
    c.extend_from_slice.new.self.items e (plain_all c.args.text.now (search rules)) (search rules)

pub returns-clause-plain : goal.returns-clause-plain
returns-clause-plain c = λ whole e. further whole c.args.text.now
    (take (length c.args.text.now - c.in-Some.end) (drop c.in-Some.end c.args.text.now))
    (take c.in-Some.end c.args.text.now) c.args.bytes.now.items c.extend_from_slice-2.new.self.items e
    (plain_part c.in-Some.end c.args.text.now (search rules)) (search rules)

pub returns-clause-special : goal.returns-clause-special
returns-clause-special c = grind (arith, common_steps)
