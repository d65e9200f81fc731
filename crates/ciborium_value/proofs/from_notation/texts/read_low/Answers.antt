use Rattle.std.proofs.Common.{arith}
use Rattle.std.proofs.lemmas.Grind.{common_steps}
use Rattle.std.proofs.Common.{rules, ◌-◌, drop, length, take}
use Rattle.ciborium_value.proofs.Denoting.Texts.{low_behind, whole_rest}
use Rattle.ciborium_value.proofs.from_notation.texts.read_low.Goals as goal

pub returns-in-92-clause-character : goal.returns-in-92-clause-character
returns-in-92-clause-character c =
    let e = low_behind c.args.high c.args.text.now (take (length c.args.text.now - 2) (drop 2 c.args.text.now))
    (search rules) (search rules) (search rules) (whole_rest 2 c.args.text.now) in
    rw e c.read_low_unit.ensures.character

pub returns-in_default-clause-character : goal.returns-in_default-clause-character
returns-in_default-clause-character c = grind (arith, common_steps)
