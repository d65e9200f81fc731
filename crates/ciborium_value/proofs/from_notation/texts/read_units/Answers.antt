use Rattle.std.proofs.Common.{rules}
use Rattle.ciborium_value.proofs.Denoting.Texts.{unit_alone, unit_character, unit_high, unit_none}
use Rattle.ciborium_value.proofs.from_notation.texts.read_units.Goals as goal

pub returns-in_default-clause-character : goal.returns-in_default-clause-character
returns-in_default-clause-character c = unit_none c.args.text.now (search rules)

pub returns-then-is_high-clause-character : goal.returns-then-is_high-clause-character
returns-then-is_high-clause-character c =
    let e = unit_high c.args.text.now c.in-Some.behind.now c.in-Some.unit (search rules) (search rules) in
    rw e c.read_low.ensures.character

pub returns-in-Some-from_u32-clause-character : goal.returns-in-Some-from_u32-clause-character
returns-in-Some-from_u32-clause-character c =
    unit_character c.args.text.now c.in-Some.behind.now c.in-Some.unit c.in-Some-from_u32.character
    (search rules) (search rules) (search rules) (search rules)

pub returns-in-None-clause-character : goal.returns-in-None-clause-character
returns-in-None-clause-character c = unit_alone c.args.text.now c.in-Some.behind.now c.in-Some.unit (search rules)
    (search rules) (search rules) (search rules)
