use Rattle.std.proofs.Common.{rules}
use Rattle.ciborium_value.proofs.Denoting.Texts.{low_character, low_none, low_not}
use Rattle.ciborium_value.proofs.from_notation.texts.read_low_unit.Goals as goal

pub returns-in_default-clause-character : goal.returns-in_default-clause-character
returns-in_default-clause-character c = low_none c.args.high c.args.text.now (search rules)

pub returns-then-not-is_low-clause-character : goal.returns-then-not-is_low-clause-character
returns-then-not-is_low-clause-character c =
    low_not c.args.high c.args.text.now c.in-Some.behind.now c.in-Some.low (search rules) (search rules)

pub returns-in-Some-from_u32-clause-character : goal.returns-in-Some-from_u32-clause-character
returns-in-Some-from_u32-clause-character c =
    low_character c.args.high c.args.text.now c.in-Some.behind.now c.in-Some.low c.in-Some-from_u32.character
    (search rules) (search rules) (search rules)
