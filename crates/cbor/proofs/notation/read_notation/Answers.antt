use Rattle.std.proofs.Common.{rules}
use Rattle.cbor.proofs.EncodedLines.{told-no-tree}
use Rattle.cbor.proofs.notation.read_notation.Goals as goal

pub returns-in_ok-write_error-in-Err-from_notation_with_limit-clause-refused :
    goal.returns-in_ok-write_error-in-Err-from_notation_with_limit-clause-refused
returns-in_ok-write_error-in-Err-from_notation_with_limit-clause-refused c =
    told-no-tree c.args.limit c.args.line.now c.in-Ok.notation.now c.write_error.new.text.items
    c.in-Err-from_notation_with_limit.error (search rules) (search rules)
    c.in-Err-from_notation_with_limit.ensures.refused (search rules)
