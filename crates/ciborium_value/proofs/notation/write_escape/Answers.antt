use Rattle.std.proofs.Common.{rules, refl}
use Rattle.ciborium_value.proofs.Trees.Notations.{then, as_bytes}
use Rattle.ciborium_value.proofs.notation.write_escape.Goals as goal

pub returns-in_default : goal.returns-in_default
returns-in_default g c = λ flush ok. as_bytes (search rules)
    (then (c.in_ok-write_str-in_default.ensures.styled flush refl) (λ f. c.write_digits.ensures f ok))
