use Rattle.std.proofs.Common.{refl, rules}
use Rattle.ciborium_value.proofs.Trees.Notations.{then, as_bytes}
use Rattle.ciborium_value.proofs.notation.write_end.Goals as goal

pub returns : goal.returns
returns g c = λ flush ok. as_bytes (search rules)
    (then (c.in_ok-write_line_break.ensures flush refl) (λ f. c.write_str-2.ensures.styled f ok))
