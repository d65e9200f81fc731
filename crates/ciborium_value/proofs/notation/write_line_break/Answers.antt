use Rattle.std.proofs.Common.{refl, sym, ap}
use Rattle.ciborium_value.{proofs.Trees.Notations.{then, as_bytes}, specs.Notation.line_break}
use Rattle.ciborium_value.proofs.notation.write_line_break.Goals as goal

pub returns-in_ok-write_str-in-Some : goal.returns-in_ok-write_str-in-Some
returns-in_ok-write_str-in-Some g c = λ flush ok. as_bytes (sym (ap line_break c.in-Some.is))
    (then (c.in_ok-write_str-in-Some.ensures.styled flush refl) (λ f. c.write_repeated.ensures.styled f ok))
