use Rattle.std.{proofs.{Common.{◌∙◌, ap}, Math.Facts.to_z-of_z}, specs.Fmt.signed_decimal}
use Rattle.ciborium_value.proofs.Trees.Notations.{as_bytes, digits_held}
use Rattle.ciborium_value.proofs.notation.write_integer.Goals as goal

pub returns : goal.returns
returns g c = λ flush ok.
    as_bytes (c.as_str.ensures.value ∙ (digits_held _ _ _ c.in_ok-write.ensures.writes c.new-digits.ensures.intact
    c.new-digits.ensures.text ∙ ap signed_decimal (to_z-of_z c.ranges.number))) (c.write_str.ensures.styled flush ok)
