use Rattle.std.proofs.Common.{◌++◌, ◌∙◌, ap, codes, refl}
use Rattle.ciborium_value.proofs.Trees.Notations.{as_bytes, digits_held, then}
use Rattle.ciborium_value.proofs.notation.write_tag.Goals as goal

pub returns : goal.returns
returns g c = λ flush ok. as_bytes (ap (λ l. l ++ codes "(") (c.as_str.ensures.value ∙
    digits_held _ _ _ c.in_ok-write.ensures.writes c.new-digits.ensures.intact c.new-digits.ensures.text))
    (then (c.in_ok-write_str.ensures.styled flush refl) (λ f. c.write_str-2.ensures.styled f ok))
