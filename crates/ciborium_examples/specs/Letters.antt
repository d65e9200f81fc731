-- Letters, which are written as the names of their variants, are read back.
use Rattle.std.proofs.Common.{lit<}
use Rattle.std.specs.Prelude.{◌<◌, ◌^◌, List, [], ◌∷◌, Ok, codes, pos, refl}
use Rattle.ciborium.specs.{Labels.fields_of, OwnTypes.label, Readings.below, ReadsBack.{IsReadBack, Way}, Sinks.Named}
use Rattle.ciborium.specs.{Sinks.{named_text, number_item}, VariantReadings.{Variant, data_variant, given_enum}}
use Rattle.ciborium.specs.{VariantReadings.unit_variant, lemmas.ReadsBackNumbers.unsigned-back}
use Rattle.ciborium.specs.lemmas.ReadsBackVariants.{data_variant_back, unit_variant_back}
use Rattle.ciborium_examples.specs.declared.variant_types.Letter.{Letter, TheVariants.{A, B}}

-- what is written of a letter
abbrev pub letter_named : Letter → Named
letter_named A = named_text (codes "A")
letter_named (B n) = fields_of ((label "B", Ok (number_item (pos n))) ∷ [])

-- the letters by their names, as they are read
abbrev pub letters : List (Variant Letter)
letters = unit_variant (codes "A") A ∷ data_variant (codes "B") B (below 256) ∷ []

-- the number of a letter is one of a byte
abbrev pub IsLetterValid : Letter → Type 0
IsLetterValid A = Unit {0}
IsLetterValid (B n) = n < 2 ^ 8

pub letter_back : (way : Way) → IsReadBack way IsLetterValid letter_named (given_enum letters) (λ l. l) (λ l. 1)
letter_back way A valid = unit_variant_back letters (codes "A") (λ l. refl)
letter_back way (B n) valid = data_variant_back letters (codes "B") B (below 256) (λ l i. refl)
    (unsigned-back 8 (lit< tt) way n valid)
