-- A notice, of which a field is left out where it is false, is read back.
use Rattle.std.specs.Prelude.{[], ◌∷◌, Option, Bool, true, false, Ok, if◌then◌else◌, refl}
use Rattle.ciborium.specs.{Encoding.boolean_item, Labels.fields_of, OwnTypes.label, Readings.Reading}
use Rattle.ciborium.specs.{ReadsBack.{IsNameRead, Way}, Sinks.Named, StructReadings.{Fields, field, field_or}}
use Rattle.ciborium.specs.{StructReadings.{given_struct, no_field}, lemmas.ReadsBackParts.either_back}
use Rattle.ciborium.specs.lemmas.ReadsBackStructs.{field_back, field_or_back, fields_read_back, left_out_back}
use Rattle.ciborium.specs.lemmas.ReadsBackStructs.{no_field_back}

-- what is written of a title and a flag
abbrev pub notice_named : Named → Bool → Named
notice_named title urgent = if urgent
    then fields_of ((label "title", title) ∷ (label "urgent", Ok (boolean_item true)) ∷ [])
    else fields_of ((label "title", title) ∷ [])

module _ {T U A : Type 0} (title : Reading T A) (flag : Reading U Bool) where
  -- how they are read
  abbrev pub notice_fields : Fields (Option A × (Option Bool × Unit {0})) (A × (Bool × Unit {0}))
  notice_fields = field (label "title") title (field_or (label "urgent") flag false no_field)

  pub notice_back : {way : Way} {w : Named} {a : A} (urgent : Bool) →
      IsNameRead way w title.taken a 0 → IsNameRead way (Ok (boolean_item true)) flag.taken true 0 →
      IsNameRead way (notice_named w urgent) (given_struct notice_fields) (a, (urgent, tt)) 1
  notice_back {a = a} urgent h j = either_back (λ u. (a, (u, tt))) urgent
      (fields_read_back (field_back (label "title") title h
      (field_or_back (label "urgent") flag false j no_field_back)) refl)
      (fields_read_back (field_back (label "title") title h
      (left_out_back (label "urgent") flag false refl no_field_back)) refl)
