-- How a struct is read from a map by the labels of its fields.
use Rattle.std.specs.{Option.{is_some, unwrap_or}, Prelude.{Bool, false, List, [], ◌∷◌, Option, Some, None, Result, Ok}}
use Rattle.std.specs.Prelude.{Err, ◌&&◌, if◌then◌else◌}
use Rattle.ciborium_ll.specs.{Item.Item, declared.kind.Kind.Kind}
use Rattle.ciborium_value.specs.Given.{Steps, Given, chosen, decided, give, mapped, refuse, given_skip, then_read}
use Rattle.ciborium_value.specs.{GivenParts.{after_pairs, given_then}, Labels.{Label, is_label, given_label}}
use Rattle.ciborium_value.specs.Readings.{Reading, option_of, spacious, unordered}
use Rattle.ciborium_value.specs.declared.wanted.FieldPlace.{FieldPlace, TheVariants.{First, Behind}}
use Rattle.ciborium_ll.specs.declared.kind.Kind.TheVariants as kinds

-- ---- fields by their labels

-- what a field takes of what stands under this label, onto what was read so far
abbrev pub FieldsGiven : Type 0 → Type 1
FieldsGiven C = Label → C → Given C

-- no field: whatever stands there is passed over
abbrev pub no_field_given : {C : Type 0} → FieldsGiven C
no_field_given name c i = mapped (λ _. c) (given_skip i)

-- no field, and no other name: whatever stands there is refused
abbrev pub no_other_given : {C : Type 0} → FieldsGiven C
no_other_given name c i = refuse kinds.UnknownField

-- the field of this label, which is read anew each time, or refused where each occurs but once; or
-- else those behind it
abbrev pub field_given : {A C : Type 0} → Bool → Label → Given A → FieldsGiven C → FieldsGiven (Option A × C)
field_given once wanted taken behind name c i = chosen (is_label name wanted)
    (chosen (once && is_some c.0) (refuse kinds.DuplicateKey) (mapped (λ v. (Some v, c.1)) (taken i)))
    (mapped (λ d. (c.0, d)) (behind name c.1 i))

-- the place of a label: that of this field, or its place among those behind it
abbrev pub field_place : {P : Type 0} → Label → (Label → P) → Label → FieldPlace P
field_place wanted behind name = if is_label name wanted then First else Behind (behind name)

-- ---- a map of them

-- a label and the value under it
abbrev pub take_named : {C : Type 0} → FieldsGiven C → C → Item × Item → Steps C
take_named fields c p = then_read (given_label p.0) (λ name. fields name c p.1)

-- the pairs in turn
abbrev pub take_fields : {C : Type 0} → FieldsGiven C → C → List (Item × Item) → Steps C
take_fields fields c [] = give c
take_fields fields c (p ∷ ps) = then_read (take_named fields c p) (λ d. take_fields fields d ps)

abbrev pub given_fields : {C : Type 0} → FieldsGiven C → C → Given C
given_fields fields c = after_pairs (take_fields fields c)

-- ---- the words

-- fields that are read onto a C, of which a D is made
pub record Fields (C D : Type 0) : Type 1 where
  pub read : FieldsGiven C
  pub start : C
  -- each occurs but once
  pub once : Bool
  -- what a struct is of which this was read, or why it is none
  pub complete : C → Result D Kind

-- what was read of a field, and what is made of those behind it
abbrev pub required : {A D : Type 0} → Option A → Result D Kind → Result (A × D) Kind
required None r = Err kinds.Other
required (Some v) (Ok d) = Ok (v, d)
required (Some v) (Err k) = Err k

-- the end of the fields
abbrev pub end_of_fields : Bool → FieldsGiven (Unit {0}) → Fields (Unit {0}) (Unit {0})
end_of_fields once others = record {
  read = others;
  start = tt;
  once = once;
  complete = λ c. Ok c;
}

-- no field more: of a repeated name the last one counts, and other names are passed over
abbrev pub no_field : Fields (Unit {0}) (Unit {0})
no_field = end_of_fields false no_field_given

-- a field of this label, what was read of which is filled up so, and those behind it
abbrev pub field_filled : {T A C D : Type 0} → Label → Reading T A → (Option A → Option A) →
    Fields C D → Fields (Option A × C) (A × D)
field_filled name r fill behind = record {
  read = field_given behind.once name r.taken behind.read;
  start = (None, behind.start);
  once = behind.once;
  complete = λ c. required (fill c.0) (behind.complete c.1);
}

-- where it is missing the struct is refused as Other
abbrev pub field : {T A C D : Type 0} → Label → Reading T A → Fields C D → Fields (Option A × C) (A × D)
field name r behind = field_filled name r (λ o. o) behind

-- where it is missing it is this
abbrev pub field_or : {T A C D : Type 0} → Label → Reading T A → A → Fields C D → Fields (Option A × C) (A × D)
field_or name r default behind = field_filled name r (λ o. Some (unwrap_or o default)) behind

-- where it is missing, or null, it is nothing
abbrev pub optional_field : {T A C D : Type 0} → Label → Reading T A → Fields C D →
    Fields (Option (Option A) × C) (Option A × D)
optional_field name r behind = field_or name (option_of r) None behind

-- what is made of a map of these fields
abbrev pub given_struct : {C D : Type 0} → Fields C D → Given D
given_struct fields = given_then (given_fields fields.read fields.start) (λ c. decided (fields.complete c))

-- a struct of these fields, by the labels in a map
abbrev pub struct_of : {T C D : Type 0} → (T → D) → Fields C D → Reading T D
struct_of content fields = spacious content unordered (given_struct fields)
