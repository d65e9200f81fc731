-- How an enum is read by the names of its variants.
use Rattle.std.specs.Prelude.{ℕ, true, List, [], ◌∷◌, bytes_eq}
use Rattle.ciborium_value.specs.{Readings.{Reading, spacious, unordered}, Given.{Given, chosen, give, refuse}}
use Rattle.ciborium_value.specs.{Given.{given_unit, given_variant, then_inside}, GivenParts.given_then}
use Rattle.ciborium_ll.specs.declared.kind.Kind.TheVariants as kinds

-- a variant: its name, and what is taken from its data
pub record Variant (C : Type 0) : Type 1 where
  pub name : List ℕ
  pub taken : Given C

-- what is taken from the data of the variant of this name, if it is one of these
abbrev pub given_data : {C : Type 0} → List (Variant C) → List ℕ → Given C
given_data [] name i = refuse kinds.Variant
given_data (v ∷ vs) name i = chosen (bytes_eq name v.name) (v.taken i) (given_data vs name i)

abbrev pub given_enum : {C : Type 0} → List (Variant C) → Given C
given_enum vs i = then_inside (λ p. true) (given_variant i) (λ p. given_data vs p.0 p.1)

-- ---- the words

-- a variant without data, which is null
abbrev pub unit_variant : {C : Type 0} → List ℕ → C → Variant C
unit_variant name c = record { name = name; taken = given_then given_unit (λ _. give c) }

-- a variant with data of another type
abbrev pub data_variant : {C U A : Type 0} → List ℕ → (A → C) → Reading U A → Variant C
data_variant name make r = record { name = name; taken = given_then r.taken (λ v. give (make v)) }

-- an enum of these variants; another name is refused as Variant
abbrev pub enum_of : {T C : Type 0} → (T → C) → List (Variant C) → Reading T C
enum_of content vs = spacious content unordered (given_enum vs)
