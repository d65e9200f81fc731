-- What a type is, as data: what counts of its values, how they are read and written, and the laws
-- of that. The laws of types made of others follow from the descriptions of their parts.
use Rattle.std.specs.Prelude.{◌≡◌, ℕ, Bool, true, false, List, [], ◌∷◌, Option, Some, None, max, length, ◌&&◌}
use Rattle.std.specs.{Prelude.{if◌then◌else◌, bytes_eq}, Cmp.IsTotalOrder, declared.cmp.Ordering.Ordering}
use Rattle.ciborium_ll.specs.Item.{Item}
use Rattle.ciborium_value.specs.{Labels.{Label, label_item}, Nesting.Limit, NeverWritten.{Avoided, IsNever, nulls}}
use Rattle.ciborium_value.specs.{NeverWritten.byte_strings, Places.a_map, Progress.counted_of, Readings.ItemsGiven}
use Rattle.ciborium_value.specs.{Readings.Reading, ReadsBack.{IsNameRead, IsReadBack, Way}, Sinks.{Named, all_named}}
use Rattle.ciborium_value.specs.{Sinks.in_turn, StructReadings.Fields, Given.outcome, VariantReadings.Variant}
use Rattle.ciborium_value.specs.{VariantReadings.{given_data, given_enum}, WrittenContents.AreFieldsAlike}
use Rattle.ciborium_value.specs.{WrittenContents.IsWrittenByContent, lemmas.ReadsBackParts.ArePartsRead}
use Rattle.ciborium_value.specs.lemmas.ReadsBackStructs.{FieldsReadBack, are_apart, is_named}

-- what a type is
pub record Description (T : Type 0) : Type 1 where
  pub Content : Type 0
  pub reading : Reading T Content
  pub written : T → Named
  -- what a value in a program is, and how many levels reading what it names takes
  pub is_valid : T → Type 0
  pub levels : T → ℕ
  -- what it is never written as
  pub avoids : Avoided → Bool
  -- no two of its labels or names are equal, and what may be null is never null otherwise
  pub is_sound : Bool
  pub reads_back : is_sound ≡ true → (way : Way) → IsReadBack way is_valid written reading.taken reading.content levels
  pub writes_content : IsWrittenByContent written reading.content
  pub never : (a : Avoided) → avoids a ≡ true → (v : T) → IsNever a (written v)

-- the laws hold of it, and it is never null nor a byte string
abbrev pub is_lawful : {T : Type 0} → Description T → Bool
is_lawful d = d.is_sound && (d.avoids nulls && d.avoids byte_strings)

-- what a type writes and reads has the laws of this description
pub record IsDescribed {T C : Type 0} (d : Description T) (written : T → Named)
    (reading : Reading T C) : Type 0 where
  pub reads_back : (way : Way) → IsReadBack way d.is_valid written reading.taken reading.content d.levels
  pub writes_content : IsWrittenByContent written reading.content
  pub never : (a : Avoided) (v : T) → IsNever a (written v)

-- what a type is whose values are the keys of maps: they compare as their contents do
pub record KeyDescription (K : Type 0) : Type 1 where
  pub key : Description K
  pub compare : K → K → Ordering
  pub total : IsTotalOrder compare
  pub orders : (a b : K) → compare a b ≡ key.reading.order (key.reading.content a) (key.reading.content b)

-- ---- structs

-- the parts of a map, labels and values in turn
abbrev pub labeled_parts : List (Label × Named) → List Named
labeled_parts fs = in_turn label_item (λ r. r) fs

-- the definite map of these fields
abbrev pub labeled_map : List (Label × Named) → Named
labeled_map fs = counted_of a_map (length fs) (labeled_parts fs)

-- the fields of a type in a row
pub record FieldsDescription (T : Type 0) : Type 1 where
  pub Slots : Type 0
  pub Content : Type 0
  -- how they are read, and what counts of them
  pub fields : Fields Slots Content
  pub content : T → Content
  -- what is written of them, and how many
  pub named : T → List (Label × Named)
  pub parts : T → List Named
  pub number : T → ℕ
  pub is_valid : T → Type 0
  pub levels : T → ℕ
  -- a field has this label
  pub has : Label → Bool
  pub is_sound : Bool
  pub same_parts : (v : T) → labeled_parts (named v) ≡ parts v
  pub same_number : (v : T) → length (named v) ≡ number v
  pub unnamed : (x : Label) → has x ≡ false → (v : T) → is_named x (named v) ≡ false
  pub apart : is_sound ≡ true → (v : T) → are_apart (named v) ≡ true
  pub back : is_sound ≡ true → (way : Way) (v : T) → is_valid v →
      FieldsReadBack way fields (named v) (content v) (levels v)
  pub alike : (v w : T) → AreFieldsAlike (content v) (content w) (named v) (named w)

-- what is written of a field that is left out where there is nothing, before others
abbrev pub maybe_before : {V : Type 0} → Label → (V → Named) → Option V → List (Label × Named) → List (Label × Named)
maybe_before label written None fs = fs
maybe_before label written (Some v) fs = (label, written v) ∷ fs

-- the levels that it takes, before so many
abbrev pub maybe_levels : {V : Type 0} → (V → ℕ) → Option V → ℕ → ℕ
maybe_levels levels None m = m
maybe_levels levels (Some v) m = max (levels v) m

-- ---- arrays

-- the items of a type in a row
pub record ItemsDescription (T : Type 0) : Type 1 where
  pub Content : Type 0
  -- how they are read, and what counts of them
  pub items : ItemsGiven Content
  pub content : T → Content
  -- what is written of them, and how many, which is the same for all values
  pub parts : T → List Named
  pub number : ℕ
  pub is_valid : T → Type 0
  pub levels : T → ℕ
  pub is_sound : Bool
  pub back : is_sound ≡ true → (way : Way) (v : T) → is_valid v →
      ArePartsRead way (all_named (parts v)) items (content v) (levels v)
  pub alike : (v w : T) → content v ≡ content w → parts v ≡ parts w

-- ---- enums

abbrev pub is_name_among : List ℕ → List (List ℕ) → Bool
is_name_among name [] = false
is_name_among name (x ∷ xs) = if bytes_eq name x then true else is_name_among name xs

-- what stands under one of these names these variants read, among all
abbrev pub AreReadBy : {E : Type 0} → List (Variant E) → List (List ℕ) → List (Variant E) → Type 0
AreReadBy all names these = (name : List ℕ) → is_name_among name names ≡ true → (l : Limit)
    (i : Item) → outcome l (given_data all name i) ≡ outcome l (given_data these name i)

-- variants in a row, where a value is that of one of them: of the first, or of one behind it
pub record VariantsDescription (S : Type 0) : Type 1 where
  pub Content : Type 0
  pub content : S → Content
  pub names : List (List ℕ)
  -- how they are read, of whose content so much is made
  pub variants : {E : Type 0} → (Content → E) → List (Variant E)
  pub written : S → Named
  pub is_valid : S → Type 0
  pub levels : S → ℕ
  pub is_sound : Bool
  pub back : is_sound ≡ true → (way : Way) {E : Type 0} (all : List (Variant E))
      (make : Content → E) → AreReadBy all names (variants make) → (s : S) → is_valid s →
      IsNameRead way (written s) (given_enum all) (make (content s)) (levels s)
  pub alike : (s t : S) → content s ≡ content t → written s ≡ written t
  pub never : (a : Avoided) (s : S) → IsNever a (written s)
