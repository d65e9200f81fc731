-- The descriptions of enums by the names of their variants, from those of their data.
use Rattle.std.proofs.{Common.{ap, inl, inr, sym, ◌∙◌}, lemmas.Slice.Eq.bytes_eq-Decides}
use Rattle.std.specs.Prelude.{◌≡◌, ◌⊎◌, ℕ, suc, Bool, true, false, List, [], ◌∷◌, ◌&&◌, if◌then◌else◌, bytes_eq, refl}
use Rattle.ciborium_ll.specs.Item.{Item}
use Rattle.ciborium_value.specs.Described.{AreReadBy, Description, VariantsDescription, is_name_among}
use Rattle.ciborium_value.specs.{Labels.{fields_of, label_item, named}, Nesting.Limit, NeverWritten.{Avoided, IsNever}}
use Rattle.ciborium_value.specs.{NeverWritten.{never-container, never-text}, Places.a_map, ReadsBack.IsNameRead}
use Rattle.ciborium_value.specs.{ReadsBack.Way, Sinks.{Named, in_turn, named_text}, Given.{Given, outcome}}
use Rattle.ciborium_value.specs.VariantReadings.{Variant, data_variant, enum_of, given_data, given_enum, unit_variant}
use Rattle.ciborium_value.specs.lemmas.ReadsBackVariants.{data_variant_back, unit_variant_back}
use Rattle.ciborium_value.specs.lemmas.ReadsBackStructs.{first-apart}
use Rattle.ciborium_ll.specs.Item as items

-- ---- the value of one of two

abbrev pub either_map : {A B C D : Type 0} → (A → C) → (B → D) → A ⊎ B → C ⊎ D
either_map f g (inl a) = inl (f a)
either_map f g (inr b) = inr (g b)

abbrev pub of_either : {A B C : Type 0} → (A → C) → (B → C) → A ⊎ B → C
of_either f g (inl a) = f a
of_either f g (inr b) = g b

abbrev pub IfEither : {A B : Type 0} → (A → Type 0) → (B → Type 0) → A ⊎ B → Type 0
IfEither P Q (inl a) = P a
IfEither P Q (inr b) = Q b

-- ---- names

same-name : (name : List ℕ) → bytes_eq name name ≡ true
same-name name = (bytes_eq-Decides name name).1 refl

-- a name that is among others is not one that is not
other-name : (name first : List ℕ) (names : List (List ℕ)) → is_name_among name names ≡ true →
    is_name_among first names ≡ false → (t : Bool) → bytes_eq name first ≡ t → t ≡ false
other-name name first names among new true e =
    let same : name ≡ first = (bytes_eq-Decides name first).0 e in
    sym among ∙ ap (λ n. is_name_among n names) same ∙ new
other-name name first names among new false e = refl

module _ {E : Type 0} (all : List (Variant E)) (name : List ℕ) (names : List (List ℕ))
    (first : Given E) (behind : List (Variant E)) where
  abbrev these : List (Variant E)
  these = record { name = name; taken = first } ∷ behind

  -- what stands under the first name
  first-data : AreReadBy all (name ∷ names) these → (l : Limit) (i : Item) →
      outcome l (given_data all name i) ≡ outcome l (first i)
  first-data h l i = h name (ap (λ t. if t then true else is_name_among name names) (same-name name)) l i ∙
      ap (λ t. if t then outcome l (first i) else outcome l (given_data behind name i)) (same-name name)

  -- what stands under the others
  others-data : is_name_among name names ≡ false → AreReadBy all (name ∷ names) these → AreReadBy all names behind
  others-data new h other among l i =
      let apart = other-name other name names among new (bytes_eq other name) refl in
      h other (ap (λ t. if t then true else is_name_among other names) apart ∙ among) l i ∙
      ap (λ t. if t then outcome l (first i) else outcome l (given_data behind other i)) apart

-- the name and the data under it
abbrev pub under_name : List ℕ → Named → Named
under_name name w = fields_of ((named name, w) ∷ [])

-- ---- a variant without data

module _ {S : Type 0} (name : List ℕ) (behind : VariantsDescription S) where
  abbrev pub unit_named : Unit {0} ⊎ S → Named
  unit_named s = of_either (λ u. named_text name) behind.written s

  abbrev pub with_unit : {E : Type 0} → (Unit {0} ⊎ behind.Content → E) → List (Variant E)
  with_unit make = unit_variant name (make (inl tt)) ∷ behind.variants (λ c. make (inr c))

  abbrev pub is_new_unit : Bool
  is_new_unit = if is_name_among name behind.names then false else true && behind.is_sound

  module _ (sound : is_new_unit ≡ true) where
    unit-apart : (is_name_among name behind.names ≡ false) × (true ≡ true) × (behind.is_sound ≡ true)
    unit-apart = first-apart (is_name_among name behind.names) true behind.is_sound sound

    pub unit-back : (way : Way) {E : Type 0} (all : List (Variant E)) (make : Unit {0} ⊎ behind.Content → E) →
        AreReadBy all (name ∷ behind.names) (with_unit make) →
        (s : Unit {0} ⊎ S) → IfEither (λ u. Unit {0}) behind.is_valid s → IsNameRead way (unit_named s) (given_enum all)
        (make (either_map (λ u. u) behind.content s)) (of_either (λ u. 1) behind.levels s)
    unit-back way all make h (inl u) valid = unit_variant_back all name (λ l.
        first-data all name behind.names (unit_variant name (make (inl tt))).taken
        (behind.variants (λ c. make (inr c))) h l (items.simple 22))
    unit-back way all make h (inr s) valid = behind.back unit-apart.2 way all (λ c. make (inr c))
        (others-data all name behind.names (unit_variant name (make (inl tt))).taken
        (behind.variants (λ c. make (inr c))) unit-apart.0 h) s valid

  pub unit-alike : (s t : Unit {0} ⊎ S) →
      either_map (λ u. u) behind.content s ≡ either_map (λ u. u) behind.content t → unit_named s ≡ unit_named t
  unit-alike (inl u) (inl v) same = refl
  unit-alike (inr s) (inr t) same = let inner : behind.content s ≡ behind.content t = cc in
      behind.alike s t inner
  unit-alike u v same = cc

  pub unit-never : (a : Avoided) (s : Unit {0} ⊎ S) → IsNever a (unit_named s)
  unit-never a (inl u) = never-text a name
  unit-never a (inr s) = behind.never a s

-- a variant of this name without data, before others
abbrev pub then_unit_variant : {S : Type 0} → List ℕ → VariantsDescription S → VariantsDescription (Unit {0} ⊎ S)
then_unit_variant name behind = record {
  Content = Unit {0} ⊎ behind.Content;
  content = either_map (λ u. u) behind.content;
  names = name ∷ behind.names;
  variants = with_unit name behind;
  written = unit_named name behind;
  is_valid = IfEither (λ u. Unit {0}) behind.is_valid;
  levels = of_either (λ u. 1) behind.levels;
  is_sound = is_new_unit name behind;
  back = λ sound. unit-back name behind sound;
  alike = unit-alike name behind;
  never = unit-never name behind;
}

-- ---- a variant with data

module _ {V S : Type 0} (name : List ℕ) (d : Description V) (behind : VariantsDescription S) where
  abbrev pub data_named : V ⊎ S → Named
  data_named s = of_either (λ v. under_name name (d.written v)) behind.written s

  abbrev pub with_data : {E : Type 0} → (d.Content ⊎ behind.Content → E) → List (Variant E)
  with_data make = data_variant name (λ c. make (inl c)) d.reading ∷ behind.variants (λ c. make (inr c))

  abbrev pub is_new_data : Bool
  is_new_data = if is_name_among name behind.names then false else d.is_sound && behind.is_sound

  module _ (sound : is_new_data ≡ true) where
    data-apart : (is_name_among name behind.names ≡ false) × (d.is_sound ≡ true) × (behind.is_sound ≡ true)
    data-apart = first-apart (is_name_among name behind.names) d.is_sound behind.is_sound sound

    pub data-back : (way : Way) {E : Type 0} (all : List (Variant E)) (make : d.Content ⊎ behind.Content → E) →
        AreReadBy all (name ∷ behind.names) (with_data make) →
        (s : V ⊎ S) → IfEither d.is_valid behind.is_valid s → IsNameRead way (data_named s) (given_enum all)
        (make (either_map d.reading.content behind.content s)) (of_either (λ v. suc (d.levels v)) behind.levels s)
    data-back way all make h (inl v) valid = data_variant_back all name (λ c. make (inl c)) d.reading
        (first-data all name behind.names (data_variant name (λ c. make (inl c)) d.reading).taken
        (behind.variants (λ c. make (inr c))) h) (d.reads_back data-apart.1 way v valid)
    data-back way all make h (inr s) valid = behind.back data-apart.2 way all (λ c. make (inr c))
        (others-data all name behind.names (data_variant name (λ c. make (inl c)) d.reading).taken
        (behind.variants (λ c. make (inr c))) data-apart.0 h) s valid

  pub data-alike : (s t : V ⊎ S) → either_map d.reading.content behind.content s ≡
      either_map d.reading.content behind.content t → data_named s ≡ data_named t
  data-alike (inl v) (inl w) same =
      let inner : d.reading.content v ≡ d.reading.content w = cc in
      ap (under_name name) (d.writes_content v w inner)
  data-alike (inr s) (inr t) same = let inner : behind.content s ≡ behind.content t = cc in
      behind.alike s t inner
  data-alike u v same = cc

  pub data-never : (a : Avoided) (s : V ⊎ S) → IsNever a (data_named s)
  data-never a (inl v) = never-container a a_map (in_turn label_item (λ r. r) ((named name, d.written v) ∷ []))
  data-never a (inr s) = behind.never a s

-- a variant of this name with data, before others
abbrev pub then_variant : {V S : Type 0} → List ℕ → Description V → VariantsDescription S → VariantsDescription (V ⊎ S)
then_variant name d behind = record {
  Content = d.Content ⊎ behind.Content;
  content = either_map d.reading.content behind.content;
  names = name ∷ behind.names;
  variants = with_data name d behind;
  written = data_named name d behind;
  is_valid = IfEither d.is_valid behind.is_valid;
  levels = of_either (λ v. suc (d.levels v)) behind.levels;
  is_sound = is_new_data name d behind;
  back = λ sound. data-back name d behind sound;
  alike = data-alike name d behind;
  never = data-never name d behind;
}

-- no variant more: another name is refused
abbrev pub no_variant : VariantsDescription ⊥
no_variant = record {
  Content = ⊥;
  content = λ s. s;
  names = [];
  variants = λ make. [];
  written = λ s. absurd s;
  is_valid = λ s. absurd s;
  levels = λ s. absurd s;
  is_sound = true;
  back = λ sound way all make h s valid. absurd s;
  alike = λ s t same. absurd s;
  never = λ a s. absurd s;
}

-- an enum, whose values are those of these variants
abbrev pub enum_description : {T S : Type 0} → (T → S) → VariantsDescription S → Description T
enum_description variant vs = record {
  Content = vs.Content;
  reading = enum_of (λ v. vs.content (variant v)) (vs.variants (λ c. c));
  written = λ v. vs.written (variant v);
  is_valid = λ v. vs.is_valid (variant v);
  levels = λ v. vs.levels (variant v);
  avoids = λ a. true;
  is_sound = vs.is_sound;
  reads_back = λ sound way v valid. vs.back sound way (vs.variants (λ c. c)) (λ c. c)
      (λ name among l i. refl) (variant v) valid;
  writes_content = λ v w same. vs.alike (variant v) (variant w) same;
  never = λ a h v. vs.never a (variant v);
}
