-- The descriptions of the library's types, and of structs as maps, from those of their parts.
use Rattle.std.{proofs.Common.{ap, arith, subst, sym, ◌∙◌}, specs.{List.All, Option.{option_map, unwrap_or}}}
use Rattle.std.specs.Prelude.{◌≡◌, ◌<◌, ◌^◌, ◌+◌, ℕ, ℤ, suc, pos, max, Bool, true, false, List, [], ◌∷◌, Option, Some}
use Rattle.std.specs.Prelude.{None, Ok, Err, IfSome, length, map, nat_le, ◌&&◌, if◌then◌else◌, refl}
use Rattle.std.specs.declared.cmp.Ordering.{Ordering}
use Rattle.ciborium_ll.specs.{Bytes.greatest_offset, declared.kind.Kind.{Kind, TheVariants.Other}}
use Rattle.ciborium_value.specs.Described.{Description, FieldsDescription, IsDescribed, is_lawful, labeled_map}
use Rattle.ciborium_value.specs.{Described.{labeled_parts, maybe_before, maybe_levels}, Given.Given, Labels.Label}
use Rattle.ciborium_value.specs.{Labels.{is_label, is_proper, label_item, number_or, parts_or}, NeverWritten.Avoided}
use Rattle.ciborium_value.specs.NeverWritten.{IsNever, byte_strings, never-container, never-number, never-option, nulls}
use Rattle.ciborium_value.specs.{Places.{ContainerType, a_map, an_array}, Progress.counted_of, Readings.IsBounded}
use Rattle.ciborium_value.specs.Readings.{Reading, below, bounded, list_of, option_of, ordered_by, read_as, such_that}
use Rattle.ciborium_value.specs.{Readings.{tuple1_of, tuple2_of, tuple3_of, tuple4_of}, ReadsBack.IsNameRead}
use Rattle.ciborium_value.specs.{ReadsBack.{IsReadBack, Way, name-back}, Sinks.{Named, container_of, number_item}}
use Rattle.ciborium_value.specs.{Sinks.or_null, StructReadings.{Fields, FieldsGiven, end_of_fields, field_filled}}
use Rattle.ciborium_value.specs.StructReadings.{no_field_given, no_other_given, optional_field, struct_of, given_struct}
use Rattle.ciborium_value.specs.WrittenContents.{AreFieldsAlike, IsWrittenByContent, field_alike, list-alike}
use Rattle.ciborium_value.specs.WrittenContents.{no_field_alike, option-alike, signed-alike, tuple1-alike, tuple2-alike}
use Rattle.ciborium_value.specs.WrittenContents.{tuple3-alike, tuple4-alike, unsigned-alike}
use Rattle.ciborium_value.specs.lemmas.ReadsBackNumbers.{signed-back}
use Rattle.ciborium_value.specs.lemmas.{ReadsBackNumbers.unsigned-back, ReadsBackOptions.{option-back, option_levels}}
use Rattle.ciborium_value.specs.lemmas.ReadsBackParts.{greatest, list-back, such_that_back, tuple1-back, tuple2-back}
use Rattle.ciborium_value.specs.lemmas.{ReadsBackParts.{tuple3-back, tuple4-back}, ReadsBackStructs.FieldsReadBack}
use Rattle.ciborium_value.specs.lemmas.ReadsBackStructs.{are_apart, end_back, field_filled_back, field_or_back}
use Rattle.ciborium_value.specs.lemmas.ReadsBackStructs.{fields_read_back, is_named, left_out_back, neither}

-- ---- tests that hold together

pub both : (s t : Bool) → (s && t) ≡ true → (s ≡ true) × (t ≡ true)
both true t h = (refl, h)
both false t h = cc

each-avoided : (avoids : Avoided → Bool) → avoids nulls ≡ true → avoids byte_strings ≡ true →
    (a : Avoided) → avoids a ≡ true
each-avoided avoids h k nulls = h
each-avoided avoids h k byte_strings = k

-- the laws of a description, where `refl` shows that they hold of it
pub described : {T : Type 0} (d : Description T) → is_lawful d ≡ true → IsDescribed d d.written d.reading
described d lawful = record {
  reads_back = d.reads_back (both d.is_sound (d.avoids nulls && d.avoids byte_strings) lawful).0;
  writes_content = d.writes_content;
  never = λ a v.
      let apart = both (d.avoids nulls) (d.avoids byte_strings)
      (both d.is_sound (d.avoids nulls && d.avoids byte_strings) lawful).1 in
      d.never a (each-avoided d.avoids apart.0 apart.1 a) v;
}

-- ---- what takes no level

-- never null, or never a byte string
abbrev pub never_null : Avoided → Bool
never_null nulls = true
never_null byte_strings = false

abbrev pub never_byte_string : Avoided → Bool
never_byte_string nulls = false
never_byte_string byte_strings = true

pub as-never_null : {T : Type 0} {written : T → Named} → ((v : T) → IsNever nulls (written v)) →
    (a : Avoided) → never_null a ≡ true → (v : T) → IsNever a (written v)
as-never_null never nulls h v = never v
as-never_null never byte_strings h v = cc

pub as-never_byte_string : {T : Type 0} {written : T → Named} → ((v : T) → IsNever byte_strings (written v)) →
    (a : Avoided) → never_byte_string a ≡ true → (v : T) → IsNever a (written v)
as-never_byte_string never nulls h v = cc
as-never_byte_string never byte_strings h v = never v

-- a type by its laws
abbrev pub scalar : {T C : Type 0} (r : Reading T C) (written : T → Named) (IsValid : T → Type 0)
    (avoids : Avoided → Bool) →
    ((way : Way) → IsReadBack way IsValid written r.taken r.content (λ v. 0)) → IsWrittenByContent written r.content →
    ((a : Avoided) → avoids a ≡ true → (v : T) → IsNever a (written v)) → Description T
scalar {C = C} r written IsValid avoids back alike never = record {
  Content = C;
  reading = r;
  written = written;
  is_valid = IsValid;
  levels = λ v. 0;
  avoids = avoids;
  is_sound = true;
  reads_back = λ sound. back;
  writes_content = alike;
  never = never;
}

-- numbers from 0 on, of so many bits
abbrev pub unsigned_description : (k : ℕ) → k < 129 → Description ℕ
unsigned_description k fits = scalar (below (2 ^ k)) (λ n. Ok (number_item (pos n)))
    (λ n. n < 2 ^ k) (λ a. true) (unsigned-back k fits) unsigned-alike (λ a h n. never-number a (pos n))

-- n and -1 - n, for n of so many bits
abbrev pub signed_description : (k : ℕ) → k < 128 → Description ℤ
signed_description k fits = scalar (bounded (2 ^ k)) (λ n. Ok (number_item n))
    (IsBounded (2 ^ k)) (λ a. true) (signed-back k fits) signed-alike (λ a h n. never-number a n)

-- ---- types that are written as another

-- as this part
abbrev pub written_as : {T U : Type 0} → (T → U) → Description U → Description T
written_as part d = record {
  Content = d.Content;
  reading = read_as part d.reading;
  written = λ v. d.written (part v);
  is_valid = λ v. d.is_valid (part v);
  levels = λ v. d.levels (part v);
  avoids = d.avoids;
  is_sound = d.is_sound;
  reads_back = λ sound way v valid. d.reads_back sound way (part v) valid;
  writes_content = λ v w same. d.writes_content (part v) (part w) same;
  never = λ a h v. d.never a h (part v);
}

-- as this part, of whose content the test holds; another content is refused with the kind
abbrev pub tested : {T U : Type 0} (part : T → U) (d : Description U) → (d.Content → Bool) → Kind → Description T
tested part d test kind = record {
  Content = d.Content;
  reading = such_that (λ v. d.reading.content (part v)) d.reading test kind;
  written = λ v. d.written (part v);
  is_valid = λ v. d.is_valid (part v) × (test (d.reading.content (part v)) ≡ true);
  levels = λ v. d.levels (part v);
  avoids = d.avoids;
  is_sound = d.is_sound;
  reads_back = λ sound way v valid.
      such_that_back test kind (d.reads_back sound way (part v) valid.0) valid.1;
  writes_content = λ v w same. d.writes_content (part v) (part w) same;
  never = λ a h v. d.never a h (part v);
}

-- the same type, of which contents compare so: a key of maps
abbrev pub ordered_as : {T : Type 0} (d : Description T) → (d.Content → d.Content → Ordering) → Description T
ordered_as d order = record {
  Content = d.Content;
  reading = ordered_by order d.reading;
  written = d.written;
  is_valid = d.is_valid;
  levels = d.levels;
  avoids = d.avoids;
  is_sound = d.is_sound;
  reads_back = d.reads_back;
  writes_content = d.writes_content;
  never = d.never;
}

-- ---- options, lists and tuples

abbrev option_avoids : (Avoided → Bool) → Avoided → Bool
option_avoids avoids nulls = false
option_avoids avoids byte_strings = avoids byte_strings

pub option-avoids : {T : Type 0} (d : Description T) (a : Avoided) →
    option_avoids d.avoids a ≡ true → (v : Option T) → IsNever a (or_null d.written v)
option-avoids d nulls h v = cc
option-avoids d byte_strings h v = never-option (d.never byte_strings h) v

abbrev pub option_description : {T : Type 0} → Description T → Description (Option T)
option_description d = record {
  Content = Option d.Content;
  reading = option_of d.reading;
  written = or_null d.written;
  is_valid = λ v. IfSome v d.is_valid;
  levels = option_levels d.levels;
  avoids = option_avoids d.avoids;
  is_sound = d.avoids nulls && d.is_sound;
  reads_back = λ sound way.
      let holds = both (d.avoids nulls) d.is_sound sound in
      option-back (d.reads_back holds.1 way) (d.never nulls holds.0);
  writes_content = option-alike d.writes_content;
  never = option-avoids d;
}

abbrev pub list_description : {L T : Type 0} → (L → List T) → Description T → Description L
list_description items d = record {
  Content = List d.Content;
  reading = list_of items d.reading;
  written = λ v. container_of an_array (map d.written (items v));
  is_valid = λ v. All d.is_valid (items v);
  levels = λ v. suc (greatest d.levels (items v));
  avoids = λ a. true;
  is_sound = d.is_sound;
  reads_back = λ sound way v valid. list-back (d.reads_back sound way) (items v) valid;
  writes_content = λ v w same. list-alike d.writes_content (items v) (items w) same;
  never = λ a h v. never-container a an_array (map d.written (items v));
}

abbrev pub tuple1_description : {T A : Type 0} → (T → A) → Description A → Description T
tuple1_description alone a = record {
  Content = a.Content;
  reading = tuple1_of alone a.reading;
  written = λ t. container_of an_array (a.written (alone t) ∷ []);
  is_valid = λ t. a.is_valid (alone t);
  levels = λ t. suc (a.levels (alone t));
  avoids = λ x. true;
  is_sound = a.is_sound;
  reads_back = λ sound way t valid. tuple1-back (a.reads_back sound way (alone t) valid);
  writes_content = λ v w same. tuple1-alike a.writes_content (alone v) (alone w) same;
  never = λ x h t. never-container x an_array (a.written (alone t) ∷ []);
}

abbrev pub tuple2_description : {A B : Type 0} → Description A → Description B → Description (A × B)
tuple2_description a b = record {
  Content = a.Content × b.Content;
  reading = tuple2_of a.reading b.reading;
  written = λ t. container_of an_array (a.written t.0 ∷ b.written t.1 ∷ []);
  is_valid = λ t. a.is_valid t.0 × b.is_valid t.1;
  levels = λ t. suc (max (a.levels t.0) (b.levels t.1));
  avoids = λ x. true;
  is_sound = a.is_sound && b.is_sound;
  reads_back = λ sound way t valid.
      let s = both a.is_sound b.is_sound sound in
      tuple2-back (a.reads_back s.0 way t.0 valid.0) (b.reads_back s.1 way t.1 valid.1);
  writes_content = tuple2-alike a.writes_content b.writes_content;
  never = λ x h t. never-container x an_array (a.written t.0 ∷ b.written t.1 ∷ []);
}

abbrev pub tuple3_description : {A B C : Type 0} → Description A → Description B → Description C →
    Description (A × B × C)
tuple3_description a b c = record {
  Content = a.Content × b.Content × c.Content;
  reading = tuple3_of a.reading b.reading c.reading;
  written = λ t. container_of an_array (a.written t.0 ∷ b.written t.1 ∷ c.written t.2 ∷ []);
  is_valid = λ t. a.is_valid t.0 × b.is_valid t.1 × c.is_valid t.2;
  levels = λ t. suc (max (a.levels t.0) (max (b.levels t.1) (c.levels t.2)));
  avoids = λ x. true;
  is_sound = a.is_sound && (b.is_sound && c.is_sound);
  reads_back = λ sound way t valid.
      let s = both a.is_sound (b.is_sound && c.is_sound) sound in
      let r = both b.is_sound c.is_sound s.1 in
      tuple3-back (a.reads_back s.0 way t.0 valid.0) (b.reads_back r.0 way t.1 valid.1)
      (c.reads_back r.1 way t.2 valid.2);
  writes_content = tuple3-alike a.writes_content b.writes_content c.writes_content;
  never = λ x h t. never-container x an_array
      (a.written t.0 ∷ b.written t.1 ∷ c.written t.2 ∷ []);
}

abbrev pub tuple4_description : {A B C D : Type 0} → Description A → Description B →
    Description C → Description D → Description (A × B × C × D)
tuple4_description a b c d = record {
  Content = a.Content × b.Content × c.Content × d.Content;
  reading = tuple4_of a.reading b.reading c.reading d.reading;
  written = λ t. container_of an_array
      (a.written t.0 ∷ b.written t.1 ∷ c.written t.2 ∷ d.written t.3 ∷ []);
  is_valid = λ t. a.is_valid t.0 × b.is_valid t.1 × c.is_valid t.2 × d.is_valid t.3;
  levels = λ t. suc (max (a.levels t.0) (max (b.levels t.1) (max (c.levels t.2) (d.levels t.3))));
  avoids = λ x. true;
  is_sound = (a.is_sound && b.is_sound) && (c.is_sound && d.is_sound);
  reads_back = λ sound way t valid.
      let s = both (a.is_sound && b.is_sound) (c.is_sound && d.is_sound) sound in
      let p = both a.is_sound b.is_sound s.0 in
      let q = both c.is_sound d.is_sound s.1 in
      tuple4-back (a.reads_back p.0 way t.0 valid.0) (b.reads_back p.1 way t.1 valid.1)
      (c.reads_back q.0 way t.2 valid.2) (d.reads_back q.1 way t.3 valid.3);
  writes_content = tuple4-alike a.writes_content b.writes_content c.writes_content
      d.writes_content;
  never = λ x h t. never-container x an_array
      (a.written t.0 ∷ b.written t.1 ∷ c.written t.2 ∷ d.written t.3 ∷ []);
}

-- ---- fields

-- what holds of a field and of those behind it
pub field-sound : (s p d b : Bool) → (if s then false else p && (d && b)) ≡ true →
    (s ≡ false) × (p ≡ true) × (d ≡ true) × (b ≡ true)
field-sound false true true b h = (refl, refl, refl, h)
field-sound u v w b h = cc

one-more : (n : ℕ) → suc n ≡ n + 1
one-more n = omega arith

module _ {T : Type 0} (label : Label) (behind : FieldsDescription T) where
  -- a field of this label, and those behind it
  abbrev pub with_label : Label → Bool
  with_label x = if is_label label x then true else behind.has x

  -- so many fields and parts
  abbrev pub is_new : Bool → Bool
  is_new sound = if behind.has label then false else is_proper label && (sound && behind.is_sound)

  pub first-unnamed : (x : Label) → with_label x ≡ false → (v : T) (w : Named) →
      is_named x ((label, w) ∷ behind.named v) ≡ false
  first-unnamed x h v w = let apart = neither (is_label label x) (behind.has x) h in
      ap (λ t. if t then true else is_named x (behind.named v)) apart.0 ∙
      behind.unnamed x apart.1 v

  pub first-apart_of : (sound : Bool) → is_new sound ≡ true → (v : T) (w : Named) →
      are_apart ((label, w) ∷ behind.named v) ≡ true
  first-apart_of sound h v w =
      let (new, proper, here, more) = field-sound (behind.has label) (is_proper label) sound
      behind.is_sound h in
      ap (λ t. if t then false else is_proper label && are_apart (behind.named v))
      (behind.unnamed label new v) ∙ ap (λ t. t && are_apart (behind.named v)) proper ∙
      behind.apart more v

  pub first-parts : (v : T) (w : Named) → labeled_parts ((label, w) ∷ behind.named v) ≡
      label_item label ∷ w ∷ behind.parts v
  first-parts v w = ap (λ ps. label_item label ∷ w ∷ ps) (behind.same_parts v)

  pub first-number : (v : T) (w : Named) → length ((label, w) ∷ behind.named v) ≡ behind.number v + 1
  first-number v w = one-more (length (behind.named v)) ∙ ap (λ n. n + 1) (behind.same_number v)

-- a field of this label, whose value is this, and what was read of which is filled up so
abbrev filled_field : {T V : Type 0} → Label → (T → V) → (d : Description V) →
    (fill : Option d.Content → Option d.Content) → ((c : d.Content) → fill (Some c) ≡ Some c) →
    FieldsDescription T → FieldsDescription T
filled_field label value d fill full behind = record {
  Slots = Option d.Content × behind.Slots;
  Content = d.Content × behind.Content;
  fields = field_filled label d.reading fill behind.fields;
  content = λ v. (d.reading.content (value v), behind.content v);
  named = λ v. (label, d.written (value v)) ∷ behind.named v;
  parts = λ v. label_item label ∷ d.written (value v) ∷ behind.parts v;
  number = λ v. behind.number v + 1;
  is_valid = λ v. d.is_valid (value v) × behind.is_valid v;
  levels = λ v. max (d.levels (value v)) (behind.levels v);
  has = with_label label behind;
  is_sound = is_new label behind d.is_sound;
  same_parts = λ v. first-parts label behind v (d.written (value v));
  same_number = λ v. first-number label behind v (d.written (value v));
  unnamed = λ x h v. first-unnamed label behind x h v (d.written (value v));
  apart = λ sound v. first-apart_of label behind d.is_sound sound v (d.written (value v));
  back = λ sound way v valid.
      let s = field-sound (behind.has label) (is_proper label) d.is_sound behind.is_sound sound in
      field_filled_back label d.reading fill (full (d.reading.content (value v)))
      (d.reads_back s.2 way (value v) valid.0) (behind.back s.3 way v valid.1);
  alike = λ v w. field_alike label (d.writes_content (value v) (value w)) (behind.alike v w);
}

abbrev pub then_field : {T V : Type 0} → Label → (T → V) → Description V → FieldsDescription T → FieldsDescription T
then_field label value d behind = filled_field label value d (λ o. o) (λ c. refl) behind

-- the same, but where it is missing its content is this
abbrev pub then_field_or : {T V : Type 0} → Label → (T → V) → (d : Description V) → d.Content →
    FieldsDescription T → FieldsDescription T
then_field_or label value d default behind =
    filled_field label value d (λ o. Some (unwrap_or o default)) (λ c. refl) behind

-- ---- a field that may be left out

pub maybe-parts : {V : Type 0} (label : Label) (written : V → Named) (fs : List (Label × Named)) (ps : List Named) →
    labeled_parts fs ≡ ps → (m : Option V) →
    labeled_parts (maybe_before label written m fs) ≡ parts_or m (λ v. label_item label ∷ written v ∷ ps) ps
maybe-parts label written fs ps h None = h
maybe-parts label written fs ps h (Some v) = ap (λ qs. label_item label ∷ written v ∷ qs) h

pub maybe-number : {V : Type 0} (label : Label) (written : V → Named) (fs : List (Label × Named)) (n : ℕ) →
    length fs ≡ n → (m : Option V) → length (maybe_before label written m fs) ≡ number_or m (n + 1) n
maybe-number label written fs n h None = h
maybe-number label written fs n h (Some v) = one-more (length fs) ∙ ap (λ k. k + 1) h

pub maybe-unnamed : {T V : Type 0} (label : Label) (behind : FieldsDescription T) (written : V → Named) (x : Label) →
    with_label label behind x ≡ false →
    (v : T) (m : Option V) → is_named x (maybe_before label written m (behind.named v)) ≡ false
maybe-unnamed label behind written x h v None = behind.unnamed x (neither (is_label label x) (behind.has x) h).1 v
maybe-unnamed label behind written x h v (Some w) = first-unnamed label behind x h v (written w)

pub maybe-apart : {T V : Type 0} (label : Label) (behind : FieldsDescription T) (written : V → Named) (sound : Bool) →
    is_new label behind sound ≡ true →
    (v : T) (m : Option V) → are_apart (maybe_before label written m (behind.named v)) ≡ true
maybe-apart label behind written sound h v None = behind.apart (field-sound (behind.has label)
    (is_proper label) sound behind.is_sound h).3 v
maybe-apart label behind written sound h v (Some w) = first-apart_of label behind sound h v (written w)

pub maybe-back : {V A C D : Type 0} (label : Label) (r : Reading V A) {way : Way}
    {IsValid : V → Type 0} {written : V → Named} {levels : V → ℕ} {behind : Fields C D}
    {fs : List (Label × Named)} {d : D} {m : ℕ} → IsReadBack way IsValid written r.taken r.content levels →
    ((v : V) → IsNever nulls (written v)) → is_named label fs ≡ false → FieldsReadBack way behind fs d m →
    (o : Option V) → IfSome o IsValid → FieldsReadBack way (optional_field label r behind)
    (maybe_before label written o fs) (option_map r.content o, d) (maybe_levels levels o m)
maybe-back label r law never new rest None valid = left_out_back label (option_of r) None new rest
maybe-back label r law never new rest (Some v) valid =
    field_or_back label (option_of r) None (option-back law never (Some v) valid) rest

pub maybe-alike : {V A C : Type 0} (label : Label) {written : V → Named} {content : V → A} {c d : C}
    {fs gs : List (Label × Named)} → IsWrittenByContent written content → (v w : Option V) →
    AreFieldsAlike c d fs gs → AreFieldsAlike {C = Option A × C} (option_map content v, c) (option_map content w, d)
    (maybe_before label written v fs) (maybe_before label written w gs)
maybe-alike label law None None rest = record { alike = λ same. rest.alike (ap (λ p. p.1) same) }
maybe-alike label law None (Some w) rest = record {
  alike = λ same. let no = ap (λ p. p.0) same in absurd cc;
}
maybe-alike label law (Some v) None rest = record {
  alike = λ same. let no = ap (λ p. p.0) same in absurd cc;
}
maybe-alike label {written = written} {content = content} {fs = fs} law (Some v) (Some w) rest =
    record {
      alike = λ same.
          let one : content v ≡ content w = (let here = ap (λ p. p.0) same in cc) in
          ap (λ r. (label, r) ∷ fs) (law v w one) ∙ ap (λ fs. (label, written w) ∷ fs)
          (rest.alike (ap (λ p. p.1) same));
    }

-- a field of this label, which is left out where there is nothing; where it is missing, or null,
-- there is nothing
abbrev pub then_optional_field : {T V : Type 0} → Label → (T → Option V) → Description V →
    FieldsDescription T → FieldsDescription T
then_optional_field label value d behind = record {
  Slots = Option (Option d.Content) × behind.Slots;
  Content = Option d.Content × behind.Content;
  fields = optional_field label d.reading behind.fields;
  content = λ v. (option_map d.reading.content (value v), behind.content v);
  named = λ v. maybe_before label d.written (value v) (behind.named v);
  parts = λ v. parts_or (value v) (λ w. label_item label ∷ d.written w ∷ behind.parts v)
      (behind.parts v);
  number = λ v. number_or (value v) (behind.number v + 1) (behind.number v);
  is_valid = λ v. IfSome (value v) d.is_valid × behind.is_valid v;
  levels = λ v. maybe_levels d.levels (value v) (behind.levels v);
  has = with_label label behind;
  is_sound = is_new label behind (d.avoids nulls && d.is_sound);
  same_parts = λ v. maybe-parts label d.written (behind.named v) (behind.parts v)
      (behind.same_parts v) (value v);
  same_number = λ v. maybe-number label d.written (behind.named v) (behind.number v)
      (behind.same_number v) (value v);
  unnamed = λ x h v. maybe-unnamed label behind d.written x h v (value v);
  apart = λ sound v. maybe-apart label behind d.written (d.avoids nulls && d.is_sound) sound v
      (value v);
  back = λ sound way v valid.
      let s = field-sound (behind.has label) (is_proper label) (d.avoids nulls && d.is_sound)
      behind.is_sound sound in
      let part = both (d.avoids nulls) d.is_sound s.2 in
      maybe-back label d.reading (d.reads_back part.1 way) (d.never nulls part.0)
      (behind.unnamed label s.0 v) (behind.back s.3 way v valid.1) (value v) valid.0;
  alike = λ v w. maybe-alike label d.writes_content (value v) (value w) (behind.alike v w);
}

-- ---- the end of the fields

abbrev end_of : {T : Type 0} → Bool → FieldsGiven (Unit {0}) → FieldsDescription T
end_of once others = record {
  Slots = Unit {0};
  Content = Unit {0};
  fields = end_of_fields once others;
  content = λ v. tt;
  named = λ v. [];
  parts = λ v. [];
  number = λ v. 0;
  is_valid = λ v. Unit {0};
  levels = λ v. 0;
  has = λ x. false;
  is_sound = true;
  same_parts = λ v. refl;
  same_number = λ v. refl;
  unnamed = λ x h v. refl;
  apart = λ sound v. refl;
  back = λ sound way v valid. end_back once others;
  alike = λ v w. no_field_alike;
}

-- no field more: of a repeated one the last counts, and other keys are passed over
abbrev pub then_no_field : {T : Type 0} → FieldsDescription T
then_no_field = end_of false no_field_given

-- the same, but a repeated field is refused
abbrev pub then_no_field_twice : {T : Type 0} → FieldsDescription T
then_no_field_twice = end_of true no_field_given

-- the same again, and another key is refused
abbrev pub then_no_other_field : {T : Type 0} → FieldsDescription T
then_no_other_field = end_of true no_other_given

-- ---- structs

-- what is named where so many parts fit, and else refused
pub chosen-back : {C : Type 0} (t : Bool) {way : Way} {w : Named} {taken : Given C} {c : C} {n : ℕ}
    → IsNameRead way w taken c n → IsNameRead way (if t then w else Err Other) taken c n
chosen-back true h = h
chosen-back false h = name-back (Err Other) tt

chosen-never : (a : Avoided) (t : Bool) (w : Named) → IsNever a w → IsNever a (if t then w else Err Other)
chosen-never a true w h = h
chosen-never a false w h = λ i e. absurd (let no = e in cc)

-- so many parts are never null, nor bytes
pub counted-never : (a : Avoided) (s : ContainerType) (n : ℕ) (parts : List Named) → IsNever a (counted_of s n parts)
counted-never a s n parts = chosen-never a (nat_le n greatest_offset) (container_of s parts) (never-container a s parts)

module _ {T : Type 0} (fs : FieldsDescription T) where
  written-map : (v : T) → labeled_map (fs.named v) ≡ counted_of a_map (fs.number v) (fs.parts v)
  written-map v = ap (λ n. counted_of a_map n (labeled_parts (fs.named v))) (fs.same_number v) ∙
      ap (counted_of a_map (fs.number v)) (fs.same_parts v)

  pub struct-back : fs.is_sound ≡ true → (way : Way) (v : T) → fs.is_valid v →
      IsNameRead way (counted_of a_map (fs.number v) (fs.parts v)) (given_struct fs.fields)
      (fs.content v) (suc (fs.levels v))
  struct-back sound way v valid = subst
      (λ w. IsNameRead way w (given_struct fs.fields) (fs.content v) (suc (fs.levels v)))
      (written-map v) (chosen-back (nat_le (length (fs.named v)) greatest_offset)
      (fields_read_back (fs.back sound way v valid) (fs.apart sound v)))

  pub struct-alike : IsWrittenByContent (λ v. counted_of a_map (fs.number v) (fs.parts v)) fs.content
  struct-alike v w same = sym (written-map v) ∙ ap labeled_map ((fs.alike v w).alike same) ∙ written-map w

-- a struct as a map of its fields
abbrev pub struct_description : {T : Type 0} → FieldsDescription T → Description T
struct_description fs = record {
  Content = fs.Content;
  reading = struct_of fs.content fs.fields;
  written = λ v. counted_of a_map (fs.number v) (fs.parts v);
  is_valid = fs.is_valid;
  levels = λ v. suc (fs.levels v);
  avoids = λ a. true;
  is_sound = fs.is_sound;
  reads_back = struct-back fs;
  writes_content = struct-alike fs;
  never = λ a h v. counted-never a a_map (fs.number v) (fs.parts v);
}
