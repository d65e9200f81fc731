-- The descriptions of structs as arrays, from those of their items.
use Rattle.std.{proofs.Common.{ap, ◌∙◌}, specs.Prelude.{◌≡◌, suc, max, ◌+◌, true, [], ◌∷◌, ◌&&◌, nat_le, refl}}
use Rattle.ciborium_ll.specs.Bytes.{greatest_offset}
use Rattle.ciborium_value.specs.{Described.{Description, ItemsDescription}, GivenParts.after_seq, Places.an_array}
use Rattle.ciborium_value.specs.{Progress.counted_of, Readings.{array_of, no_part, part}, ReadsBack.{IsNameRead, Way}}
use Rattle.ciborium_value.specs.lemmas.{Descriptions.{both, chosen-back, counted-never}, ReadsBackParts.array_back}
use Rattle.ciborium_value.specs.lemmas.ReadsBackParts.{no_part_back, part_back}

-- an item, which is this, before others
abbrev pub then_item : {T V : Type 0} → (T → V) → Description V → ItemsDescription T → ItemsDescription T
then_item value d behind = record {
  Content = d.Content × behind.Content;
  items = part d.reading behind.items;
  content = λ v. (d.reading.content (value v), behind.content v);
  parts = λ v. d.written (value v) ∷ behind.parts v;
  number = behind.number + 1;
  is_valid = λ v. d.is_valid (value v) × behind.is_valid v;
  levels = λ v. max (d.levels (value v)) (behind.levels v);
  is_sound = d.is_sound && behind.is_sound;
  back = λ sound way v valid.
      let s = both d.is_sound behind.is_sound sound in
      part_back (d.reads_back s.0 way (value v) valid.0) (behind.back s.1 way v valid.1);
  alike = λ v w same.
      ap (λ r. r ∷ behind.parts v) (d.writes_content (value v) (value w) (ap (λ p. p.0) same)) ∙
      ap (λ rs. d.written (value w) ∷ rs) (behind.alike v w (ap (λ p. p.1) same));
}

-- no item more: further ones are read as values, and dropped
abbrev pub then_no_item : {T : Type 0} → ItemsDescription T
then_no_item = record {
  Content = Unit {0};
  items = no_part;
  content = λ v. tt;
  parts = λ v. [];
  number = 0;
  is_valid = λ v. Unit {0};
  levels = λ v. 0;
  is_sound = true;
  back = λ sound way v valid. no_part_back;
  alike = λ v w same. refl;
}

module _ {T : Type 0} (is : ItemsDescription T) where
  pub items-back : is.is_sound ≡ true → (way : Way) (v : T) → is.is_valid v →
      IsNameRead way (counted_of an_array is.number (is.parts v)) (after_seq is.items)
      (is.content v) (suc (is.levels v))
  items-back sound way v valid = chosen-back (nat_le is.number greatest_offset) (array_back (is.back sound way v valid))

-- a struct as an array of its items
abbrev pub array_description : {T : Type 0} → ItemsDescription T → Description T
array_description is = record {
  Content = is.Content;
  reading = array_of is.content is.items;
  written = λ v. counted_of an_array is.number (is.parts v);
  is_valid = is.is_valid;
  levels = λ v. suc (is.levels v);
  avoids = λ a. true;
  is_sound = is.is_sound;
  reads_back = items-back is;
  writes_content = λ v w same. ap (counted_of an_array is.number) (is.alike v w same);
  never = λ a h v. counted-never a an_array is.number (is.parts v);
}
