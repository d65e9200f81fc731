-- The descriptions of maps, from those of their keys and values.
use Rattle.std.{proofs.lemmas.Cmp.{int_cmp_total, nat_cmp_total}, specs.{BTreeMap.BTreeMap, Ordering.int_cmp}}
use Rattle.std.specs.{Ordering.nat_cmp, Prelude.{ℕ, ℤ, ◌<◌, suc, Bool, true, List, ◌&&◌, refl}}
use Rattle.ciborium_value.specs.{Described.{Description, KeyDescription}, NeverWritten.never-container}
use Rattle.ciborium_value.specs.{Places.a_map, Readings.map_by, Sinks.{container_of, in_turn}}
use Rattle.ciborium_value.specs.{WrittenContents.map-alike, lemmas.Descriptions.{both, signed_description}}
use Rattle.ciborium_value.specs.lemmas.{Descriptions.unsigned_description, ReadsBackMaps.{IsMapValid, entry_levels}}
use Rattle.ciborium_value.specs.lemmas.{ReadsBackMaps.map-back, ReadsBackParts.greatest}

-- numbers as keys
abbrev pub unsigned_key : (k : ℕ) → k < 129 → KeyDescription ℕ
unsigned_key k fits = record {
  key = unsigned_description k fits;
  compare = nat_cmp;
  total = nat_cmp_total;
  orders = λ a b. refl;
}

abbrev pub signed_key : (k : ℕ) → k < 128 → KeyDescription ℤ
signed_key k fits = record {
  key = signed_description k fits;
  compare = int_cmp;
  total = int_cmp_total;
  orders = λ a b. refl;
}

-- a map, of which equal keys are refused, or the last one counts
abbrev pub map_description : {M K V : Type 0} → Bool → (M → BTreeMap K V) → KeyDescription K →
    Description V → Description M
map_description once map k v = record {
  Content = List (k.key.Content × v.Content);
  reading = map_by once (λ m. (map m).entries) k.key.reading v.reading;
  written = λ m. container_of a_map (in_turn k.key.written v.written (map m).entries);
  is_valid = λ m. IsMapValid k.compare k.key.is_valid v.is_valid (map m);
  levels = λ m. suc (greatest (entry_levels k.key.levels v.levels) (map m).entries);
  avoids = λ a. true;
  is_sound = k.key.is_sound && v.is_sound;
  reads_back = λ sound way m valid.
      let s = both k.key.is_sound v.is_sound sound in
      map-back (k.key.reads_back s.0 way) (v.reads_back s.1 way) once k.compare
      k.key.reading.order k.total k.orders (map m) valid;
  writes_content = λ m n same.
      map-alike k.key.writes_content v.writes_content (map m).entries (map n).entries same;
  never = λ a h m. never-container a a_map
      (in_turn k.key.written v.written (map m).entries);
}
