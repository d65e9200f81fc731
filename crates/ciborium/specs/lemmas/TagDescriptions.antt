-- The descriptions of types under tags (RFC 8949, section 3.4).
use Rattle.std.specs.Prelude.{◌≡◌, ℕ, suc, Bool, true, false, Option, Some, ◌&&◌, if◌then◌else◌, refl}
use Rattle.ciborium_value.specs.{Described.Description, Meaning.is_bignum_tag, NeverWritten.byte_strings, ReadsBack.Way}
use Rattle.ciborium_value.specs.{Sinks.tag_of, TagReadings.{tag_accepted, tag_required, with_tag}}
use Rattle.ciborium_value.specs.lemmas.Descriptions.{both}
use Rattle.ciborium.specs.{Tags.captured_of, lemmas.ReadsBackTags.{IsToldApart, IsUnfolded, accepted-back}}
use Rattle.ciborium.specs.lemmas.ReadsBackTags.{captured-back, captured-never, no_bignum, not_bytes, required-back}
use Rattle.ciborium.specs.{lemmas.ReadsBackTags.tag-never, lemmas.WrittenTags.{captured-alike, tagged-alike}}

-- the tag folds nothing: it is no bignum's, or the part is never a byte string (section 3.4.3)
abbrev pub folds_nothing : {V : Type 0} → ℕ → Description V → Bool
folds_nothing t d = if is_bignum_tag t then d.avoids byte_strings else true

unfolded : {V : Type 0} (t : ℕ) (d : Description V) (way : Way) (v : V) (c : Bool) →
    is_bignum_tag t ≡ c → (if c then d.avoids byte_strings else true) ≡ true → IsUnfolded way (Some t) (d.written v)
unfolded t d way v true e h = not_bytes way (Some t) (d.never byte_strings h v)
unfolded t d way v false e h = no_bignum way t (d.written v) e

pub folds-nothing : {V : Type 0} (t : ℕ) (d : Description V) → folds_nothing t d ≡ true →
    (way : Way) (v : V) → IsUnfolded way (Some t) (d.written v)
folds-nothing t d h way v = unfolded t d way v (is_bignum_tag t) refl h

-- what is written as this part under the tag, and read only so
abbrev pub under_tag : {T V : Type 0} → ℕ → (T → V) → Description V → Description T
under_tag t part d = record {
  Content = d.Content;
  reading = tag_required t part d.reading;
  written = λ v. tag_of t (d.written (part v));
  is_valid = λ v. d.is_valid (part v);
  levels = λ v. suc (d.levels (part v));
  avoids = λ a. true;
  is_sound = folds_nothing t d && d.is_sound;
  reads_back = λ sound way v valid.
      let s = both (folds_nothing t d) d.is_sound sound in
      required-back t (folds-nothing t d s.0 way (part v)) (d.reads_back s.1 way (part v) valid);
  writes_content = λ v w same. tagged-alike d.writes_content t (part v) (part w) same;
  never = λ a h v. tag-never a t (d.written (part v));
}

-- the same, but it is also read without the tag
abbrev pub under_tag_or_none : {T V : Type 0} → ℕ → (T → V) → Description V → Description T
under_tag_or_none t part d = record (under_tag t part d) {
  reading = tag_accepted t part d.reading;
  reads_back = λ sound way v valid.
      let s = both (folds_nothing t d) d.is_sound sound in
      accepted-back t (folds-nothing t d s.0 way (part v)) (d.reads_back s.1 way (part v) valid);
}

-- what is written as this part under this tag, if there is one
abbrev pub under_any_tag : {T V : Type 0} → (T → Option ℕ) → (T → V) → Description V → Description T
under_any_tag tag part d = record {
  Content = Option ℕ × d.Content;
  reading = with_tag tag part d.reading;
  written = λ v. captured_of (tag v) (d.written (part v));
  is_valid = λ v. IsToldApart (tag v) (d.written (part v)) × d.is_valid (part v);
  levels = λ v. suc (d.levels (part v));
  avoids = d.avoids;
  is_sound = d.avoids byte_strings && d.is_sound;
  reads_back = λ sound way v valid.
      let s = both (d.avoids byte_strings) d.is_sound sound in
      captured-back (tag v) valid.0
      (not_bytes way (tag v) (d.never byte_strings s.0 (part v)))
      (d.reads_back s.1 way (part v) valid.1);
  writes_content = λ v w same.
      captured-alike d.writes_content (tag v) (tag w) (part v) (part w) same;
  never = λ a h v. captured-never a (tag v) (d.never a h (part v));
}
