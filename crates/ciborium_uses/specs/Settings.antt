-- Settings by their topics: what counts of them, and what is saved (RFC 8949, section 4.2).
use Rattle.std.specs.{BTreeMap.BTreeMap, Prelude.{◌≡◌, ℕ, Bool, List, Result, Ok, Err, map}}
use Rattle.std.specs.declared.io.Error.{Error as IoError}
use Rattle.ciborium.specs.{LoadedAnswers.LoadsAll, Readings.Reading, Sinks.Named, declared.de.error.Error.Error}
use Rattle.ciborium_value.specs.declared.key_order.KeyOrder.TheVariants.{LengthFirst}
use Rattle.ciborium_uses.specs.declared.settings.error.SettingsError.{SettingsError, TheVariants.Load}
use Rattle.ciborium_uses.specs.declared.settings.{setting.Setting.Setting, topic.Topic.Topic}

-- what counts of a setting: its fields
abbrev pub setting_content : Setting → Bool × ℕ
setting_content s = (s.enabled, s.level)

-- what counts of all settings: each topic with its setting, in the order of the topics
abbrev pub settings_content : BTreeMap Topic Setting → List (Topic × (Bool × ℕ))
settings_content m = map (λ e. (e.0, setting_content e.1)) m.entries

-- at Ok all of the bytes give the settings, and are the deterministic encoding of what they write;
-- else they are refused so
abbrev pub LoadsSettings : {C : Type 0} → Reading (BTreeMap Topic Setting) C →
    (BTreeMap Topic Setting → Named) → List ℕ → Result (BTreeMap Topic Setting) SettingsError → Type 0
LoadsSettings reading written b (Ok s) = LoadsAll {E = IoError} LengthFirst 256 reading written b (Ok s)
LoadsSettings reading written b (Err e) = (f : Error IoError) × (e ≡ Load f) ×
    LoadsAll LengthFirst 256 reading written b (Err f)
