-- Which variant a `Value` is.
use Rattle.std.specs.{Prelude.{◌≡◌, ℕ, ℤ, List, Bool, Vec, String, string_bytes, Box}, declared.alloc.Global.Global}
use Rattle.ciborium_value.specs.declared.tree.Value.{Value}
use Rattle.ciborium_value.specs.declared.tree.Value as value

abbrev pub IsInteger : Value → Type 0
IsInteger v = (z : ℤ) × (v ≡ value.Integer z)

abbrev pub IsBytes : Value → Type 0
IsBytes v = (b : Vec ℕ Global) × (v ≡ value.Bytes b)

abbrev pub IsText : Value → Type 0
IsText v = (s : String Global) × (v ≡ value.Text s)

-- a text of these bytes of UTF-8
abbrev pub IsTextOf : Value → List ℕ → Type 0
IsTextOf v b = (s : String Global) × (v ≡ value.Text s) × (b ≡ string_bytes s)

abbrev pub IsBool : Value → Type 0
IsBool v = (b : Bool) × (v ≡ value.Bool b)

abbrev pub IsTag : Value → Type 0
IsTag v = (t : ℕ) × (content : Box Value Global) × (v ≡ value.Tag t content)

-- a tag of this number over this content
abbrev pub IsTagOf : Value → ℕ → Value → Type 0
IsTagOf v t w = (content : Box Value Global) × (v ≡ value.Tag t content) × (w ≡ content.value)

abbrev pub IsArray : Value → Type 0
IsArray v = (vs : Vec Value Global) × (v ≡ value.Array vs)

abbrev pub IsMap : Value → Type 0
IsMap v = (ps : Vec (Value × Value) Global) × (v ≡ value.Map ps)
