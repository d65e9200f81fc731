-- What the program answers to a line of diagnostic notation (RFC 8949, section 8). Texts are lists
-- of bytes.
use Rattle.std.specs.{Prelude.{◌≡◌, ◌⊎◌, ℕ, List, ◌++◌, codes, decimal}, Str.IsValidUpTo}
use Rattle.hex.specs.Hex.{encode_lower}
use Rattle.ciborium_value.specs.{Denotes.{DenotesWithin, MayRefuse}, Encoding.encoding}
use Rattle.ciborium_value.specs.{RefusalMessages.notation_error_message, Tree.Tree}
use Rattle.ciborium_value.specs.declared.from_notation.error.NotationError.{NotationError, TheVariants.At}
use Rattle.ciborium_value.specs.declared.from_notation.error.NotationFault.{NotationFault}

-- a line denotes a tree within so many levels, and the text is its encoding in lower-case hex
-- (section 4.1)
abbrev pub IsEncodingText : ℕ → List ℕ → List ℕ → Type 0
IsEncodingText limit line text = (v : Tree) × DenotesWithin limit line v × (text ≡ encode_lower (encoding v))

-- this error refuses a line within so many levels: however many it denotes a tree within
abbrev pub RefusesLine : ℕ → List ℕ → NotationError → Type 0
RefusesLine limit line e = (l : ℕ) (v : Tree) → DenotesWithin l line v → MayRefuse limit e l

-- the text that says that the longest front of a line that is UTF-8 has n bytes
abbrev pub not_utf8_text : ℕ → List ℕ
not_utf8_text n = codes "not UTF-8 at byte " ++ decimal n

-- a line is refused, and the text is the message of the error, or it is not UTF-8, and the text
-- says where
abbrev pub TellsNoTree : ℕ → List ℕ → List ℕ → Type 0
TellsNoTree limit line text = ((p : ℕ) × (fault : NotationFault) × RefusesLine limit line (At p fault) ×
    (text ≡ notation_error_message (At p fault))) ⊎ ((n : ℕ) × IsValidUpTo line n × (text ≡ not_utf8_text n))
