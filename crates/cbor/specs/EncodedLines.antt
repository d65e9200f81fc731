-- What is written for the lines of an input that are diagnostic notation, as bytes.
use Rattle.std.specs.{Prelude.{◌≡◌, ℕ, ◌+◌, ◌<◌, Bool, List, [], ◌++◌, length, Option, Some}, Bool.MatchBool}
use Rattle.std.specs.List.{flat_map}
use Rattle.ciborium_value.specs.{Denotes.DenotesWithin, Encoding.encoding, Tree.Tree}
use Rattle.cbor.specs.{Encoded.TellsNoTree, Lines.{AreLines, first_line, text_line}, SortedLines.refused_line_text}

-- of the input b the rest is left: the lines before it denote these trees within so many levels, in
-- order, and their encodings are put behind w, right behind one another: a sequence (RFC 8742,
-- section 2)
abbrev pub AreEncodedUpTo : ℕ → List ℕ → List ℕ → List ℕ → List Tree → Option (List ℕ) → Type 0
AreEncodedUpTo limit b w rest trees after = AreLines (DenotesWithin limit) b rest trees ×
    (after ≡ Some (w ++ flat_map encoding trees))

-- all lines of b are encoded behind w
abbrev pub AreAllEncoded : ℕ → List ℕ → List ℕ → Option (List ℕ) → Type 0
AreAllEncoded limit b w after = (trees : List Tree) × AreEncodedUpTo limit b w [] trees after

-- a line of b is refused; those before it are encoded behind w, and the message tells its number,
-- counted from 1, and why
abbrev pub IsEncodedUpToRefused : ℕ → List ℕ → List ℕ → Option (List ℕ) → List ℕ → Type 0
IsEncodedUpToRefused limit b w after message = (trees : List Tree) ×
    (rest : List ℕ) × (reason : List ℕ) × AreEncodedUpTo limit b w rest trees after × (0 < length rest) ×
    TellsNoTree limit (first_line rest) reason × (message ≡ text_line (refused_line_text (length trees + 1) reason))

-- all lines of b are encoded behind w, or those before the first that is refused
abbrev pub AreEncoded : ℕ → List ℕ → List ℕ → Bool → Option (List ℕ) → List ℕ → Type 0
AreEncoded limit b w all after message = MatchBool all (AreAllEncoded limit b w after)
    (IsEncodedUpToRefused limit b w after message)
