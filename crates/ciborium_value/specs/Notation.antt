-- Diagnostic notation (RFC 8949, section 8): what is shown of a tree to a person, by its bytes of
-- UTF-8.
use Rattle.std.specs.Prelude.{◌≡◌, All, ℕ, suc, ◌==◌, ◌||◌, Bool, true, false, List, [], ◌∷◌, ◌++◌, Option, Some, None}
use Rattle.std.specs.{Prelude.{if◌then◌else◌, nat_lt, codes, decimal}, Fmt.signed_decimal, List.{flat_map, repeat}}
use Rattle.hex.specs.Hex.{encode_lower}
use Rattle.ciborium_value.specs.{Counts.{trees_count, tree_pairs_count}, Tree.{Tree, integer, bytes, text, boolean}}
use Rattle.ciborium_value.specs.Tree.{null, tag, array, map, Trees, no_trees, tree, TreePairs, no_tree_pairs, tree_pair}

-- ---- texts, as JSON writes them (RFC 8949, section 8; RFC 8259, section 7)

-- a control character, a quotation mark and a backslash are escaped
abbrev pub needs_escape : ℕ → Bool
needs_escape b = nat_lt b 32 || b == 34 || b == 92

-- the escape of such a byte: a backslash before the character itself or a letter, or else two hex
-- digits
abbrev pub escape : ℕ → List ℕ
escape b = if b == 34 then codes "\\\"" else if b == 92 then codes "\\\\"
    else if b == 8 then codes "\\b" else if b == 9 then codes "\\t" else if b == 10 then codes "\\n"
    else if b == 12 then codes "\\f" else if b == 13 then codes "\\r" else codes "\\u00" ++ encode_lower (b ∷ [])

-- a byte of a text: its escape, or the byte as it is
abbrev pub escaped : ℕ → List ℕ
escaped b = if needs_escape b then escape b else b ∷ []

-- none of the bytes is escaped
abbrev pub IsPlain : List ℕ → Type 0
IsPlain t = All (λ b. needs_escape b ≡ false) t

-- a text in quotation marks
abbrev pub quoted : List ℕ → List ℕ
quoted t = codes "\"" ++ (flat_map escaped t ++ codes "\"")

-- ---- lines: a tree stands on one line, `None`, or each of its parts on a line of its own,
-- indented by so many levels

-- a line break and the indentation of the next line, two spaces a level
abbrev pub line_break : Option ℕ → List ℕ
line_break None = []
line_break (Some level) = codes "\n" ++ repeat level (codes "  ")

-- one level more
abbrev pub one_level_more : Option ℕ → Option ℕ
one_level_more None = None
one_level_more (Some level) = Some (suc level)

-- what stands between two parts, before the line break
abbrev pub comma : Option ℕ → List ℕ
comma None = codes ", "
comma (Some level) = codes ","

-- the line break before a closing bracket: none where there are no parts
abbrev pub last_break : Option ℕ → ℕ → List ℕ
last_break lines count = if count == 0 then [] else line_break lines

-- ---- trees (RFC 8949, section 8)

abbrev mutual
  -- of a tree: a number in decimal, a byte string in base16, a tag's number before its content in
  -- parentheses, and the rest as in JSON
  pub notation_on : Option ℕ → Tree → List ℕ
  notation_on lines (integer z) = signed_decimal z
  notation_on lines (bytes b) = codes "h'" ++ (encode_lower b ++ codes "'")
  notation_on lines (text t) = quoted t
  notation_on lines (boolean false) = codes "false"
  notation_on lines (boolean true) = codes "true"
  notation_on lines null = codes "null"
  notation_on lines (tag n v) = decimal n ++ (codes "(" ++ (notation_on lines v ++ codes ")"))
  notation_on lines (array vs) = codes "[" ++
      (notations_on (one_level_more lines) [] vs ++ (last_break lines (trees_count vs) ++ codes "]"))
  notation_on lines (map ps) = codes "{" ++ (pair_notations_on (one_level_more lines) [] ps ++
      (last_break lines (tree_pairs_count ps) ++ codes "}"))

  -- of each of some trees, the first behind `lead` and each other behind a comma
  pub notations_on : Option ℕ → List ℕ → Trees → List ℕ
  notations_on lines lead no_trees = []
  notations_on lines lead (tree v vs) = lead ++
      (line_break lines ++ (notation_on lines v ++ notations_on lines (comma lines) vs))

  -- of each of some pairs, a key before its value, the first behind `lead` and each other behind a
  -- comma
  pub pair_notations_on : Option ℕ → List ℕ → TreePairs → List ℕ
  pair_notations_on lines lead no_tree_pairs = []
  pair_notations_on lines lead (tree_pair k v ps) = lead ++ (line_break lines ++ (notation_on lines k ++ (codes ": " ++
      (notation_on lines v ++ pair_notations_on lines (comma lines) ps))))

-- on one line, as `{}` shows a value
abbrev pub notation : Tree → List ℕ
notation v = notation_on None v

-- each part on a line of its own, as `{:#}` shows a value
abbrev pub indented_notation : Tree → List ℕ
indented_notation v = notation_on (Some 0) v

-- indented or on one line
abbrev pub styled_notation : Bool → Tree → List ℕ
styled_notation is_indented v = if is_indented then indented_notation v else notation v
