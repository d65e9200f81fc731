-- Worked examples: what the definitions say of a few bytes and trees of RFC 8949. Programs run the others, as lines.
use Rattle.std.specs.Prelude.{◌≡◌, ℕ, ◌+◌, ◌-◌, ◌*◌, List, [], ◌∷◌, replicate, codes, if◌then◌else◌, nat_lt, false}
use Rattle.std.specs.Prelude.{true, pos, negsuc, Some, None}
use Rattle.ciborium_ll.specs.{Item.Item, Spells.Spells}
use Rattle.ciborium_value.specs.{Deterministic.AreRising, Encoding.{encoding, written_bytes}, Folded.folded}
use Rattle.ciborium_value.specs.{Meaning.meaning, Notation.{notation, indented_notation}, Tree.{Tree, integer, bytes}}
use Rattle.ciborium_value.specs.{Tree.{text, boolean, null, tag, array, map}, View.{tree_pairs_from, trees_from}}
use Rattle.ciborium_value.specs.declared.key_order.KeyOrder.TheVariants.{LengthFirst}
use Prim.Native.String.{String}
use Rattle.ciborium_ll.specs.Item as item

-- the value of a digit, by its code: 0 to 9, or a to f
abbrev digit : ℕ → ℕ
digit c = if nat_lt c 58 then c - 48 else c - 87

abbrev bytes_of : List ℕ → List ℕ
bytes_of [] = []
bytes_of (c ∷ []) = []
bytes_of (c ∷ d ∷ cs) = (16 * digit c + digit d) ∷ bytes_of cs

-- the bytes that a text writes in hexadecimal
abbrev pub hex : String → List ℕ
hex digits = bytes_of (codes digits)

-- the bytes spell an item that means the tree
abbrev pub HasMeaning : List ℕ → Tree → Type 0
HasMeaning b v = (i : Item) × Spells b i × (meaning i ≡ Some v)

-- n, and -1 - n
abbrev pub number : ℕ → Tree
number n = integer (pos n)

abbrev pub below_zero : ℕ → Tree
below_zero n = integer (negsuc n)

abbrev pub letters : String → Tree
letters s = text (codes s)

abbrev pub items : List Tree → Tree
items vs = array (trees_from vs)

-- {"a": 1, "b": [2, 3]}
abbrev pub nested_map : Tree
nested_map = map (tree_pairs_from ((letters "a", number 1) ∷ (letters "b", items (number 2 ∷ number 3 ∷ [])) ∷ []))

-- 80 and fifteen zeros: 2^127
abbrev pub two_to_127 : List ℕ
two_to_127 = 0x80 ∷ replicate 15 0

pub record WorkedExamples : Type 0 where
  -- every width (sections 3 and 3.3)
  pub zero_in_a_wide_head : HasMeaning (hex "1800") (number 0)
  pub undefined : HasMeaning (hex "f7") null
  -- bignums (section 3.4.3)
  pub folds_in_a_tree : folded (items (tag 2 (bytes (hex "01")) ∷ [])) ≡ Some (items (number 1 ∷ []))
  pub too_large : meaning (item.tag 3 (item.bytes false two_to_127)) ≡ None
  pub large_enough : meaning (item.tag 2 (item.bytes false two_to_127)) ≡ Some (tag 2 (bytes two_to_127))
  -- shortest heads (section 4.1)
  pub number_24 : encoding (number 24) ≡ hex "1818"
  pub minus_257 : encoding (below_zero 256) ≡ hex "390100"
  pub nested : encoding nested_map ≡ hex "a26161016162820203"
  pub open_array : written_bytes (item.array true (item.item (item.unsigned 1) item.no_items)) ≡ hex "9f01ff"
  -- 10, -1, false, 100, "z", [-1], "aa", [100]; and -200, of two bytes, before 256 (section 4.2.3)
  pub in_order : AreRising LengthFirst (number 10 ∷ below_zero 0 ∷ boolean false ∷ number 100 ∷ letters "z" ∷
      items (below_zero 0 ∷ []) ∷ letters "aa" ∷ items (number 100 ∷ []) ∷ [])
  pub shorter_first : AreRising LengthFirst (below_zero 199 ∷ number 256 ∷ [])
  -- diagnostic notation (section 8)
  pub printed : notation nested_map ≡ codes "{\"a\": 1, \"b\": [2, 3]}"
  pub indented : indented_notation (items (number 1 ∷ items [] ∷ [])) ≡ codes "[\n  1,\n  []\n]"
  pub escaped : notation (text (8 ∷ 10 ∷ 11 ∷ 34 ∷ 92 ∷ [])) ≡ codes "\"\\b\\n\\u000b\\\"\\\\\""
