-- The tokens of diagnostic notation (RFC 8949, section 8; RFC 8610, appendix G): what stands at the
-- front of a text, which is a list of bytes of UTF-8, and what follows it.
use Rattle.std.specs.Prelude.{ℕ, zero, suc, ◌+◌, ◌-◌, ◌*◌, ◌/◌, ◌%◌, ◌^◌, ◌==◌, ◌||◌, ◌&&◌, Bool, true, false, List, []}
use Rattle.std.specs.Prelude.{◌∷◌, ◌++◌, Option, Some, None, option_map, if◌then◌else◌, ℤ, pos, negsuc, nat_lt, nat_le}
use Rattle.std.specs.{Prelude.{codes, encode_utf8}, Char.digit_value, Str.is_utf8}
use Rattle.ciborium_value.specs.{Number.number_tree, Tree.Tree}
use Rattle.ciborium_value.specs.Tree as trees

pub data Token : Type 0 where
  -- a tree without parts of its own: a number, a string or a word
  leaf : Tree → Token
  -- the number of a tag and the parenthesis behind it
  begin_tag : ℕ → Token
  end_tag : Token
  begin_array : Token
  end_array : Token
  begin_map : Token
  end_map : Token
  comma : Token
  colon : Token

-- ---- what follows a word

-- what follows these bytes at the front of t
abbrev pub behind : List ℕ → List ℕ → Option (List ℕ)
behind [] t = Some t
behind (w ∷ ws) [] = None
behind (w ∷ ws) (b ∷ t) = if b == w then behind ws t else None

-- bytes before those of an answer
abbrev pub prepended : List ℕ → Option (List ℕ × List ℕ) → Option (List ℕ × List ℕ)
prepended bs found = option_map (λ p. (bs ++ p.0, p.1)) found

-- a token and what follows it, of what was found
abbrev pub token_of : {A : Type 0} → (A → Tree) → Option (A × List ℕ) → Option (Token × List ℕ)
token_of tree found = option_map (λ p. (leaf (tree p.0), p.1)) found

-- ---- blanks (RFC 8610, appendix G.1 and G.6): white space, what stands between two slashes, and
-- what follows a number sign up to the end of its line

-- a space, a tab, a line feed or a carriage return
abbrev pub is_white : ℕ → Bool
is_white b = b == 32 || b == 9 || b == 10 || b == 13

abbrev mutual
  -- what follows the blanks at the front, or None where a comment does not end
  pub behind_blanks : List ℕ → Option (List ℕ)
  behind_blanks [] = Some []
  behind_blanks (b ∷ t) = if is_white b then behind_blanks t
      else if b == 47 then behind_comment t else if b == 35 then behind_line t else Some (b ∷ t)

  -- inside a comment that a slash ends
  pub behind_comment : List ℕ → Option (List ℕ)
  behind_comment [] = None
  behind_comment (b ∷ t) = if b == 47 then behind_blanks t else behind_comment t

  -- inside a comment that a line feed ends, or the end of the text
  pub behind_line : List ℕ → Option (List ℕ)
  behind_line [] = Some []
  behind_line (b ∷ t) = if b == 10 then behind_blanks t else behind_line t

-- ---- numbers (RFC 8949, section 8; RFC 8610, appendix B, `uint`)

-- the value of a digit of this base
abbrev pub digit_of : ℕ → ℕ → Option ℕ
digit_of base b = if nat_lt (digit_value b) base then Some (digit_value b) else None

-- the number whose digits are those of n and then those at the front, and what follows them
abbrev pub digits_behind : ℕ → ℕ → List ℕ → ℕ × List ℕ
digits_behind base n [] = (n, [])
digits_behind base n (b ∷ t) = elim (digit_of base b)
    [ None ↦ (n, b ∷ t) | Some d ↦ digits_behind base (n * base + d) t ]

-- the number of one digit at least
abbrev pub digits_at : ℕ → List ℕ → Option (ℕ × List ℕ)
digits_at base [] = None
digits_at base (b ∷ t) = elim (digit_of base b)
    [ None ↦ None | Some d ↦ Some (digits_behind base 0 (b ∷ t)) ]

-- a decimal number, which begins with zero only where it is zero
abbrev pub decimal_at : List ℕ → Option (ℕ × List ℕ)
decimal_at [] = None
decimal_at (b ∷ t) = if b == 48 then Some (0, t) else digits_at 10 (b ∷ t)

-- a number in hex behind `0x`, in octal behind `0o`, in binary behind `0b`, or else in decimal
abbrev pub unsigned_at : List ℕ → Option (ℕ × List ℕ)
unsigned_at t = elim (behind (codes "0x") t) [
  | Some r ↦ digits_at 16 r
  | None ↦ elim (behind (codes "0o") t) [
    | Some r ↦ digits_at 8 r
    | None ↦ elim (behind (codes "0b") t)
        [ Some r ↦ digits_at 2 r | None ↦ decimal_at t ]
  ]
]

-- what begins a fraction or an exponent, which make a number a float
abbrev pub begins_float : List ℕ → Bool
begins_float [] = false
begins_float (b ∷ t) = b == 46 || b == 101 || b == 69

-- a number that is no float
abbrev pub whole_at : List ℕ → Option (ℕ × List ℕ)
whole_at t = elim (unsigned_at t)
    [ None ↦ None | Some p ↦ if begins_float p.1 then None else Some p ]

-- minus n
abbrev pub negated : ℕ → ℤ
negated zero = pos 0
negated (suc n) = negsuc n

-- a number behind a minus, down to -2^127
abbrev pub minus_token : Option (ℕ × List ℕ) → Option (Token × List ℕ)
minus_token None = None
minus_token (Some p) = if nat_le p.0 (2 ^ 127) then Some (leaf (number_tree (negated p.0)), p.1) else None

-- a number below 2^128, or that of a tag, below 2^64, where a parenthesis stands right behind it
-- (RFC 8949, section 3.4)
abbrev pub plus_token : Option (ℕ × List ℕ) → Option (Token × List ℕ)
plus_token None = None
plus_token (Some p) = elim (behind (codes "(") p.1) [
  | Some r ↦ if nat_lt p.0 (2 ^ 64) then Some (begin_tag p.0, r) else None
  | None ↦ if nat_lt p.0 (2 ^ 128) then Some (leaf (number_tree (pos p.0)), p.1) else None
]

abbrev pub number_token : List ℕ → Option (Token × List ℕ)
number_token t = elim (behind (codes "-") t)
    [ Some r ↦ minus_token (whole_at r) | None ↦ plus_token (whole_at t) ]

-- ---- byte strings (RFC 8949, section 8; RFC 4648), with white space anywhere between their digits

-- the bytes of the hex digits up to an apostrophe, where a first digit of a byte may wait
abbrev pub hex_at : Option ℕ → List ℕ → Option (List ℕ × List ℕ)
hex_at waiting [] = None
hex_at waiting (b ∷ t) =
    if is_white b then hex_at waiting t
    else elim (digit_of 16 b) [
      | Some d ↦ elim waiting [
        | None ↦ hex_at (Some d) t
        | Some high ↦ prepended ((high * 16 + d) ∷ []) (hex_at None t)
      ]
      | None ↦ elim waiting
          [ None ↦ if b == 39 then Some ([], t) else None | Some high ↦ None ]
    ]

-- the six bits of a character of base64, in either alphabet (RFC 4648, sections 4 and 5)
abbrev pub sextet_of : ℕ → Option ℕ
sextet_of b = if nat_le 65 b && nat_le b 90 then Some (b - 65)
    else if nat_le 97 b && nat_le b 122 then Some (b - 71) else if nat_le 48 b && nat_le b 57 then Some (b + 4)
    else if b == 43 || b == 45 then Some 62 else if b == 47 || b == 95 then Some 63 else None

-- what follows the end of base64, behind so many characters of a group of four whose last bits are
-- these and have to be zero: an apostrophe, with the padding before it or without (RFC 4648,
-- section 3.2)
abbrev pub base64_end : ℕ → ℕ → List ℕ → Option (List ℕ)
base64_end count bits t =
    if count == 1 || nat_lt 0 bits then None
    else elim (behind (codes "'") t) [
      | Some r ↦ Some r
      | None ↦ if count == 2 then behind (codes "=='") t
          else if count == 3 then behind (codes "='") t
          else None
    ]

-- the bytes of base64 up to an apostrophe, where so many characters of a group of four were read,
-- whose bits that are in no byte yet are the number `bits`
abbrev pub base64_at : ℕ → ℕ → List ℕ → Option (List ℕ × List ℕ)
base64_at count bits [] = None
base64_at count bits (b ∷ t) =
    if is_white b then base64_at count bits t
    else elim (sextet_of b) [
      | Some d ↦
          if count == 0 then base64_at 1 d t
          else if count == 1 then prepended ((bits * 4 + d / 16) ∷ []) (base64_at 2 (d % 16) t)
          else if count == 2 then prepended ((bits * 16 + d / 4) ∷ []) (base64_at 3 (d % 4) t)
          else prepended ((bits * 64 + d) ∷ []) (base64_at 0 0 t)
      | None ↦ option_map (λ r. ([], r)) (base64_end count bits (b ∷ t))
    ]

-- ---- texts, as JSON writes them (RFC 8949, section 8; RFC 8259, section 7)

-- what a letter behind a backslash stands for
abbrev pub letter_escape : ℕ → Option ℕ
letter_escape b = if b == 34 then Some 34
    else if b == 92 then Some 92 else if b == 47 then Some 47 else if b == 98 then Some 8 else if b == 102 then Some 12
    else if b == 110 then Some 10 else if b == 114 then Some 13 else if b == 116 then Some 9 else None

-- one more hex digit behind those of a number
abbrev pub one_digit_more : Option ℕ → ℕ → Option ℕ
one_digit_more found b = elim found [
  | None ↦ None
  | Some n ↦ elim (digit_of 16 b)
      [ None ↦ None | Some d ↦ Some (n * 16 + d) ]
]

-- the number of four hex digits
abbrev pub unit_of : ℕ → ℕ → ℕ → ℕ → Option ℕ
unit_of a b c d = one_digit_more (one_digit_more (one_digit_more (one_digit_more (Some 0) a) b) c) d

-- the same at the front, and what follows it
abbrev pub unit_in : List ℕ → Option (ℕ × List ℕ)
unit_in (a ∷ b ∷ c ∷ d ∷ t) = option_map (λ n. (n, t)) (unit_of a b c d)
unit_in _ = None

-- the first unit of a surrogate pair, and the second one
abbrev pub is_high : ℕ → Bool
is_high n = nat_le 55296 n && nat_lt n 56320

abbrev pub is_low : ℕ → Bool
is_low n = nat_le 56320 n && nat_lt n 57344

-- the character of a surrogate pair
abbrev pub paired : ℕ → ℕ → ℕ
paired high low = 65536 + (high - 55296) * 1024 + (low - 56320)

abbrev mutual
  -- the bytes of a text up to its quotation mark, and what follows that
  pub text_at : List ℕ → Option (List ℕ × List ℕ)
  text_at [] = None
  text_at (b ∷ t) = if b == 34 then Some ([], t)
      else if b == 92 then escape_at t else if nat_lt b 32 then None else prepended (b ∷ []) (text_at t)

  -- the same behind a backslash
  pub escape_at : List ℕ → Option (List ℕ × List ℕ)
  escape_at [] = None
  escape_at (b ∷ t) =
      if b == 117 then unit_at t
      else elim (letter_escape b) [ None ↦ None | Some c ↦ prepended (c ∷ []) (text_at t) ]

  -- the same behind `\u`
  pub unit_at : List ℕ → Option (List ℕ × List ℕ)
  unit_at (a ∷ b ∷ c ∷ d ∷ t) = elim (unit_of a b c d) [
    | None ↦ None
    | Some n ↦ if is_high n then low_at n t
        else if is_low n then None
        else prepended (encode_utf8 n) (text_at t)
  ]
  unit_at _ = None

  -- the same behind the first unit of a surrogate pair
  pub low_at : ℕ → List ℕ → Option (List ℕ × List ℕ)
  low_at high (x ∷ y ∷ t) = if x == 92 && y == 117 then low_unit_at high t else None
  low_at high _ = None

  pub low_unit_at : ℕ → List ℕ → Option (List ℕ × List ℕ)
  low_unit_at high (a ∷ b ∷ c ∷ d ∷ t) = elim (unit_of a b c d) [
    | None ↦ None
    | Some n ↦ if is_low n then prepended (encode_utf8 (paired high n)) (text_at t) else None
  ]
  low_unit_at high _ = None

-- ---- tokens

-- a text, where its bytes are UTF-8
abbrev pub text_token : Option (List ℕ × List ℕ) → Option (Token × List ℕ)
text_token None = None
text_token (Some p) = if is_utf8 p.0 then Some (leaf (trees.text p.0), p.1) else None

-- `true`, `false`, `null` and `undefined`, which is as null
abbrev pub word_token : List ℕ → Option (Token × List ℕ)
word_token t = elim (behind (codes "true") t) [
  | Some r ↦ Some (leaf (trees.boolean true), r)
  | None ↦ elim (behind (codes "false") t) [
    | Some r ↦ Some (leaf (trees.boolean false), r)
    | None ↦ elim (behind (codes "null") t) [
      | Some r ↦ Some (leaf trees.null, r)
      | None ↦ option_map (λ r. (leaf trees.null, r)) (behind (codes "undefined") t)
    ]
  ]
]

-- a byte string in base16 or base64, or a word
abbrev pub letter_token : List ℕ → Option (Token × List ℕ)
letter_token t = elim (behind (codes "h'") t) [
  | Some r ↦ token_of trees.bytes (hex_at None r)
  | None ↦ elim (behind (codes "b64'") t)
      [ Some r ↦ token_of trees.bytes (base64_at 0 0 r) | None ↦ word_token t ]
]

-- a bracket, a parenthesis, a comma or a colon
abbrev pub mark_of : ℕ → Option Token
mark_of b = if b == 91 then Some begin_array
    else if b == 93 then Some end_array else if b == 123 then Some begin_map else if b == 125 then Some end_map
    else if b == 41 then Some end_tag else if b == 44 then Some comma else if b == 58 then Some colon else None

-- the token at the front, where no blank stands, and what follows it
abbrev pub token_at : List ℕ → Option (Token × List ℕ)
token_at [] = None
token_at (b ∷ t) =
    if b == 34 then text_token (text_at t)
    else if b == 45 || (nat_le 48 b && nat_le b 57) then number_token (b ∷ t)
    else elim (mark_of b) [ Some k ↦ Some (k, t) | None ↦ letter_token (b ∷ t) ]
