-- The heads of data items: an initial byte, and the bytes of an argument that does not stand in it
-- (RFC 8949, section 3).
use Rattle.std.specs.Prelude.{◌≡◌, ℕ, ◌+◌, ◌*◌, ◌^◌, ◌<◌, ◌≤◌, ◌⊎◌, List, [], ◌∷◌, length, if◌then◌else◌, nat_lt}
use Rattle.std.specs.Int.{to_be_bytes, w16, w32, w64}

-- where the argument stands: within the initial byte, or in the bytes after it
pub data Width : Type 0 where
  within : Width
  one_byte : Width
  two_bytes : Width
  four_bytes : Width
  eight_bytes : Width

-- a width holds the arguments below its capacity
abbrev pub capacity : Width → ℕ
capacity within = 24
capacity one_byte = 2 ^ 8
capacity two_bytes = 2 ^ 16
capacity four_bytes = 2 ^ 32
capacity eight_bytes = 2 ^ 64

-- the additional information: the argument itself, or how many bytes follow
abbrev pub information : Width → ℕ → ℕ
information within n = n
information one_byte n = 24
information two_bytes n = 25
information four_bytes n = 26
information eight_bytes n = 27

-- the bytes after the initial byte, the most significant first; std's `w16` stands for 2 bytes
abbrev pub argument_bytes : Width → ℕ → List ℕ
argument_bytes within n = []
argument_bytes one_byte n = n ∷ []
argument_bytes two_bytes n = to_be_bytes w16 n
argument_bytes four_bytes n = to_be_bytes w32 n
argument_bytes eight_bytes n = to_be_bytes w64 n

-- the major type in the high three bits, the additional information in the low five
abbrev pub initial_byte : ℕ → ℕ → ℕ
initial_byte major info = major * 32 + info

-- the head of a major type with argument n in a width
abbrev pub head_in : Width → ℕ → ℕ → List ℕ
head_in w major n = initial_byte major (information w n) ∷ argument_bytes w n

-- b is one of the at most five heads of a major type with argument n
abbrev pub IsHead : List ℕ → ℕ → ℕ → Type 0
IsHead b major n = (w : Width) × (n < capacity w) × (b ≡ head_in w major n)

-- the initial byte of a string, array or map of indefinite length (section 3.2), called open here
abbrev pub open_byte : ℕ → ℕ
open_byte major = initial_byte major 31

-- the "break" that ends an open item (section 3.2.1)
abbrev pub break_byte : ℕ
break_byte = 0xff

-- b is the head of the simple value n, in one byte or in two (section 3.3)
abbrev pub IsSimple : List ℕ → ℕ → Type 0
IsSimple b n = ((n < 24) × (b ≡ initial_byte 7 n ∷ [])) ⊎ ((32 ≤ n) × (n < 256) × (b ≡ 0xf8 ∷ n ∷ []))

-- b is a float of 2, 4 or 8 raw bytes, which belong to its head (section 3.3)
abbrev pub IsFloat : List ℕ → List ℕ → Type 0
IsFloat b raw = ((length raw ≡ 2) × (b ≡ 0xf9 ∷ raw)) ⊎ ((length raw ≡ 4) × (b ≡ 0xfa ∷ raw)) ⊎
    ((length raw ≡ 8) × (b ≡ 0xfb ∷ raw))

-- ---- the shortest heads

-- the narrowest width that holds n
abbrev pub narrowest : ℕ → Width
narrowest n = if nat_lt n 24 then within else if nat_lt n (2 ^ 8) then one_byte
    else if nat_lt n (2 ^ 16) then two_bytes else if nat_lt n (2 ^ 32) then four_bytes else eight_bytes

-- the head in preferred serialization (section 4.1)
unfoldable pub shortest_head : ℕ → ℕ → List ℕ
shortest_head major n = head_in (narrowest n) major n

-- the head of a simple value, in one byte where it can be
abbrev pub simple_bytes : ℕ → List ℕ
simple_bytes n = if nat_lt n 24 then initial_byte 7 n ∷ [] else 0xf8 ∷ n ∷ []
