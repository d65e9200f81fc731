-- Why bytes are refused, and when no usable head stands at their front (RFC 8949, sections 3 and
-- 3.3, and appendix F).
use Rattle.std.specs.Prelude.{◌≡◌, ℕ, ◌+◌, ◌/◌, ◌%◌, List, [], ◌∷◌, ◌++◌, length, Bool, false, if◌then◌else◌, ◌==◌}
use Rattle.std.specs.{Prelude.{◌&&◌, ◌||◌, nat_lt, nat_le, slice_index, take, Option, Some, None}, Int.from_be_bytes}
use Rattle.std.specs.Int.{w16, w32, w64}
use Rattle.ciborium_ll.specs.{Bytes.greatest_offset, Head.IsHead, declared.kind.Kind.Kind}

-- why bytes are refused; numbers are offsets
pub data Refusal : Type 0 where
  -- the bytes end where a head, or more of one or of a payload, is due
  io : Refusal
  -- what stands here spells no head, no text, or no chunk of the open string that it stands in
  syntax : ℕ → Refusal
  -- the next bytes would take the offset past the greatest
  too_long : Refusal
  -- the item that begins here, or a break, has no meaning, or not in this spelling, for this reason
  semantic : ℕ → Kind → Refusal
  -- an array, a map or a tag that does not fold stands where no level is left
  recursion_limit_exceeded : Refusal

-- how many bytes follow an initial byte with this additional information, as its argument or as a
-- float
abbrev pub argument_length : ℕ → ℕ
argument_length info = if info == 24 then 1 else if info == 25 then 2 else if info == 26 then 4 else
    if info == 27 then 8 else 0

-- additional information that the major type has not: 28 to 30, and 31 for numbers and tags
abbrev pub is_reserved : ℕ → ℕ → Bool
is_reserved major info = (nat_le 28 info && nat_le info 30) ||
    ((info == 31) && ((major == 0) || (major == 1) || (major == 6)))

-- f8 before a byte below 32
abbrev pub is_low_simple : ℕ → List ℕ → Bool
is_low_simple first [] = false
is_low_simple first (second ∷ b) = (first == 0xf8) && nat_lt second 32

-- the argument that additional information below 28 and the bytes behind the initial byte give
abbrev pub argument : ℕ → List ℕ → ℕ
argument info b = if nat_lt info 24 then info
    else if info == 24 then slice_index b 0 else if info == 25 then from_be_bytes w16 (take 2 b)
    else if info == 26 then from_be_bytes w32 (take 4 b) else from_be_bytes w64 (take 8 b)

-- the length of the payload that a definite string's head announces, and 0 for another head
abbrev pub payload_length : ℕ → ℕ → List ℕ → ℕ
payload_length major info b = if ((major == 2) || (major == 3)) && nat_lt info 28 then argument info b else 0

-- the first reason why the head whose initial byte, at offset p, has this major type and additional
-- information is not usable
abbrev pub initial_refusal : ℕ → ℕ → List ℕ → ℕ → Option Refusal
initial_refusal major info b p = if is_reserved major info then Some (syntax p)
    else if nat_lt greatest_offset (p + 1 + argument_length info) then Some too_long
    else if nat_lt (length b) (argument_length info) then Some io
    else if nat_lt greatest_offset (p + 1 + argument_length info + payload_length major info b) then
    Some too_long else None

-- why no usable head stands at the front of the bytes, whose first is at offset p, or None where
-- one does; f8 is judged by its second byte only where that may be read
abbrev pub head_refusal : List ℕ → ℕ → Option Refusal
head_refusal [] p = if nat_lt p greatest_offset then Some io else Some too_long
head_refusal (x ∷ b) p =
    if nat_lt p greatest_offset then (if nat_lt (p + 1) greatest_offset && is_low_simple x b then Some (syntax p) else
    initial_refusal (x / 32) (x % 32) b p) else Some too_long

-- the front is refused for its head
abbrev pub HeadRefuses : List ℕ → ℕ → Refusal → Type 0
HeadRefuses b p e = head_refusal b p ≡ Some e

-- a usable head, or break, stands at the front
abbrev pub IsUsable : List ℕ → ℕ → Type 0
IsUsable b p = head_refusal b p ≡ None

-- a head of a major type with argument n, of `size` bytes, stands at the front of b, and r follows it
abbrev pub HasHead : List ℕ → ℕ → ℕ → ℕ → List ℕ → Type 0
HasHead b major n size r = (h : List ℕ) × IsHead h major n × (length h ≡ size) × (b ≡ h ++ r)

-- x stands at the front
abbrev pub IsAtFront : ℕ → List ℕ → Type 0
IsAtFront x b = (r : List ℕ) × (b ≡ x ∷ r)
