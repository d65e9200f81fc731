-- What is read behind the head of a string: its payload, or the number that its bytes make.
use Rattle.std.specs.Prelude.{◌≡◌, ℕ, ◌+◌, ◌≤◌, ◌*◌, ◌^◌, List, [], ◌∷◌, ◌++◌, length, Option, Some, None}
use Rattle.std.specs.Prelude.{if◌then◌else◌, nat_lt}
use Rattle.ciborium_ll.specs.{Bytes.AreBytes, Header.SpellsHeader, Item.{Item, bytes, text}, Spells.{Spells, AreChunks}}
use Rattle.ciborium_ll.specs.{Spells.joined, declared.{header.Header.Header, strings.StringType.StringType}}
use Rattle.ciborium_value.specs.{Sources.{Fault, IsOutsideFault}, Places.is_open}
use Rattle.ciborium_ll.specs.declared.header.Header.TheVariants as header

-- the head of a string of this length (None: open)
abbrev pub head_of : StringType → Option ℕ → Header
head_of StringType.Bytes len = header.Bytes len
head_of StringType.Text len = header.Text len

-- the string with this payload
abbrev pub string_item : StringType → Option ℕ → List ℕ → Item
string_item StringType.Bytes len b = bytes (is_open len) b
string_item StringType.Text len b = text (is_open len) b

-- c, behind any head of the string, makes the string with this payload
abbrev pub IsContent : StringType → Option ℕ → List ℕ → List ℕ → Type 0
IsContent type len c payload = (x : List ℕ) → SpellsHeader x (head_of type len) →
    Spells (x ++ c) (string_item type len payload)

-- the number so far and one byte more, where 128 bits hold it
abbrev pub one_digit_more : Option ℕ → ℕ → Option ℕ
one_digit_more None b = None
one_digit_more (Some n) b = if nat_lt n (2 ^ 120) then Some (n * 256 + b) else None

abbrev pub digits_of : Option ℕ → List ℕ → Option ℕ
digits_of o [] = o
digits_of o (b ∷ bs) = digits_of (one_digit_more o b) bs

-- P holds of what was unread, and Q of what is
module _ (P Q : List ℕ → Type 0) where
  -- these bytes were taken
  abbrev pub TakesJust : List ℕ → Type 0
  TakesJust b = (y : List ℕ) → P y → (z : List ℕ) × (y ≡ b ++ z) × Q z

  -- the payload was taken
  abbrev pub TakesContent : StringType → Option ℕ → List ℕ → Type 0
  TakesContent type len payload = (y : List ℕ) → P y → (c : List ℕ) × (z : List ℕ) ×
      IsContent type len c payload × (y ≡ c ++ z) × Q z

  -- the payload was taken, and its place is this
  abbrev pub TakesPlace : {X : Type 0} → StringType → Option ℕ → (List ℕ → X) → X → Type 0
  TakesPlace type len place x = (payload : List ℕ) × TakesContent type len payload × (x ≡ place payload)

  -- n bytes were taken, which make the number start this one
  abbrev pub TakesDigits : ℕ → Option ℕ → Option ℕ → Type 0
  TakesDigits n start v = (y : List ℕ) → P y → (c : List ℕ) × (z : List ℕ) × (length c ≡ n) ×
      AreBytes c × (v ≡ digits_of start c) × (y ≡ c ++ z) × Q z

  -- the payload of a byte string was taken, which makes this number
  abbrev pub TakesNumber : Option ℕ → Option ℕ → Type 0
  TakesNumber len v = (y : List ℕ) → P y → (payload : List ℕ) × (c : List ℕ) × (z : List ℕ) ×
      IsContent StringType.Bytes len c payload × (v ≡ digits_of (Some 0) payload) × AreBytes payload × (y ≡ c ++ z) × Q
      z

  -- of an open byte string some parts were taken, which make this number
  abbrev pub TakesParts : Option ℕ → Type 0
  TakesParts v = (y : List ℕ) → P y → (ps : List (List ℕ)) × (c : List ℕ) × (z : List ℕ) ×
      AreChunks 2 AreBytes c ps × (v ≡ digits_of (Some 0) (joined ps)) × AreBytes (joined ps) × (y ≡ c ++ z) × Q z

-- where a string with this head is spelled, and what is there ends at this offset, it is refused
-- for what the string does not decide: as too long only where the string ends too far
abbrev pub DeniesContent : (List ℕ → Type 0) → ℕ → StringType → Option ℕ → Fault → Type 0
DeniesContent P all type len fault = (y x s z payload : List ℕ) (end : ℕ) → P y → SpellsHeader x (head_of type len) →
    Spells s (string_item type len payload) → x ++ y ≡ s ++ z → all ≤ end + length z → IsOutsideFault end fault

-- where n bytes are there, and m more
abbrev pub DeniesJust : (List ℕ → Type 0) → ℕ → ℕ → Fault → Type 0
DeniesJust P all n fault = (y : List ℕ) (m end : ℕ) → P y → n + m ≤ length y → all ≤ end + m → IsOutsideFault end fault
