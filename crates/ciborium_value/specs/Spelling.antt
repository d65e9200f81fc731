-- The spellings that a value is read by, and what each accepts: any (RFC 8949, section 3), and the
-- deterministic one by each order of keys (sections 4.1 and 4.2).
use Rattle.std.specs.Prelude.{◌≡◌, ℕ, ◌+◌, ◌/◌, ◌%◌, ◌≤◌, ◌⊎◌, List, [], ◌∷◌, length, Bool, if◌then◌else◌, ◌==◌, ◌&&◌}
use Rattle.std.specs.Prelude.{nat_lt, nat_le, Option, Some, None}
use Rattle.ciborium_ll.specs.{Bytes.greatest_offset, Head.shortest_head, Item.Item, Refusal.{argument_length, argument}}
use Rattle.ciborium_ll.specs.{Spells.Spells, declared.kind.Kind.{Kind, TheVariants.{NotShortest, Open}}}
use Rattle.ciborium_value.specs.{Deterministic.{AreRising, HasRisingKeys}, Encoding.encoding, Meaning.meaning}
use Rattle.ciborium_value.specs.{Nesting.{Limit, IsWithin, nesting}, Tree.Tree, declared.key_order.KeyOrder.KeyOrder}

pub data Spelling : Type 0 where
  any : Spelling
  deterministic : KeyOrder → Spelling

-- what a spelling asks of bytes that mean v: any, nothing; the deterministic one, that they are the
-- one shortest definite encoding of v, and that in each map of v the keys rise
abbrev pub IsSpelledSo : Spelling → List ℕ → Tree → Type 0
IsSpelledSo any s v = Unit {0}
IsSpelledSo (deterministic order) s v = (s ≡ encoding v) × HasRisingKeys order v

-- the bytes s, whose first is at offset p, are read as v within the limit: they spell an item that
-- means v, nests within the limit and ends within the greatest offset, as the spelling asks
abbrev pub IsReadAs : Spelling → List ℕ → ℕ → Limit → Tree → Type 0
IsReadAs spelling s p l v = (i : Item) × Spells s i × (meaning i ≡ Some v) ×
    IsWithin l (nesting i) × (p + length s ≤ greatest_offset) × IsSpelledSo spelling s v

-- ---- what the deterministic spelling refuses besides

-- the argument behind an initial byte has more bytes than it needs (section 4.1)
abbrev pub is_long : ℕ → ℕ → List ℕ → Bool
is_long major info b = nat_lt info 28 &&
    nat_lt (length (shortest_head major (argument info b))) (1 + argument_length info)

-- why a usable head is not accepted: it is of indefinite length (sections 3.2 and 4.2.1), or not
-- the shortest (section 4.1); undefined is read as null, which is f6 at its shortest
abbrev pub deterministic_fault : ℕ → ℕ → List ℕ → Option Kind
deterministic_fault major info b = if nat_le 2 major && nat_le major 5 && (info == 31) then Some Open
    else if nat_lt major 7 && is_long major info b then Some NotShortest
    else if (major == 7) && (info == 23) then Some NotShortest else None

-- the same of the head at the front in a spelling, or None where it accepts the head
abbrev pub spelling_fault : Spelling → List ℕ → Option Kind
spelling_fault any b = None
spelling_fault (deterministic order) [] = None
spelling_fault (deterministic order) (x ∷ b) = deterministic_fault (x / 32) (x % 32) b

-- a folding tag's bytes could be written shorter: as an integer of 64 bits, or with a zero less
-- (section 3.4.3)
abbrev pub IsShortenable : List ℕ → Type 0
IsShortenable payload = (length payload ≤ 8) ⊎ ((s : List ℕ) × (payload ≡ 0 ∷ s))

-- a bignum of these bytes is not accepted
abbrev pub IsUnwanted : Spelling → List ℕ → Type 0
IsUnwanted any payload = ⊥
IsUnwanted (deterministic order) payload = IsShortenable payload

abbrev mutual
  -- the keys among keys and values in turn, a key first
  pub keys_in : List Tree → List Tree
  keys_in [] = []
  keys_in (k ∷ vs) = k ∷ keys_behind vs

  -- a value first
  pub keys_behind : List Tree → List Tree
  keys_behind [] = []
  keys_behind (v ∷ vs) = keys_in vs

-- the keys of a map stand in an order that is accepted (section 4.2.1, or 4.2.3)
abbrev pub AreInOrder : Spelling → List Tree → Type 0
AreInOrder any ks = Unit {0}
AreInOrder (deterministic order) ks = AreRising order ks
