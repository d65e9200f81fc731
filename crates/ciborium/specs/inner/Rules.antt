-- What a reader in a spelling asks of a head that was pulled, and of a key that waits.
use Rattle.std.specs.Prelude.{◌≡◌, ℕ, ◌-◌, length, if◌then◌else◌, ◌==◌, Option, Some, None, List, MatchOption}
use Rattle.std.specs.declared.cmp.Ordering.TheVariants.{Less}
use Rattle.ciborium_ll.specs.{Head.shortest_head, declared.{header.Header.Header, kind.Kind.Kind}}
use Rattle.ciborium_value.specs.{declared.key_order.KeyOrder.KeyOrder, Canonical.key_order}
use Rattle.ciborium_value.specs.{Encoding.encoded_size, Spelling.{Spelling, any, deterministic}, Tree.Tree}
use Rattle.ciborium_value.specs.inner.Frames.{TreeFrame, waiting_keys}
use Rattle.ciborium_ll.specs.declared.header.Header.TheVariants as header
use Rattle.ciborium_ll.specs.declared.kind.Kind.TheVariants as kinds

-- ---- heads

-- why a head of so many bytes is no head of a deterministic encoding
abbrev pub long_fault : ℕ → ℕ → ℕ → Option Kind
long_fault major n size = if size == length (shortest_head major n) then None else Some kinds.NotShortest

abbrev pub counted_fault : ℕ → Option ℕ → ℕ → Option Kind
counted_fault major (Some n) size = long_fault major n size
counted_fault major None size = Some kinds.Open

abbrev pub header_fault : Header → ℕ → Option Kind
header_fault (header.Positive n) size = long_fault 0 n size
header_fault (header.Negative n) size = long_fault 1 n size
header_fault (header.Bytes n) size = counted_fault 2 n size
header_fault (header.Text n) size = counted_fault 3 n size
header_fault (header.Array n) size = counted_fault 4 n size
header_fault (header.Map n) size = counted_fault 5 n size
header_fault (header.Tag n) size = long_fault 6 n size
header_fault (header.Simple n) size = if n == 23 then Some kinds.NotShortest else None
header_fault (header.Float size) k = None
header_fault header.Break size = None

-- why a head of so many bytes is not accepted
abbrev pub head_fault : Spelling → Header → ℕ → Option Kind
head_fault any h size = None
head_fault (deterministic order) h size = header_fault h size

-- ---- keys in order

-- the key that waits for its value, if one does, is behind the key before it, if there is one
abbrev pub IsKeyInOrder : KeyOrder → List TreeFrame → Type 0
IsKeyInOrder order os = MatchOption (waiting_keys os) (Unit {0}) (λ keys. key_order order keys.0 keys.1 ≡ Less)

-- it is not, and its first byte is at this offset, where its last byte stands before offset r
abbrev pub IsKeyOutOfOrder : KeyOrder → List TreeFrame → ℕ → ℕ → Type 0
IsKeyOutOfOrder order os r at = (before : Tree) × (key : Tree) ×
    (waiting_keys os ≡ Some (before, key)) × ¬ (key_order order before key ≡ Less) × (at ≡ r - encoded_size key)

abbrev pub HasKeyInOrder : Spelling → List TreeFrame → Type 0
HasKeyInOrder any os = Unit {0}
HasKeyInOrder (deterministic order) os = IsKeyInOrder order os

abbrev pub HasKeyOutOfOrder : Spelling → List TreeFrame → ℕ → ℕ → Type 0
HasKeyOutOfOrder any os r at = ⊥
HasKeyOutOfOrder (deterministic order) os r at = IsKeyOutOfOrder order os r at
