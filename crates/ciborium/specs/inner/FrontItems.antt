-- What a call reads at the front of unread bytes: a head, or an item and what is taken from it.
use Rattle.std.specs.Prelude.{◌≡◌, ℕ, ◌+◌, ◌≤◌, List, ◌++◌, length}
use Rattle.ciborium_ll.specs.{declared.header.Header.Header, Header.{SpellsHeader, announced_length}, Item.Item}
use Rattle.ciborium_ll.specs.Spells.{Spells}
use Rattle.ciborium_value.specs.{Nesting.Limit, Sources.{Fault, IsFaultOf, IsOutsideFault}, Given.{Given, gives}}
use Rattle.ciborium_value.specs.Given.{outcome}

module _ {S : Type 0} (IsUnread : S → List ℕ → Type 0) where
  -- a head stood there, and was taken
  abbrev pub TakesHead : S → S → Header → Type 0
  TakesHead old new h = (b : List ℕ) → IsUnread old b → (x : List ℕ) × (y : List ℕ) ×
      SpellsHeader x h × (b ≡ x ++ y) × IsUnread new y

  -- an item stood there, was taken and gives this
  abbrev pub Reads : {A : Type 0} → S → S → Limit → Given A → A → Type 0
  Reads old new l taken v = (b : List ℕ) → IsUnread old b → (i : Item) × (s : List ℕ) ×
      (z : List ℕ) × Spells s i × (b ≡ s ++ z) × (outcome l (taken i) ≡ gives v) × IsUnread new z

-- what is there ends at the offset that End says, and what stands at the front at `end` or before
module _ {S : Type 0} (IsUnread : S → List ℕ → Type 0) (End : S → ℕ) where
  -- where a head stands, with its payload and n bytes more, it is refused for what no head decides
  abbrev pub DeniesHead : S → Fault → Type 0
  DeniesHead old fault = (b x y : List ℕ) (h : Header) (n end : ℕ) → IsUnread old b →
      SpellsHeader x h → b ≡ x ++ y → announced_length h + n ≤ length y → End old ≤ end + n → IsOutsideFault end fault

  -- where an item stands it is refused only where the item is, and for that
  abbrev pub Denies : {A : Type 0} → S → Limit → Given A → Fault → Type 0
  Denies old l taken fault = (b s z : List ℕ) (i : Item) (end : ℕ) → IsUnread old b → Spells s i →
      b ≡ s ++ z → End old ≤ end + length z → IsFaultOf end fault (outcome l (taken i))

  -- where an item stands it is refused for what no item decides
  abbrev pub DeniesItem : S → Fault → Type 0
  DeniesItem old fault = (b s z : List ℕ) (i : Item) (end : ℕ) → IsUnread old b → Spells s i →
      b ≡ s ++ z → End old ≤ end + length z → IsOutsideFault end fault
