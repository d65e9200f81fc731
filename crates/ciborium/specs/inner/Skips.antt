-- Tags that are skipped before an item (RFC 8949, section 3.4), and containers that are entered
-- behind them.
use Rattle.std.specs.Prelude.{◌≡◌, ℕ, Bool, true, List, [], ◌∷◌, ◌++◌, MatchBool, false}
use Rattle.ciborium_ll.specs.{declared.header.Header.Header, Header.SpellsHeader, Item.{Item, tag}, Spells.Spells}
use Rattle.ciborium_value.specs.{Ahead.{Span, inside}, Meaning.is_bignum_tag, Nesting.Limit, Given.{Steps, Given}}
use Rattle.ciborium_value.specs.Given.{gives, outcome}
use Rattle.ciborium.specs.inner.Unread.{AreLeft, ending}
use Rattle.ciborium_ll.specs.declared.header.Header.TheVariants as header

-- an item under tags, the innermost first
abbrev pub under : List ℕ → Item → Item
under [] i = i
under (t ∷ ts) i = under ts (tag t i)

-- a tag that is skipped: where numbers are wanted, those of bignums are not
abbrev pub IsSkipped : Bool → ℕ → Type 0
IsSkipped numbers t = numbers ≡ true → is_bignum_tag t ≡ false

abbrev pub AreSkipped : Bool → List ℕ → Type 0
AreSkipped numbers [] = Unit {0}
AreSkipped numbers (t ∷ ts) = IsSkipped numbers t × AreSkipped numbers ts

-- the answer whether a tag is one at which skipping ends
abbrev pub IsEndTag : Bool → ℕ → Bool → Type 0
IsEndTag numbers t answer = MatchBool answer ((numbers ≡ true) × (is_bignum_tag t ≡ true)) (IsSkipped numbers t)

-- a head that is not skipped and begins an item
abbrev pub IsBare : Bool → Header → Type 0
IsBare numbers (header.Tag t) = (numbers ≡ true) × (is_bignum_tag t ≡ true)
IsBare numbers header.Break = ⊥
IsBare numbers _ = Unit {0}

-- b begins with the heads of these tags, and u follows them: an item at u makes one at b and the
-- other way round, with the same end
pub record IsTagged (ts b u : List ℕ) : Type 0 where
  pub outward : (i : Item) (s z : List ℕ) → Spells s i → u ≡ s ++ z → (t : List ℕ) ×
      Spells t (under ts i) × (b ≡ t ++ z)
  pub inward : (j : Item) (t z : List ℕ) → Spells t j → b ≡ t ++ z → (i : Item) × (s : List ℕ) ×
      (j ≡ under ts i) × Spells s i × (u ≡ s ++ z)

-- u stands inside what b begins with: an item at u makes one at b and the other way round, with the
-- same end, and of that one v and the item
-- at u are taken
pub record Leads {A : Type 0} (l : Limit) (taken : Given (A × Item)) (v : A) (b u : List ℕ) : Type 0
  where
    pub outward : (i : Item) (s z : List ℕ) → Spells s i → u ≡ s ++ z → (j : Item) × (t : List ℕ) ×
        Spells t j × (b ≡ t ++ z)
    pub inward : (j : Item) (t z : List ℕ) → Spells t j → b ≡ t ++ z → (i : Item) × (s : List ℕ) ×
        (outcome l (taken j) ≡ gives (v, i)) × Spells s i × (u ≡ s ++ z)

module _ {S : Type 0} (IsUnread : S → List ℕ → Type 0) where
  -- tags were skipped
  abbrev pub Skips : S → S → Bool → Type 0
  Skips old new numbers = (b : List ℕ) → IsUnread old b → (ts : List ℕ) × (u : List ℕ) ×
      IsTagged ts b u × AreSkipped numbers ts × IsUnread new u

  -- tags were skipped, and the head behind them was taken
  abbrev pub TakesBare : S → S → Bool → Header → Type 0
  TakesBare old new numbers h = (b : List ℕ) → IsUnread old b → (ts : List ℕ) × (u : List ℕ) × (x : List ℕ) ×
      (y : List ℕ) × IsTagged ts b u × AreSkipped numbers ts × SpellsHeader x h × (u ≡ x ++ y) × IsUnread new y

  -- a container was entered: what is owed is known, and which parts it has, of which f is taken
  abbrev pub EntersUnread : {Q X A : Type 0} → (Q → List ℕ → List ℕ → Type 0) → (List ℕ → X → Type 0) →
      (Q → Span → List X → Type 0) → S → S → Limit → Limit → Given A → (Span → List X → Steps A) → Q → Type 0
  EntersUnread {X = X} Owes SpellsPart Holds old new l below taken f q = (b : List ℕ) → IsUnread old b →
      (u : List ℕ) × IsUnread new u × Owes q b u × ((j : Item) (t z : List ℕ) → Spells t j → b ≡ t ++ z →
      (span : Span) × (xs : List X) × (c : List ℕ) × (outcome l (taken j) ≡ outcome (inside span l) (f span xs)) ×
      (inside span l ≡ below) × AreLeft SpellsPart span c xs × (u ≡ c ++ (ending span ++ z)) × Holds q span xs)

  -- a tag or a variant was entered, and its content is ahead
  abbrev pub EntersLevelUnread : {A : Type 0} → S → S → Limit → Given (A × Item) → A → Type 0
  EntersLevelUnread old new l taken v = (b : List ℕ) → IsUnread old b → (u : List ℕ) ×
      IsUnread new u × Leads l taken v b u
