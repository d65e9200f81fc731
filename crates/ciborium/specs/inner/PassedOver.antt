-- An item that is passed over head by head, within a limit of levels: what is still to come of it.
use Rattle.std.specs.Prelude.{◌≡◌, ℕ, zero, suc, ◌+◌, ◌-◌, ◌≤◌, Bool, true, false, List, [], ◌∷◌, ◌++◌, length, reverse}
use Rattle.std.specs.Prelude.{Option, Some, None, ◌↔◌}
use Rattle.ciborium_ll.specs.{Head.break_byte, Header.SpellsHeader, Item.Item, Levels.IsPayloadOf, Spells.AreChunks}
use Rattle.ciborium_ll.specs.{Spells.Spells, StringRefusal.{IsAllowed, string_major}, declared.header.Header.Header}
use Rattle.ciborium_ll.specs.declared.levels.Level.{Level, TheVariants.{Items, OpenItems, OpenKeys, OpenValues}}
use Rattle.ciborium_ll.specs.declared.{levels.Level.TheVariants.{ByteChunks, TextChunks}, strings.StringType.StringType}
use Rattle.ciborium_value.specs.{Meaning.is_bignum_tag, Nesting.{Limit, IsWithin, nesting}, Sources.Fault}
use Rattle.ciborium_value.specs.Sources.{IsOutsideFault, of_nesting}
use Rattle.ciborium.specs.declared.de.byte_source.skipping.Unfinished.{Unfinished}
use Rattle.ciborium_ll.specs.declared.header.Header.TheVariants as header

-- the levels that are left where so many are unfinished
abbrev pub left_inside : Limit → ℕ → Limit
left_inside None n = None
left_inside (Some l) n = Some (l - n)

-- a head that takes one of them: that of an array, of a map or of a tag
abbrev pub takes_one : Header → Bool
takes_one (header.Array n) = true
takes_one (header.Map n) = true
takes_one (header.Tag t) = true
takes_one _ = false

-- parts of a string and the break begin b, and z follows them
abbrev pub ChunksTo : StringType → List ℕ → List ℕ → Type 0
ChunksTo type b z = (payloads : List (List ℕ)) × (r : List ℕ) ×
    AreChunks (string_major type) (IsAllowed type) r payloads × (b ≡ r ++ (break_byte ∷ z))

module _ (l : Limit) where
  -- where n levels are unfinished, an item that nests within those that are left begins b, and z follows
  abbrev pub ItemTo : ℕ → List ℕ → List ℕ → Type 0
  ItemTo n b z = (i : Item) × (s : List ℕ) × Spells s i × (b ≡ s ++ z) × IsWithin (left_inside l n) (nesting i)

  -- so many items
  abbrev pub ItemsTo : ℕ → ℕ → List ℕ → List ℕ → Type 0
  ItemsTo n zero b z = b ≡ z
  ItemsTo n (suc k) b z = (c : List ℕ) × ItemTo n b c × ItemsTo n k c z

  -- what ends a level, around which n are unfinished
  abbrev pub LevelTo : ℕ → Level → List ℕ → List ℕ → Type 0
  LevelTo n (Items k) b z = ItemsTo n k b z
  LevelTo n OpenItems b z = (k : ℕ) × ItemsTo n k b (break_byte ∷ z)
  LevelTo n OpenKeys b z = (k : ℕ) × ItemsTo n (k + k) b (break_byte ∷ z)
  LevelTo n OpenValues b z = (k : ℕ) × ItemsTo n (suc (k + k)) b (break_byte ∷ z)
  LevelTo n ByteChunks b z = ChunksTo StringType.Bytes b z
  LevelTo n TextChunks b z = ChunksTo StringType.Text b z

  -- what ends these levels, the innermost first
  abbrev pub LevelsTo : List Level → List ℕ → List ℕ → Type 0
  LevelsTo [] b z = b ≡ z
  LevelsTo (level ∷ levels) b z = (c : List ℕ) × LevelTo (length levels) level b c × LevelsTo levels c z

  -- there is a level left for what this head enters, where one is taken for it
  abbrev pub HasRoom : Header → List Level → Type 0
  HasRoom h levels = takes_one h ≡ true → (m : ℕ) → l ≡ Some m → length levels ≤ m

-- P holds of what was unread, and Q of what is: the payload of this head was taken
abbrev pub TakesPayload : (List ℕ → Type 0) → (List ℕ → Type 0) → Header → Type 0
TakesPayload P Q h = (y : List ℕ) → P y → (p : List ℕ) × (z : List ℕ) × IsPayloadOf h p × (y ≡ p ++ z) × Q z

-- where its payload is there, and m bytes more, and what is there ends at this offset, it is
-- refused for what the payload does not decide
abbrev pub DeniesPayload : (List ℕ → Type 0) → ℕ → Header → Fault → Type 0
DeniesPayload P all h fault = (y p r : List ℕ) (m end : ℕ) → P y → IsPayloadOf h p →
    y ≡ p ++ r → m ≤ length r → all ≤ end + m → IsOutsideFault end fault

-- ---- head by head

-- a level, if there is one, and those around it
abbrev pub around_by : Option Level → List Level → List Level
around_by None levels = levels
around_by (Some level) levels = level ∷ levels

-- the levels around the innermost, and all that are unfinished, the innermost first
abbrev pub around_in : Unfinished → List Level
around_in o = around_by o.outer (reverse o.around.items)

abbrev pub levels_in : Unfinished → List Level
levels_in o = o.level ∷ around_in o

-- so many levels, or any number
abbrev pub limit_if : Bool → ℕ → Limit
limit_if false m = None
limit_if true m = Some m

-- heads were taken: what ends the levels before them ends those behind them, within m levels and
-- without a limit, and the same bytes follow
abbrev pub PassesHeads : (List ℕ → Type 0) → (List ℕ → Type 0) → ℕ → List Level → List Level → Type 0
PassesHeads P Q m old new = (y : List ℕ) → P y → (u : List ℕ) × Q u ×
    ((limited : Bool) (z : List ℕ) → LevelsTo (limit_if limited m) old y z ↔ LevelsTo (limit_if limited m) new u z)

-- refused for nesting, where it does not stand within the levels, or for what nothing decides
abbrev pub IsLevelFault : ℕ → Fault → Type 0 → Type 0
IsLevelFault end of_nesting StandsWithin = ¬ StandsWithin
IsLevelFault end fault StandsWithin = IsOutsideFault end fault

-- where something ends the levels, and what is there ends at this offset, it is refused only for
-- nesting deeper than m levels, or for what no item decides
abbrev pub DeniesLevels : (List ℕ → Type 0) → ℕ → ℕ → List Level → Fault → Type 0
DeniesLevels P all m levels fault = (y z : List ℕ) (end : ℕ) → P y → LevelsTo None levels y z →
    all ≤ end + length z → IsLevelFault end fault (LevelsTo (Some m) levels y z)

-- ---- a tag that takes no level

-- behind this head stands the head of a byte string that makes a bignum with it
abbrev pub IsBignumBehind : Header → List ℕ → Type 0
IsBignumBehind h y = (t : ℕ) × (k : ℕ) × (x : List ℕ) × (r : List ℕ) × (h ≡ header.Tag t) ×
    (is_bignum_tag t ≡ true) × SpellsHeader x (header.Bytes (Some k)) × (k ≤ 16) × (y ≡ x ++ r)

-- such a string was taken
abbrev pub TakesBignum : (List ℕ → Type 0) → (List ℕ → Type 0) → Header → Type 0
TakesBignum P Q h = (y : List ℕ) → P y → (t : ℕ) × (k : ℕ) × (x : List ℕ) × (p : List ℕ) ×
    (u : List ℕ) × (h ≡ header.Tag t) × (is_bignum_tag t ≡ true) × SpellsHeader x (header.Bytes (Some k)) ×
    (k ≤ 16) × IsPayloadOf (header.Bytes (Some k)) p × (y ≡ x ++ (p ++ u)) × Q u

-- where an item stands behind this head, if it is that of a tag, it is refused for nesting only
-- where no bignum stands there
abbrev pub DeniesBignum : (List ℕ → Type 0) → ℕ → Header → Fault → Type 0
DeniesBignum P all h fault = (y z : List ℕ) (end : ℕ) (levels : List Level) → P y →
    ((t : ℕ) → h ≡ header.Tag t → LevelsTo None (Items 1 ∷ levels) y z) → all ≤ end + length z →
    IsLevelFault end fault (IsBignumBehind h y)
