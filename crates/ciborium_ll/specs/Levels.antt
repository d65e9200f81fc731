-- What is still to come of an item that is read head by head, and how each head changes it (RFC
-- 8949, sections 3.2 and 5.3.1, and appendix C).
use Rattle.std.specs.Prelude.{◌≡◌, ℕ, zero, suc, ◌+◌, List, [], ◌∷◌, ◌++◌, length, Option, Some, None, option_map}
use Rattle.ciborium_ll.specs.{Head.break_byte, Item.{Item, items_count}, Spells.{AreChunks, Spells, SpellsItems}}
use Rattle.ciborium_ll.specs.{Spells.SpellsPairs, StringRefusal.{IsAllowed, string_major}}
use Rattle.ciborium_ll.specs.declared.{header.Header.Header, levels.Level.{Level, TheVariants.{Items, OpenItems}}}
use Rattle.ciborium_ll.specs.declared.levels.Level.TheVariants.{OpenKeys, OpenValues, ByteChunks, TextChunks}
use Rattle.ciborium_ll.specs.declared.{levels.Step.Step, strings.StringType.StringType}
use Rattle.ciborium_ll.specs.declared.header.Header.TheVariants as header
use Rattle.ciborium_ll.specs.declared.levels.Step.TheVariants as step
use Rattle.ciborium_ll.specs.Item as item

-- ---- what completes an item

-- pairs and the break behind them
abbrev pub EndsPairs : List ℕ → Type 0
EndsPairs b = (ps : item.Pairs) × (r : List ℕ) × SpellsPairs r ps × (b ≡ r ++ (break_byte ∷ []))

-- chunks of a string and the break behind them
abbrev pub EndsChunks : StringType → List ℕ → Type 0
EndsChunks type b = (payloads : List (List ℕ)) × (r : List ℕ) ×
    AreChunks (string_major type) (IsAllowed type) r payloads × (b ≡ r ++ (break_byte ∷ []))

-- b are the bytes that end a level
abbrev pub Ends : Level → List ℕ → Type 0
Ends (Items n) b = (is : item.Items) × (items_count is ≡ n) × SpellsItems b is
Ends OpenItems b = (is : item.Items) × (r : List ℕ) × SpellsItems r is × (b ≡ r ++ (break_byte ∷ []))
Ends OpenKeys b = EndsPairs b
Ends OpenValues b = (v : Item) × (s : List ℕ) × (r : List ℕ) × Spells s v × EndsPairs r × (b ≡ s ++ r)
Ends ByteChunks b = EndsChunks StringType.Bytes b
Ends TextChunks b = EndsChunks StringType.Text b

-- b are the bytes that end these levels, the innermost first
abbrev pub EndAll : List Level → List ℕ → Type 0
EndAll [] b = b ≡ []
EndAll (level ∷ levels) b = (s : List ℕ) × (r : List ℕ) × Ends level s × EndAll levels r × (b ≡ s ++ r)

-- some bytes spell an item
abbrev pub AreItem : List ℕ → Type 0
AreItem b = (i : Item) × Spells b i

-- behind the bytes c these levels are left: what ends them completes an item, and nothing else does
pub record AreLeftBehind (c : List ℕ) (levels : List Level) : Type 0 where
  pub complete : (b : List ℕ) → EndAll levels b → AreItem (c ++ b)
  pub only : (b : List ℕ) → AreItem (c ++ b) → EndAll levels b

-- ---- heads

-- the levels that are left where an item stands in the innermost, or None where none may
abbrev pub behind_item : List Level → Option (List Level)
behind_item [] = None
behind_item (Items zero ∷ levels) = None
behind_item (Items (suc n) ∷ levels) = Some (Items n ∷ levels)
behind_item (OpenItems ∷ levels) = Some (OpenItems ∷ levels)
behind_item (OpenKeys ∷ levels) = Some (OpenValues ∷ levels)
behind_item (OpenValues ∷ levels) = Some (OpenKeys ∷ levels)
behind_item (ByteChunks ∷ levels) = None
behind_item (TextChunks ∷ levels) = None

-- the levels behind the head of an item that enters this level
abbrev pub entered : Level → List Level → Option (List Level)
entered level levels = option_map (λ rest. level ∷ rest) (behind_item levels)

-- the levels behind a definite byte string, which may be a chunk of an open one
abbrev pub behind_bytes : List Level → Option (List Level)
behind_bytes (ByteChunks ∷ levels) = Some (ByteChunks ∷ levels)
behind_bytes levels = behind_item levels

abbrev pub behind_text : List Level → Option (List Level)
behind_text (TextChunks ∷ levels) = Some (TextChunks ∷ levels)
behind_text levels = behind_item levels

-- the levels behind a break, or None where none may stand
abbrev pub behind_break : List Level → Option (List Level)
behind_break [] = None
behind_break (Items n ∷ levels) = None
behind_break (OpenItems ∷ levels) = Some levels
behind_break (OpenKeys ∷ levels) = Some levels
behind_break (OpenValues ∷ levels) = None
behind_break (ByteChunks ∷ levels) = Some levels
behind_break (TextChunks ∷ levels) = Some levels

-- the levels behind a head, and the payload of a definite string, or None where the head may not
-- stand in the innermost
abbrev pub behind_head : Header → List Level → Option (List Level)
behind_head (header.Positive n) levels = behind_item levels
behind_head (header.Negative n) levels = behind_item levels
behind_head (header.Bytes (Some n)) levels = behind_bytes levels
behind_head (header.Bytes None) levels = entered ByteChunks levels
behind_head (header.Text (Some n)) levels = behind_text levels
behind_head (header.Text None) levels = entered TextChunks levels
behind_head (header.Array (Some n)) levels = entered (Items n) levels
behind_head (header.Array None) levels = entered OpenItems levels
behind_head (header.Map (Some n)) levels = entered (Items (n + n)) levels
behind_head (header.Map None) levels = entered OpenKeys levels
behind_head (header.Tag n) levels = entered (Items 1) levels
behind_head (header.Simple n) levels = behind_item levels
behind_head (header.Float size) levels = behind_item levels
behind_head header.Break levels = behind_break levels

-- the levels behind a step, of which these are unfinished around the innermost before it
abbrev pub levels_by : Step → List Level → Option (List Level)
levels_by (step.Within level) levels = Some (level ∷ levels)
levels_by (step.Enters level inner) levels = Some (inner ∷ level ∷ levels)
levels_by step.Ends levels = Some levels
levels_by step.Misplaced levels = None

-- the levels that are not complete
abbrev pub incomplete : List Level → List Level
incomplete [] = []
incomplete (Items zero ∷ levels) = incomplete levels
incomplete (level ∷ levels) = level ∷ levels

-- what a head's string may hold, where it is one of definite length: anything else has no payload
abbrev pub IsPayloadOf : Header → List ℕ → Type 0
IsPayloadOf (header.Bytes (Some n)) payload = (length payload ≡ n) × IsAllowed StringType.Bytes payload
IsPayloadOf (header.Text (Some n)) payload = (length payload ≡ n) × IsAllowed StringType.Text payload
IsPayloadOf _ payload = payload ≡ []
