-- Which byte lists spell an item, from the first byte to the last (RFC 8949, sections 3.1 to 3.3).
use Rattle.std.specs.Prelude.{◌≡◌, ℕ, List, [], ◌∷◌, ◌++◌, length, Bool, true, false, IsUtf8}
use Rattle.ciborium_ll.specs.{Bytes.AreBytes, Head.{IsHead, open_byte, break_byte, IsSimple, IsFloat}, Item.Item}
use Rattle.ciborium_ll.specs.Item.{unsigned, negative, bytes, text, array, map, tag, simple, float, Items, no_items}
use Rattle.ciborium_ll.specs.Item.{item, Pairs, no_pairs, pair, items_count, pairs_count}

-- a definite string of a major type: a head with the payload's length, then an allowed payload
-- (section 3.1)
abbrev pub IsDefiniteString : ℕ → (List ℕ → Type 0) → List ℕ → List ℕ → Type 0
IsDefiniteString major IsAllowed b payload = (h : List ℕ) × IsHead h major (length payload) ×
    IsAllowed payload × (b ≡ h ++ payload)

-- definite strings of a major type in a row, with these payloads, each allowed by itself (section
-- 3.2.3)
abbrev pub AreChunks : ℕ → (List ℕ → Type 0) → List ℕ → List (List ℕ) → Type 0
AreChunks major IsAllowed b [] = b ≡ []
AreChunks major IsAllowed b (payload ∷ payloads) = (s : List ℕ) ×
    (r : List ℕ) × IsDefiniteString major IsAllowed s payload × AreChunks major IsAllowed r payloads × (b ≡ s ++ r)

-- lists joined in order
abbrev pub joined : List (List ℕ) → List ℕ
joined [] = []
joined (p ∷ ps) = p ++ joined ps

-- an open string of a major type: its initial byte, chunks whose payloads joined are this one, and
-- the break (section 3.2.3)
abbrev pub IsOpenString : ℕ → (List ℕ → Type 0) → List ℕ → List ℕ → Type 0
IsOpenString major IsAllowed b payload =
    (payloads : List (List ℕ)) × (r : List ℕ) × AreChunks major IsAllowed r payloads ×
    (payload ≡ joined payloads) × (b ≡ open_byte major ∷ (r ++ (break_byte ∷ [])))

-- a string of a major type, definite or open
abbrev pub IsString : Bool → ℕ → (List ℕ → Type 0) → List ℕ → List ℕ → Type 0
IsString false major IsAllowed b payload = IsDefiniteString major IsAllowed b payload
IsString true major IsAllowed b payload = IsOpenString major IsAllowed b payload

-- b is an array or map with the parts r: behind a head with their count (section 3.1), or between
-- an open initial byte and the break (section 3.2.2)
abbrev pub IsContainer : Bool → ℕ → ℕ → List ℕ → List ℕ → Type 0
IsContainer false major count b r = (h : List ℕ) × IsHead h major count × (b ≡ h ++ r)
IsContainer true major count b r = b ≡ open_byte major ∷ (r ++ (break_byte ∷ []))

abbrev mutual
  -- b spells the item
  pub Spells : List ℕ → Item → Type 0
  Spells b (unsigned n) = IsHead b 0 n
  Spells b (negative n) = IsHead b 1 n
  Spells b (bytes open_ payload) = IsString open_ 2 AreBytes b payload
  Spells b (text open_ payload) = IsString open_ 3 IsUtf8 b payload
  Spells b (array open_ is) = (r : List ℕ) × SpellsItems r is × IsContainer open_ 4 (items_count is) b r
  Spells b (map open_ ps) = (r : List ℕ) × SpellsPairs r ps × IsContainer open_ 5 (pairs_count ps) b r
  Spells b (tag n i) = (h : List ℕ) × (r : List ℕ) × IsHead h 6 n × Spells r i × (b ≡ h ++ r)
  Spells b (simple n) = IsSimple b n
  Spells b (float raw) = IsFloat b raw

  -- each item in order
  pub SpellsItems : List ℕ → Items → Type 0
  SpellsItems b no_items = b ≡ []
  SpellsItems b (item i is) = (s : List ℕ) × (r : List ℕ) × Spells s i × SpellsItems r is × (b ≡ s ++ r)

  -- each pair in order, a key before its value
  pub SpellsPairs : List ℕ → Pairs → Type 0
  SpellsPairs b no_pairs = b ≡ []
  SpellsPairs b (pair k v ps) =
      (s : List ℕ) × (t : List ℕ) × (r : List ℕ) × Spells s k × Spells t v × SpellsPairs r ps × (b ≡ s ++ (t ++ r))
