-- How the bytes that a source has unread spell what it stands before.
use Rattle.std.specs.{Prelude.{◌≡◌, ℕ, ◌+◌, List, [], ◌∷◌, ◌++◌, length, Option, Some, None}, Borrow.GName}
use Rattle.ciborium_ll.specs.{Head.break_byte, Item.Item, Spells.Spells}
use Rattle.ciborium_value.specs.Ahead.{Ahead, Rest, Span, counted, until_break, of_bytes, bottom, parts, pairs, entry}
use Rattle.ciborium_value.specs.Ahead.{level_due, item, after}

-- a key and its value, in the bytes
abbrev pub SpellsPair : List ℕ → Item × Item → Type 0
SpellsPair b p = (s : List ℕ) × (t : List ℕ) × Spells s p.0 × Spells t p.1 × (b ≡ s ++ t)

-- what ends a container of this span in the bytes
abbrev pub ending : Span → List ℕ
ending counted = []
ending until_break = break_byte ∷ []
ending of_bytes = []

-- how the parts come where the head has this count (None: open)
abbrev pub span_of : Option ℕ → Span
span_of (Some n) = counted
span_of None = until_break

-- so many parts, where they are counted
abbrev pub HasCount : {X : Type 0} → Option ℕ → List X → Type 0
HasCount (Some n) xs = length xs ≡ n
HasCount None xs = Unit {0}

module _ {X : Type 0} (SpellsPart : List ℕ → X → Type 0) where
  -- each part in turn
  abbrev pub AreSpelled : List ℕ → List X → Type 0
  AreSpelled b [] = b ≡ []
  AreSpelled b (x ∷ xs) = (s : List ℕ) × (r : List ℕ) × SpellsPart s x × AreSpelled r xs × (b ≡ s ++ r)

  -- the parts left of a container of this span; the bytes of a byte string are read before its
  -- parts are
  abbrev pub AreLeft : Span → List ℕ → List X → Type 0
  AreLeft counted b xs = AreSpelled b xs
  AreLeft until_break b xs = AreSpelled b xs
  AreLeft of_bytes b xs = b ≡ []

module _ (reader : GName × ℕ) where
  -- b is this rest, in the reader of this name, up to this offset
  abbrev pub IsRest : List ℕ → Rest → Type 0
  IsRest b (bottom m r) = (b ≡ r) × (m.0 ≡ reader.0) × (m.1 + length r ≡ reader.1)
  IsRest b (parts span is f) = (s : List ℕ) × (r : List ℕ) × AreLeft Spells span s is × IsRest r f ×
      (b ≡ s ++ (ending span ++ r))
  IsRest b (pairs span ps f) = (s : List ℕ) × (r : List ℕ) × AreLeft SpellsPair span s ps ×
      IsRest r f × (b ≡ s ++ (ending span ++ r))
  IsRest b (entry v span ps f) = (t : List ℕ) × (c : List ℕ) × Spells t v ×
      ((s : List ℕ) × (r : List ℕ) × AreLeft SpellsPair span s ps × IsRest r f × (c ≡ s ++ (ending span ++ r))) ×
      (b ≡ t ++ c)
  IsRest b (level_due f) = IsRest b f

  -- b is what a source stands before
  abbrev pub FitsAhead : List ℕ → Ahead → Type 0
  FitsAhead b (item i f) = (s : List ℕ) × (r : List ℕ) × Spells s i × IsRest r f × (b ≡ s ++ r)
  FitsAhead b (after f) = IsRest b f
