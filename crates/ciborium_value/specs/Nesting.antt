-- How deep an item nests, and the levels that a reader allows. RFC 8949, section 10, asks to guard
-- against deep nesting; the limit, and how levels count, are ciborium's rule.
use Rattle.std.specs.Prelude.{◌≡◌, ℕ, suc, ◌≤◌, max, List, Option, Some, None}
use Rattle.ciborium_ll.specs.Item.{Item, unsigned, negative, bytes, text, array, map, tag, simple}
use Rattle.ciborium_ll.specs.Item.{float, Items, no_items, item, Pairs, no_pairs, pair}
use Rattle.ciborium_value.specs.Meaning.{folding_bytes}

-- the levels that are left, or None for a tree in memory, where every depth is allowed
abbrev pub Limit : Type 0
Limit = Option ℕ

-- n levels are within the limit
abbrev pub IsWithin : Limit → ℕ → Type 0
IsWithin None n = Unit {0}
IsWithin (Some l) n = n ≤ l

-- inside a container, or a tag that does not fold, one level less is left
abbrev pub IsOneLess : Limit → Limit → Type 0
IsOneLess None None = Unit {0}
IsOneLess None (Some m) = ⊥
IsOneLess (Some l) None = ⊥
IsOneLess (Some l) (Some m) = l ≡ suc m

-- a tag costs a level above its item, and none where it folds
abbrev pub tag_nesting : Option (List ℕ) → ℕ → ℕ
tag_nesting (Some b) n = 0
tag_nesting None n = suc n

abbrev mutual
  -- the levels that an item takes: one for an array, a map or a tag that does not fold, above the
  -- greatest of its parts
  pub nesting : Item → ℕ
  nesting (unsigned n) = 0
  nesting (negative n) = 0
  nesting (bytes open_ b) = 0
  nesting (text open_ b) = 0
  nesting (array open_ is) = suc (items_nesting is)
  nesting (map open_ ps) = suc (pairs_nesting ps)
  nesting (tag t i) = tag_nesting (folding_bytes t i) (nesting i)
  nesting (simple n) = 0
  nesting (float raw) = 0

  -- the greatest of the items, or 0
  pub items_nesting : Items → ℕ
  items_nesting no_items = 0
  items_nesting (item i is) = max (nesting i) (items_nesting is)

  -- the greatest of the keys and values, or 0
  pub pairs_nesting : Pairs → ℕ
  pairs_nesting no_pairs = 0
  pairs_nesting (pair k v ps) = max (max (nesting k) (nesting v)) (pairs_nesting ps)
