-- What is unfinished around the place where reading stands: reading began at offset p with l levels, and
-- stands at offset r with m left.
use Rattle.std.specs.Prelude.{◌≡◌, ℕ, suc, List, [], ◌∷◌, Option, Some, None, option_map}
use Rattle.ciborium_value.specs.{inner.Frames.{TreeFrame, array, map, tag}, Refuses.{Due, items, keys, values}}
use Rattle.ciborium_value.specs.{Refuses.{IsInside, IsTagAt, IsFoldingAt}, Spelling.Spelling, Tree.Tree}

-- keys and values in turn, and then the key that waits
abbrev pub trees_in_turn : List (Tree × Tree) → Option Tree → List Tree
trees_in_turn [] None = []
trees_in_turn [] (Some k) = k ∷ []
trees_in_turn (p ∷ ps) key = p.0 ∷ p.1 ∷ trees_in_turn ps key

-- what is due in a map that is unfinished: a key, or the value of the key that waits
abbrev pub map_due : Option ℕ → Option Tree → Due
map_due behind None = keys (option_map suc behind)
map_due behind (Some k) = values behind

-- what begins at ys is unfinished at zs; inside it l levels are left
abbrev pub IsUnfinished : Spelling → TreeFrame → ℕ → List ℕ → ℕ → List ℕ → ℕ → Type 0
IsUnfinished spelling (array vs behind) l ys q zs r = IsInside spelling ys q (Some (suc l)) vs zs r
    (items (option_map suc behind)) (Some l)
IsUnfinished spelling (map ps behind key) l ys q zs r = IsInside spelling ys q (Some (suc l))
    (trees_in_turn ps key) zs r (map_due behind key) (Some l)
IsUnfinished spelling (tag t) l ys q zs r = IsTagAt spelling ys q t zs r × ¬ IsFoldingAt t zs

-- all that is unfinished, the innermost first
abbrev pub IsAround : Spelling → ℕ → List ℕ → ℕ → List TreeFrame → ℕ → List ℕ → ℕ → Type 0
IsAround spelling l xs p [] m zs r = (m ≡ l) × (zs ≡ xs) × (r ≡ p)
IsAround spelling l xs p (o ∷ os) m zs r = (ys : List ℕ) × (q : ℕ) ×
    IsAround spelling l xs p os (suc m) ys q × IsUnfinished spelling o m ys q zs r
