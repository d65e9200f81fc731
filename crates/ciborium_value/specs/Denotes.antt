-- Which tree a text of diagnostic notation denotes (RFC 8949, section 8).
use Rattle.std.specs.Prelude.{◌≡◌, ℕ, suc, ◌<◌, max, Bool, true, false, List, [], Some}
use Rattle.ciborium_value.specs.Tokens.{Token, behind_blanks, token_at, leaf, begin_tag, end_tag, begin_array}
use Rattle.ciborium_value.specs.{Tokens.{end_array, begin_map, end_map, comma, colon}, Tree.{Tree, Trees, TreePairs}}
use Rattle.ciborium_value.specs.declared.from_notation.error.NotationError.{NotationError}
use Rattle.ciborium_value.specs.declared.from_notation.error.NotationFault.TheVariants.{TooDeep}
use Rattle.ciborium_value.specs.Tree as trees
pub use Rattle.ciborium_value.specs.declared.from_notation.error.NotationError.TheVariants.{At}
pub use Rattle.ciborium_value.specs.declared.from_notation.error.NotationError.TheVariants.{Memory}

-- behind blanks the text t begins with this token, and r follows it
abbrev pub IsToken : List ℕ → Token → List ℕ → Type 0
IsToken t k r = (s : List ℕ) × (behind_blanks t ≡ Some s) × (token_at s ≡ Some (k, r))

-- s is t, or where a comma is due, what follows the comma at its front
abbrev pub IsSeparated : Bool → List ℕ → List ℕ → Type 0
IsSeparated false t s = s ≡ t
IsSeparated true t s = IsToken t comma s

mutual
  -- the text t begins with the notation of a tree, whose arrays, maps and tags nest within so many
  -- levels, and r follows it
  pub data BeginsTree : ℕ → List ℕ → Tree → List ℕ → Type 0 where
    alone : (l : ℕ) (v : Tree) (t r : List ℕ) → IsToken t (leaf v) r → BeginsTree l t v r
    tagged : (l n : ℕ) (v : Tree) (t s u r : List ℕ) → IsToken t (begin_tag n) s →
        BeginsTree l s v u → IsToken u end_tag r → BeginsTree (suc l) t (trees.tag n v) r
    listed : (l : ℕ) (vs : Trees) (t s r : List ℕ) → IsToken t begin_array s →
        BeginsItems l false s vs r → BeginsTree (suc l) t (trees.array vs) r
    mapped : (l : ℕ) (ps : TreePairs) (t s r : List ℕ) → IsToken t begin_map s →
        BeginsPairs l false s ps r → BeginsTree (suc l) t (trees.map ps) r

  -- items and the end of their array, with commas between them, where one is due before the first
  -- or none
  pub data BeginsItems : ℕ → Bool → List ℕ → Trees → List ℕ → Type 0 where
    no_item : (l : ℕ) (due : Bool) (t r : List ℕ) → IsToken t end_array r → BeginsItems l due t trees.no_trees r
    item : (l : ℕ) (due : Bool) (v : Tree) (vs : Trees) (t s u r : List ℕ) → IsSeparated due t s →
        BeginsTree l s v u → BeginsItems l true u vs r → BeginsItems l due t (trees.tree v vs) r

  -- pairs and the end of their map, a colon between each key and its value
  pub data BeginsPairs : ℕ → Bool → List ℕ → TreePairs → List ℕ → Type 0 where
    no_pair : (l : ℕ) (due : Bool) (t r : List ℕ) → IsToken t end_map r → BeginsPairs l due t trees.no_tree_pairs r
    pair : (l : ℕ) (due : Bool) (k v : Tree) (ps : TreePairs) (t s u w x r : List ℕ) →
        IsSeparated due t s → BeginsTree l s k u → IsToken u colon w → BeginsTree l w v x →
        BeginsPairs l true x ps r → BeginsPairs l due t (trees.tree_pair k v ps) r

-- the text denotes the tree within so many levels: but for blanks nothing follows it
abbrev pub DenotesWithin : ℕ → List ℕ → Tree → Type 0
DenotesWithin l t v = (r : List ℕ) × BeginsTree l t v r × (behind_blanks r ≡ Some [])

abbrev pub Denotes : List ℕ → Tree → Type 0
Denotes t v = (l : ℕ) × DenotesWithin l t v

-- why a text that denotes a tree within l levels may be refused: l is more than the limit, or
-- an allocation failed
abbrev pub MayRefuse : ℕ → NotationError → ℕ → Type 0
MayRefuse limit (At p TooDeep) l = limit < l
MayRefuse limit (At p fault) l = ⊥
MayRefuse limit Memory l = Unit {0}

abbrev mutual
  -- how many arrays, maps and tags a tree nests
  pub depth : Tree → ℕ
  depth (trees.tag n v) = suc (depth v)
  depth (trees.array vs) = suc (depth_of_items vs)
  depth (trees.map ps) = suc (depth_of_pairs ps)
  depth _ = 0

  -- the greatest of the trees, or 0
  pub depth_of_items : Trees → ℕ
  depth_of_items trees.no_trees = 0
  depth_of_items (trees.tree v vs) = max (depth v) (depth_of_items vs)

  -- the greatest of the keys and values, or 0
  pub depth_of_pairs : TreePairs → ℕ
  depth_of_pairs trees.no_tree_pairs = 0
  depth_of_pairs (trees.tree_pair k v ps) = max (depth k) (max (depth v) (depth_of_pairs ps))
