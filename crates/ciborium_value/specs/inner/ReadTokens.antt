-- What reading diagnostic notation keeps between two tokens, and what it promises of them.
use Rattle.std.specs.Prelude.{◌≡◌, ℕ, suc, ◌^◌, ◌+◌, ◌≤◌, ◌<◌, List, [], ◌∷◌, length, Option, Some, None, ◌==◌}
use Rattle.std.specs.Prelude.{if◌then◌else◌, true, Bool, false, map, reverse, Result, Ok, Err}
use Rattle.ciborium_value.specs.Denotes.{BeginsTree, BeginsItems, BeginsPairs, DenotesWithin, IsToken, MayRefuse}
use Rattle.ciborium_value.specs.{Notation.needs_escape, Tokens.{Token, behind_blanks}, Tree.{Tree, Trees, TreePairs}}
use Rattle.ciborium_value.specs.{ValueLists.pair_trees, View.tree_of, declared.from_notation.byte_strings.Group.Group}
use Rattle.ciborium_value.specs.declared.from_notation.{error.NotationError.NotationError, levels.Due.Due}
use Rattle.ciborium_value.specs.declared.from_notation.{levels.{Level.Level, Levels.Levels}, tokens.Token.Token as Read}
use Rattle.ciborium_value.specs.declared.from_notation.{levels.Step.Step}
use Rattle.ciborium_value.specs.Tokens as tokens
use Rattle.ciborium_value.specs.Tree as trees
use Rattle.ciborium_value.specs.declared.from_notation.levels.Due.TheVariants as due
use Rattle.ciborium_value.specs.declared.from_notation.levels.Level.TheVariants as level
use Rattle.ciborium_value.specs.declared.from_notation.levels.Step.TheVariants as step
use Rattle.ciborium_value.specs.declared.from_notation.tokens.Token.TheVariants as read

-- there is no number, or one of 2^128 at least
abbrev pub IsNoNumber : Option (ℕ × List ℕ) → Type 0
IsNoNumber None = Unit {0}
IsNoNumber (Some p) = 2 ^ 128 ≤ p.0

-- a token that was read
abbrev pub token_read : Read → Token
token_read (read.Leaf v) = tokens.leaf (tree_of v)
token_read (read.BeginTag n) = tokens.begin_tag n
token_read read.EndTag = tokens.end_tag
token_read read.BeginArray = tokens.begin_array
token_read read.EndArray = tokens.end_array
token_read read.BeginMap = tokens.begin_map
token_read read.EndMap = tokens.end_map
token_read read.Comma = tokens.comma
token_read read.Colon = tokens.colon

-- ---- texts

-- no byte that stands as it is begins these
abbrev pub Stops : List ℕ → Type 0
Stops [] = Unit {0}
Stops (b ∷ t) = needs_escape b ≡ true

-- ---- base64

-- so many characters of a group of four leave a number below this
abbrev pub bits_below : ℕ → ℕ
bits_below count = if count == 0 then 1 else if count == 1 then 64 else if count == 2 then 16 else 4

abbrev pub IsGroup : Group → Type 0
IsGroup g = (g.count < 4) × (g.bits < bits_below g.count)

-- the byte that a character completes, if it does, before others
abbrev pub completed : Option ℕ → Option (List ℕ × List ℕ) → Option (List ℕ × List ℕ)
completed None found = found
completed (Some b) found = tokens.prepended (b ∷ []) found

-- ---- what is unfinished, the innermost first, with what is in it so far

pub data Around : Type 0 where
  in_array : List Tree → Around
  -- a key is due
  in_keys : List (Tree × Tree) → Around
  -- the value of this key is due
  in_values : List (Tree × Tree) → Tree → Around
  in_tag : ℕ → Around

abbrev pub around_of : Level → Around
around_of (level.Array items) = in_array (map tree_of items.items)
around_of (level.Keys pairs) = in_keys (map pair_trees pairs.items)
around_of (level.Values pairs key) = in_values (map pair_trees pairs.items) (tree_of key)
around_of (level.Tag n) = in_tag n

abbrev pub around_in : Levels → List Around
around_in levels = map around_of (reverse levels.levels.items)

-- whether a token enters a level
abbrev pub enters : Token → Bool
enters (tokens.begin_tag n) = true
enters tokens.begin_array = true
enters tokens.begin_map = true
enters _ = false

-- ---- what is due

pub data Await : Type 0 where
  item : Await
  -- the first item of an array, or its end
  array_part : Await
  -- the first key of a map, or its end
  map_part : Await
  -- what follows an item that has ended
  behind : Tree → Await

abbrev pub await_of : Due → Await
await_of due.Item = item
await_of due.ArrayPart = array_part
await_of due.MapPart = map_part
await_of (due.Behind v) = behind (tree_of v)

-- of so many levels no more are unfinished than may be, and one more may be where an array or a map
-- has begun
abbrev pub IsRoom : ℕ → ℕ → Await → Type 0
IsRoom limit count array_part = count < limit
IsRoom limit count map_part = count < limit
IsRoom limit count due = count ≤ limit

-- ---- what the tokens that follow make of it

-- trees, and others behind them
abbrev pub trees_before : List Tree → Trees → Trees
trees_before [] vs = vs
trees_before (w ∷ ws) vs = trees.tree w (trees_before ws vs)

abbrev pub pairs_before : List (Tree × Tree) → TreePairs → TreePairs
pairs_before [] ps = ps
pairs_before (q ∷ qs) ps = trees.tree_pair q.0 q.1 (pairs_before qs ps)

-- behind an item that means w in these levels, where m more may be unfinished, the text t completes the
-- tree v
abbrev pub Complete : ℕ → List Around → Tree → List ℕ → Tree → Type 0
Complete m [] w t v = (behind_blanks t ≡ Some []) × (v ≡ w)
Complete m (in_array ws ∷ levels) w t v = (vs : Trees) × (r : List ℕ) ×
    BeginsItems m true t vs r × Complete (suc m) levels (trees.array (trees_before ws (trees.tree w vs))) r v
Complete m (in_keys qs ∷ levels) w t v = (x : Tree) ×
    (s : List ℕ) × (u : List ℕ) × (ps : TreePairs) × (r : List ℕ) × IsToken t tokens.colon s × BeginsTree m s x u ×
    BeginsPairs m true u ps r × Complete (suc m) levels (trees.map (pairs_before qs (trees.tree_pair w x ps))) r v
Complete m (in_values qs k ∷ levels) w t v = (ps : TreePairs) × (r : List ℕ) ×
    BeginsPairs m true t ps r × Complete (suc m) levels (trees.map (pairs_before qs (trees.tree_pair k w ps))) r v
Complete m (in_tag n ∷ levels) w t v = (r : List ℕ) × IsToken t tokens.end_tag r ×
    Complete (suc m) levels (trees.tag n w) r v

-- where this is due in these levels, the text t completes the tree v within l levels
abbrev pub Completes : ℕ → List Around → Await → List ℕ → Tree → Type 0
Completes l levels item t v = (m : ℕ) × (l ≡ m + length levels) × (w : Tree) × (r : List ℕ) ×
    BeginsTree m t w r × Complete m levels w r v
Completes l levels array_part t v = (m : ℕ) × (l ≡ suc m + length levels) × (vs : Trees) ×
    (r : List ℕ) × BeginsItems m false t vs r × Complete (suc m) levels (trees.array vs) r v
Completes l levels map_part t v = (m : ℕ) × (l ≡ suc m + length levels) × (ps : TreePairs) ×
    (r : List ℕ) × BeginsPairs m false t ps r × Complete (suc m) levels (trees.map ps) r v
Completes l levels (behind w) t v = (m : ℕ) × (l ≡ m + length levels) × Complete m levels w t v

-- a token leads from what is due in some levels to what is due in others: a text that it begins
-- completes there just what the text behind it completes here, where there is room
pub record Leads (levels : List Around) (due : Await) (k : Token) (more : List Around)
    (next : Await) : Type 0 where
  pub on : (l : ℕ) (t r : List ℕ) (v : Tree) → IsToken t k r → Completes l levels due t v → Completes l more next r v
  pub back : (l : ℕ) (t r : List ℕ) (v : Tree) → IsRoom l (length levels) due → IsToken t k r →
      Completes l more next r v → Completes l levels due t v

-- no text that it begins completes a tree that is read within the limit
abbrev pub IsMisplaced : List Around → Await → Token → ℕ → NotationError → Type 0
IsMisplaced levels due k limit e = (l : ℕ) (t r : List ℕ) (v : Tree) → IsToken t k r →
    Completes l levels due t v → MayRefuse limit e l

-- what a token does where this is due in these levels: it leads to others, of which no more are
-- unfinished than may be, or it is misplaced
abbrev pub Takes : ℕ → List Level → Await → Token → List Level → Result Due NotationError → Type 0
Takes limit ls due k more (Ok next) =
    Leads (map around_of (reverse ls)) due k (map around_of (reverse more)) (await_of next) ×
    (IsRoom limit (length ls) due → IsRoom limit (length more) (await_of next))
Takes limit ls due k more (Err e) = IsMisplaced (map around_of (reverse ls)) due k limit e

-- what a token makes of a level behind an item in it that means w, whatever is around
abbrev pub Makes : Around → Tree → Token → Result Step NotationError → Type 0
Makes level w k (Ok (step.More next)) =
    (levels : List Around) → Leads (level ∷ levels) (behind w) k (around_of next ∷ levels) item
Makes level w k (Ok (step.End v)) =
    (levels : List Around) → Leads (level ∷ levels) (behind w) k levels (behind (tree_of v))
Makes level w k (Err e) = (levels : List Around) (limit : ℕ) → IsMisplaced (level ∷ levels) (behind w) k limit e

-- this is due in these levels where t is left of a text that denotes just what is completed here
pub record IsReached (text : List ℕ) (limit : ℕ) (levels : List Around) (due : Await)
    (t : List ℕ) : Type 0 where
  pub on : (l : ℕ) (v : Tree) → DenotesWithin l text v → Completes l levels due t v
  pub back : (v : Tree) → Completes limit levels due t v → DenotesWithin limit text v
