-- The levels of a text while it is read.
use Rattle.std.proofs.Common.{true, ◌≡◌, ◌≢◌, ◌<◌, ◌≤◌, Ok, Err, Result, refl, ℕ, Vec, Global, Box, length}
use Rattle.std.proofs.{Common.{arith, List, [], ◌∷◌, ◌++◌, map, reverse, ap, ◌∙◌, subst, sym}, lemmas.List.length-map}
use Rattle.std.proofs.lemmas.List.{length-append, length-reverse, map-append, reverse-append}
use Rattle.ciborium_value.proofs.Denoting.Steps.{Begun, first-item, first-key, first_leads, key_leads, leads-array}
use Rattle.ciborium_value.proofs.Denoting.Steps.{leads-comma, leads-end, leads-leaf, leads-map, leads-map-end}
use Rattle.ciborium_value.proofs.Denoting.Steps.{leads-next-key, leads-no-item, leads-no-pair, leads-tag, leads-tag-end}
use Rattle.ciborium_value.proofs.Denoting.Steps.{leads-value, one-token, other-behind-item, other-behind-value}
use Rattle.ciborium_value.proofs.{Denoting.Steps.enters-deeper, Trees.Views.{tree_of-Array, tree_of-Map, tree_of-Tag}}
use Rattle.ciborium_value.specs.{Denotes.At, Tokens.Token, Tree.Tree, ValueLists.pair_trees, View.tree_of}
use Rattle.ciborium_value.specs.View.{tree_pairs_from, trees_from}
use Rattle.ciborium_value.specs.declared.from_notation.error.NotationError.{NotationError}
use Rattle.ciborium_value.specs.declared.from_notation.error.NotationFault.TheVariants.{ArrayEnd, Colon, MapEnd, TagEnd}
use Rattle.ciborium_value.specs.declared.from_notation.{error.NotationFault.TheVariants.TooDeep, levels.Due.Due}
use Rattle.ciborium_value.specs.declared.from_notation.{levels.Level.Level, tokens.Token.Token as Read}
use Rattle.ciborium_value.specs.{declared.tree.Value.Value, inner.ReadTokens.{Around, Await, Leads, around_of, behind}}
use Rattle.ciborium_value.specs.inner.ReadTokens.{in_array, in_keys, item, Completes, IsMisplaced, IsRoom, Makes, Takes}
use Rattle.ciborium_value.specs.inner.ReadTokens.{array_part, await_of, in_tag, in_values, map_part, enters, token_read}
use Rattle.ciborium_value.specs.declared.from_notation.levels.Due.TheVariants as due
use Rattle.ciborium_value.specs.declared.from_notation.levels.Level.TheVariants as level
use Rattle.ciborium_value.specs.declared.from_notation.levels.Step.TheVariants as step
use Rattle.ciborium_value.specs.declared.from_notation.tokens.Token.TheVariants as read
use Rattle.ciborium_value.specs.declared.tree.Value.TheViews as value
use Rattle.ciborium_value.specs.Tokens as tokens
use Rattle.ciborium_value.specs.Tree as trees

-- the innermost level stands last
pub around_last : (levels : List Level) (level : Level) →
    map around_of (reverse (levels ++ level ∷ [])) ≡ around_of level ∷ map around_of (reverse levels)
around_last levels level = ap (map around_of) (reverse-append levels (level ∷ []))

-- the levels behind a push
entered : (ls more : List Level) (level : Level) → more ≡ ls ++ level ∷ [] →
    map around_of (reverse more) ≡ around_of level ∷ map around_of (reverse ls)
entered ls more level pushed = ap (λ (x : List Level). map around_of (reverse x)) pushed ∙ around_last ls level

-- the same step under other names
leads_as : (levels : List Around) (due : Await) {k l : Token} {more now : List Around} {next last : Await} →
    k ≡ l → more ≡ now → next ≡ last → Leads levels due k more next → Leads levels due l now last
leads_as levels due {l = l} {more = more} {now = now} {next = next} e f g h =
    subst (Leads levels due l now) g (subst (λ x. Leads levels due l x next) f
    (subst (λ x. Leads levels due x more next) e h))

-- ---- what a token makes of a level behind an item in it

pub array_comma : (ws : List Value) (w : Value) (items : Vec Value Global) (k : Read) → k ≡ read.Comma →
    items.items ≡ ws ++ w ∷ [] →
    Makes (in_array (map tree_of ws)) (tree_of w) (token_read k) (Ok (step.More (level.Array items)))
array_comma ws w items k comma same levels = leads_as _ _ (ap token_read (sym comma))
    (ap (λ (x : List Tree). in_array x ∷ levels) (sym (ap (map tree_of) same ∙ map-append tree_of ws (w ∷ [])))) refl
    (leads-comma levels (map tree_of ws) (tree_of w))

pub array_end : (ws : List Value) (w : Value) (items : Vec Value Global) (k : Read) → k ≡ read.EndArray →
    items.items ≡ ws ++ w ∷ [] →
    Makes (in_array (map tree_of ws)) (tree_of w) (token_read k) (Ok (step.End (value.Array items)))
array_end ws w items k end same levels = leads_as _ _ (ap token_read (sym end)) refl
    (sym (ap behind (tree_of-Array items ∙
    ap (λ x. trees.array (trees_from x)) (ap (map tree_of) same ∙ map-append tree_of ws (w ∷ [])))))
    (leads-end levels (map tree_of ws) (tree_of w))

pub array_other : (ws : List Tree) (w : Tree) (p : ℕ) (k : Read) → k ≢ read.Comma → k ≢ read.EndArray →
    Makes (in_array ws) w (token_read k) (Err (At p ArrayEnd))
array_other ws w p read.Comma f g = absurd (f refl)
array_other ws w p read.EndArray f g = absurd (g refl)
array_other ws w p k f g = λ levels limit l t r v at (m, i, (vs, z, b, more)).
    other-behind-item m (token_read k) t r z vs (λ e. cc e) (λ e. cc e) at b

pub key_colon : (ps : List (Value × Value)) (w : Value) (pairs : Vec (Value × Value) Global) (k : Read) →
    k ≡ read.Colon → pairs.items ≡ ps →
    Makes (in_keys (map pair_trees ps)) (tree_of w) (token_read k) (Ok (step.More (level.Values pairs w)))
key_colon ps w pairs k e same levels = leads_as _ _ (ap token_read (sym e))
    (ap (λ (x : List (Value × Value)). in_values (map pair_trees x) (tree_of w) ∷ levels) (sym same)) refl
    (leads-value levels (map pair_trees ps) (tree_of w))

pub key_other : (qs : List (Tree × Tree)) (w : Tree) (p : ℕ) (k : Read) → k ≢ read.Colon →
    Makes (in_keys qs) w (token_read k) (Err (At p Colon))
key_other qs w p read.Colon f = absurd (f refl)
key_other qs w p k f = λ levels limit l t r v at (m, i, (y, s, u, ps, z, is, d, b, more)).
    absurd (cc (one-token t (token_read k) tokens.colon r s at is).0)

pub value_comma : (ps : List (Value × Value)) (key w : Value) (pairs : Vec (Value × Value) Global) (k : Read) →
    k ≡ read.Comma → pairs.items ≡ ps ++ (key, w) ∷ [] →
    Makes (in_values (map pair_trees ps) (tree_of key)) (tree_of w) (token_read k) (Ok (step.More (level.Keys pairs)))
value_comma ps key w pairs k comma same levels = leads_as _ _ (ap token_read (sym comma))
    (ap (λ (x : List (Tree × Tree)). in_keys x ∷ levels)
    (sym (ap (map pair_trees) same ∙ map-append pair_trees ps ((key, w) ∷ [])))) refl
    (leads-next-key levels (map pair_trees ps) (tree_of key) (tree_of w))

pub map_end : (ps : List (Value × Value)) (key w : Value) (pairs : Vec (Value × Value) Global) (k : Read) →
    k ≡ read.EndMap → pairs.items ≡ ps ++ (key, w) ∷ [] →
    Makes (in_values (map pair_trees ps) (tree_of key)) (tree_of w) (token_read k) (Ok (step.End (value.Map pairs)))
map_end ps key w pairs k end same levels = leads_as _ _ (ap token_read (sym end)) refl
    (sym (ap behind (tree_of-Map pairs ∙ ap (λ x. trees.map (tree_pairs_from x))
    (ap (map pair_trees) same ∙ map-append pair_trees ps ((key, w) ∷ [])))))
    (leads-map-end levels (map pair_trees ps) (tree_of key) (tree_of w))

pub value_other : (qs : List (Tree × Tree)) (key w : Tree) (p : ℕ) (k : Read) → k ≢ read.Comma → k ≢ read.EndMap →
    Makes (in_values qs key) w (token_read k) (Err (At p MapEnd))
value_other qs key w p read.Comma f g = absurd (f refl)
value_other qs key w p read.EndMap f g = absurd (g refl)
value_other qs key w p k f g = λ levels limit l t r v at (m, i, (ps, z, b, more)).
    other-behind-value m (token_read k) t r z ps (λ e. cc e) (λ e. cc e) at b

pub content_end : (n : ℕ) (w : Value) (content : Box Value Global) (k : Read) → k ≡ read.EndTag → content.value ≡ w →
    Makes (in_tag n) (tree_of w) (token_read k) (Ok (step.End (value.Tag n content)))
content_end n w content k end same levels = leads_as _ _ (ap token_read (sym end)) refl
    (sym (ap behind (tree_of-Tag n content ∙ ap (λ x. trees.tag n (tree_of x)) same)))
    (leads-tag-end levels n (tree_of w))

pub content_other : (n : ℕ) (w : Tree) (p : ℕ) (k : Read) → k ≢ read.EndTag →
    Makes (in_tag n) w (token_read k) (Err (At p TagEnd))
content_other n w p read.EndTag f = absurd (f refl)
content_other n w p k f = λ levels limit l t r v at (m, i, (s, is, more)).
    absurd (cc (one-token t (token_read k) tokens.end_tag r s at is).0)

-- ---- behind an item of the innermost level, which was taken off

pub more_due : (limit : ℕ) (ls rest more : List Level) (level next : Level) (w : Tree) (k : Token) →
    ls ≡ rest ++ level ∷ [] → more ≡ rest ++ next ∷ [] → Makes (around_of level) w k (Ok (step.More next)) →
    Takes limit ls (behind w) k more (Ok due.Item)
more_due limit ls rest more level next w k popped pushed h = (
  rw (entered rest ls level popped, entered rest more next pushed) (h (map around_of (reverse rest))),
  rw (popped, pushed, length-append rest (level ∷ []), length-append rest (next ∷ [])) (λ fits. fits),
)

pub level_ended : (limit : ℕ) (ls rest : List Level) (level : Level) (v : Value) (w : Tree) (k : Token) →
    ls ≡ rest ++ level ∷ [] → Makes (around_of level) w k (Ok (step.End v)) →
    Takes limit ls (behind w) k rest (Ok (due.Behind v))
level_ended limit ls rest level v w k popped h = (
  rw (entered rest ls level popped) (h (map around_of (reverse rest))),
  rw (popped, length-append rest (level ∷ [])) (λ fits. omega (arith, fits)),
)

pub misplaced_behind : (limit : ℕ) (ls rest : List Level) (level : Level) (w : Tree) (k : Token) (e : NotationError) →
    ls ≡ rest ++ level ∷ [] → Makes (around_of level) w k (Err e) →
    IsMisplaced (map around_of (reverse ls)) (behind w) k limit e
misplaced_behind limit ls rest level w k e popped h =
    rw (entered rest ls level popped) (h (map around_of (reverse rest)) limit)

-- ---- how many are unfinished

pub open_count : (ls : List Level) → length (map around_of (reverse ls)) ≡ length ls
open_count ls = length-map (reverse ls) around_of ∙ length-reverse ls

pub some_open : (ls : List Level) → 0 < length ls → map around_of (reverse ls) ≡ [] → ⊥
some_open ls some none = let count = open_count ls in let zero = ap length none in omega (arith, some, count, zero)

-- ---- where an item is due

pub leaf_read : (levels : List Around) (v : Value) (k : Read) → k ≡ read.Leaf v →
    Leads levels item (token_read k) levels (behind (tree_of v))
leaf_read levels v k e = leads_as _ _ (ap token_read (sym e)) refl refl (leads-leaf levels (tree_of v))

pub array_begun : (levels : List Around) (k : Read) → k ≡ read.BeginArray →
    Leads levels item (token_read k) levels array_part
array_begun levels k e = leads_as _ _ (ap token_read (sym e)) refl refl (leads-array levels)

pub map_begun : (levels : List Around) (k : Read) → k ≡ read.BeginMap → Leads levels item (token_read k) levels map_part
map_begun levels k e = leads_as _ _ (ap token_read (sym e)) refl refl (leads-map levels)

pub tag_begun : (ls more : List Level) (n : ℕ) (k : Read) → k ≡ read.BeginTag n → more ≡ ls ++ level.Tag n ∷ [] →
    Leads (map around_of (reverse ls)) item (token_read k) (map around_of (reverse more)) item
tag_begun ls more n k e pushed = leads_as _ _ (ap token_read (sym e)) (sym (entered ls more (level.Tag n) pushed)) refl
    (leads-tag (map around_of (reverse ls)) n)

pub no_item_begun : (k : Read) → ((v : Value) → k ≢ read.Leaf v) → ((n : ℕ) → k ≢ read.BeginTag n) →
    k ≢ read.BeginArray → k ≢ read.BeginMap → (l : ℕ) (r z : List ℕ) (w : Tree) → Begun (token_read k) l r w z → ⊥
no_item_begun (read.Leaf v) a b c d l r z w h = a v refl
no_item_begun (read.BeginTag n) a b c d l r z w h = b n refl
no_item_begun read.BeginArray a b c d l r z w h = c refl
no_item_begun read.BeginMap a b c d l r z w h = d refl
no_item_begun _ a b c d l r z w h = h

-- ---- where the first part of an array or a map is due

pub array_ended : (levels : List Around) (items : Vec Value Global) (k : Read) → k ≡ read.EndArray →
    items.items ≡ [] → Leads levels array_part (token_read k) levels (behind (tree_of (value.Array items)))
array_ended levels items k e none = leads_as _ _ (ap token_read (sym e)) refl (sym (ap behind
    (tree_of-Array items ∙ ap (λ (x : List Value). trees.array (trees_from (map tree_of x))) none)))
    (leads-no-item levels)

pub map_ended : (levels : List Around) (pairs : Vec (Value × Value) Global) (k : Read) → k ≡ read.EndMap →
    pairs.items ≡ [] → Leads levels map_part (token_read k) levels (behind (tree_of (value.Map pairs)))
map_ended levels pairs k e none = leads_as _ _ (ap token_read (sym e)) refl (sym (ap behind
    (tree_of-Map pairs ∙ ap (λ (x : List (Value × Value)). trees.map (tree_pairs_from (map pair_trees x))) none)))
    (leads-no-pair levels)

not_array_end : (k : Read) → k ≢ read.EndArray → token_read k ≢ tokens.end_array
not_array_end read.EndArray h e = h refl
not_array_end k h e = cc e

not_map_end : (k : Read) → k ≢ read.EndMap → token_read k ≢ tokens.end_map
not_map_end read.EndMap h e = h refl
not_map_end k h e = cc e

-- the levels behind a push of an empty array or map
array_entered : (ls begun : List Level) (items : Vec Value Global) → items.items ≡ [] →
    begun ≡ ls ++ level.Array items ∷ [] → map around_of (reverse begun) ≡ in_array [] ∷ map around_of (reverse ls)
array_entered ls begun items none pushed = entered ls begun (level.Array items) pushed ∙
    ap (λ (x : List Value). in_array (map tree_of x) ∷ map around_of (reverse ls)) none

map_entered : (ls begun : List Level) (pairs : Vec (Value × Value) Global) → pairs.items ≡ [] →
    begun ≡ ls ++ level.Keys pairs ∷ [] → map around_of (reverse begun) ≡ in_keys [] ∷ map around_of (reverse ls)
map_entered ls begun pairs none pushed = entered ls begun (level.Keys pairs) pushed ∙
    ap (λ (x : List (Value × Value)). in_keys (map pair_trees x) ∷ map around_of (reverse ls)) none

pub first_taken : (limit : ℕ) (ls begun more : List Level) (items : Vec Value Global) (k : Read)
    (r : Result Due NotationError) → k ≢ read.EndArray → items.items ≡ [] → begun ≡ ls ++ level.Array items ∷ [] →
    Takes limit begun item (token_read k) more r → Takes limit ls array_part (token_read k) more r
first_taken limit ls begun more items k (Ok next) other none pushed (leads, room) = (
  first_leads (map around_of (reverse ls)) (map around_of (reverse more)) (token_read k) (await_of next)
      (not_array_end k other) (rw (array_entered ls begun items none pushed) at leads),
  λ fits. room (rw (pushed, length-append ls (level.Array items ∷ [])) (omega (arith, fits))),
)
first_taken limit ls begun more items k (Err e) other none pushed h = λ l t r v at c.
    h l t r v at (subst (λ o. Completes l o item t v) (sym (array_entered ls begun items none pushed))
    (first-item l (map around_of (reverse ls)) (token_read k) t r v (not_array_end k other) at c))

pub key_taken : (limit : ℕ) (ls begun more : List Level) (pairs : Vec (Value × Value) Global) (k : Read)
    (r : Result Due NotationError) → k ≢ read.EndMap → pairs.items ≡ [] → begun ≡ ls ++ level.Keys pairs ∷ [] →
    Takes limit begun item (token_read k) more r → Takes limit ls map_part (token_read k) more r
key_taken limit ls begun more pairs k (Ok next) other none pushed (leads, room) = (
  key_leads (map around_of (reverse ls)) (map around_of (reverse more)) (token_read k) (await_of next)
      (not_map_end k other) (rw (map_entered ls begun pairs none pushed) at leads),
  λ fits. room (rw (pushed, length-append ls (level.Keys pairs ∷ [])) (omega (arith, fits))),
)
key_taken limit ls begun more pairs k (Err e) other none pushed h = λ l t r v at c.
    h l t r v at (subst (λ o. Completes l o item t v) (sym (map_entered ls begun pairs none pushed))
    (first-key l (map around_of (reverse ls)) (token_read k) t r v (not_map_end k other) at c))

-- ---- a level more than the limit

pub too_deep : (ls : List Level) (k : Read) (limit : ℕ) (place : ℕ) → enters (token_read k) ≡ true →
    limit ≤ length ls → IsMisplaced (map around_of (reverse ls)) item (token_read k) limit (At place TooDeep)
too_deep ls k limit place entered full = λ l t r v at c.
    let h = enters-deeper l (map around_of (reverse ls)) (token_read k) t r v entered at c in
    let count = open_count ls in omega (arith, h, full, count)

-- room behind a token, said of what is unfinished
pub room_next : (limit most : ℕ) (ls more : List Level) (due next : Await) → limit ≡ most →
    (IsRoom limit (length ls) due → IsRoom limit (length more) next) →
    IsRoom most (length (map around_of (reverse ls))) due → IsRoom most (length (map around_of (reverse more))) next
room_next limit most ls more due next e f h = subst (λ l. IsRoom l (length (map around_of (reverse more))) next) e
    (subst (λ n. IsRoom limit n next) (sym (open_count more)) (f (subst (λ n. IsRoom limit n due) (open_count ls)
    (subst (λ l. IsRoom l (length (map around_of (reverse ls))) due) (sym e) h))))
