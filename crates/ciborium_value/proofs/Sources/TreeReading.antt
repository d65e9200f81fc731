-- What a source finds at a value.
use Rattle.std.proofs.Common.{◌≡◌, ℕ, suc, ◌+◌, ◌<◌, ◌≤◌, List, [], ◌∷◌, ◌++◌, map, length, chars, IsUtf8, encode_utf8}
use Rattle.std.proofs.Common.{slice_get, Option, Some, None, Result, Ok, Err, IfOk, IfErr, Vec, Global, refl, sym, Bool}
use Rattle.std.proofs.{Common.{true, false, ap, ◌∙◌, arith, subst}, lemmas.{List.nil_from_length, Str.chars_past_char}}
use Rattle.std.{proofs.lemmas.Str.chars-nil, specs.Borrow.Bor}
use Rattle.ciborium_ll.specs.Item.{Item, unsigned}
use Rattle.ciborium_value.proofs.Trees.Views.{tree_of-Array, tree_of-Map, tree_of-Bytes}
use Rattle.ciborium_value.{proofs.Writing.TreeSinkSteps.some_is, specs.Ahead.{Span, Rest, counted, inside, of_bytes}}
use Rattle.ciborium_value.specs.{Ahead.{takes_level, until_break}, Counts.{node_count, payload_size}}
use Rattle.ciborium_value.specs.{Counts.{tree_pairs_node_count, tree_pairs_payload_size}, Encoding.{item_of, items_of}}
use Rattle.ciborium_value.specs.{Encoding.pairs_of, Given.{Outcome, Given, gives, outcome, outcome_map, unpack}}
use Rattle.ciborium_value.specs.Given.{unpack_pairs, given_seq, given_pairs, bare_seq, bare_pairs, untagged}
use Rattle.ciborium_value.specs.{Given.{lone_character, bare_bytes, given_bytes, given_byte, take_each}, Nesting.Limit}
use Rattle.ciborium_value.specs.{Tree.Tree, TreeAnswers.value_item, ValueLists.{trees_of, tree_pairs_of}, View.tree_of}
use Rattle.ciborium_value.specs.{declared.tree.Value.Value, inner.TreeSources.{IsDueValue, pair_items, value_weight}}
use Rattle.ciborium_value.specs.inner.TreeSources.{pending_due, pending_tree_weight, due_weight}
use Rattle.ciborium_value.specs.Tree as trees
use Rattle.ciborium_ll.specs.declared.kind.Kind.TheVariants as kinds
use Rattle.ciborium_value.specs.declared.tree.Value as value

-- ---- containers

unpack-trees : (vs : List Value) → unpack (items_of (trees_of vs)) ≡ map value_item vs
unpack-trees [] = refl
unpack-trees (v ∷ vs) = ap (λ is. value_item v ∷ is) (unpack-trees vs)

unpack-tree_pairs : (ps : List (Value × Value)) → unpack_pairs (pairs_of (tree_pairs_of ps)) ≡ map pair_items ps
unpack-tree_pairs [] = refl
unpack-tree_pairs (p ∷ ps) = ap (λ qs. pair_items p ∷ qs) (unpack-tree_pairs ps)

-- a value, behind the tags of an item, is an array
pub seq_of : (v : Value) (vs : Vec Value Global) (i : Item) → v ≡ value.Array vs → value_item v ≡ untagged i →
    outcome None (given_seq i) ≡ gives (true, map value_item vs.items)
seq_of v vs i is h = ap (λ j. outcome None (bare_seq j)) (sym h ∙ ap item_of (ap tree_of is ∙ tree_of-Array vs)) ∙
    ap (λ js. gives (true, js)) (unpack-trees vs.items)

-- a byte string
pub bytes_of : (v : Value) (bs : Vec ℕ Global) (i : Item) → v ≡ value.Bytes bs → value_item v ≡ untagged i →
    outcome None (given_seq i) ≡ gives (false, map unsigned bs.items)
bytes_of v bs i is h = ap (λ j. outcome None (bare_seq j)) (sym h ∙ ap item_of (ap tree_of is ∙ tree_of-Bytes bs))

-- a map
pub map_of : (v : Value) (ps : Vec (Value × Value) Global) (i : Item) → v ≡ value.Map ps → value_item v ≡ untagged i →
    outcome None (given_pairs i) ≡ gives (true, map pair_items ps.items)
map_of v ps i is h = ap (λ j. outcome None (bare_pairs j)) (sym h ∙ ap item_of (ap tree_of is ∙ tree_of-Map ps)) ∙
    ap (λ qs. gives (true, qs)) (unpack-tree_pairs ps.items)

no_limit : (span : Span) → inside span None ≡ None
no_limit counted = refl
no_limit until_break = refl
no_limit of_bytes = refl

-- a source that stood before a container stands before its parts, and what is due behind it is kept
pub begun : {V X : Type 0} (taken : Given (Bool × List X)) (span : Span) (part : V → X) (all left : List V) →
    left ≡ all → (old new : Option (Bor Value)) → new ≡ old → (l : Limit) (i : Item) (f : Rest) → l ≡ None →
    IsDueValue old f → outcome None (taken i) ≡ gives (takes_level span, map part all) →
    (span : Span) × (xs : List X) × (outcome l (taken i) ≡ gives (takes_level span, xs)) ×
    ((inside span l ≡ None) × Unit {0}) × ((l ≡ None) × (map part left ≡ xs) × IsDueValue new f)
begun taken span part all left same old new due l i f none at give = (
  span,
  map part all,
  ap (λ k. outcome k (taken i)) none ∙ give,
  (ap (inside span) none ∙ no_limit span, tt),
  (none, ap (map part) same, subst (λ o. IsDueValue o f) (sym due) at),
)

pub pairs_weigh_less : (v : Value) (ps : Vec (Value × Value) Global) (n : ℕ) → v ≡ value.Map ps → value_weight v ≤ n →
    tree_pairs_node_count (tree_pairs_of ps.items) + tree_pairs_payload_size (tree_pairs_of ps.items) < n
pairs_weigh_less v ps n is h =
    let e : value_weight v ≡ suc (tree_pairs_node_count (tree_pairs_of ps.items)) + tree_pairs_payload_size
    (tree_pairs_of ps.items) = ap (λ t. node_count t + payload_size t) (ap tree_of is ∙ tree_of-Map ps) in
    omega (arith, e, h)

-- ---- characters

pub lone : (b rest : List ℕ) (c : ℕ) → IsUtf8 b → b ≡ encode_utf8 c ++ rest → length rest ≡ 0 →
    lone_character (chars b) ≡ Ok c
lone b rest c u h none = ap lone_character (chars_past_char b rest c u h ∙
    ap (λ cs. c ∷ cs) (ap chars (nil_from_length rest none) ∙ chars-nil))

first_of : (cs : List ℕ) (d : ℕ) → Some d ≡ slice_get cs 0 → (ds : List ℕ) × (cs ≡ d ∷ ds)
first_of [] d h = cc
first_of (c ∷ cs) d h = (cs, ap (λ x. x ∷ cs) (some_is c d (sym h)))

pub not_lone : (b rest : List ℕ) (c d : ℕ) → IsUtf8 b → b ≡ encode_utf8 c ++ rest → Some d ≡ slice_get (chars rest) 0 →
    lone_character (chars b) ≡ Err kinds.Char
not_lone b rest c d u h s =
    let more = first_of (chars rest) d s in ap lone_character (chars_past_char b rest c u h ∙ ap (λ ds. c ∷ ds) more.1)

-- ---- parts in turn

-- behind what was read of them
abbrev pub behind_these : {A : Type 0} → List A → Outcome (List A) → Outcome (List A)
behind_these done o = outcome_map (λ vs. done ++ vs) o

-- the numbers of an array
pub numbers_of : (v : Value) (vs : Vec Value Global) (i : Item) → v ≡ value.Array vs → value_item v ≡ untagged i →
    outcome None (given_bytes i) ≡ outcome None (take_each given_byte (map value_item vs.items))
numbers_of v vs i is h = ap (λ j. outcome None (bare_bytes j)) (sym h ∙ ap item_of (ap tree_of is ∙ tree_of-Array vs)) ∙
    ap (λ js. outcome None (take_each given_byte js)) (unpack-trees vs.items)

-- ---- answers

pub if_ok_so : {T E : Type 0} {P Q : T → Type 0} (r : Result T E) → ((v : T) → P v → Q v) → IfOk r P → IfOk r Q
if_ok_so (Ok v) f h = f v h
if_ok_so (Err e) f h = tt

pub if_err_so : {T E : Type 0} {P Q : E → Type 0} (r : Result T E) → ((e : E) → P e → Q e) → IfErr r P → IfErr r Q
if_err_so (Ok v) f h = tt
if_err_so (Err e) f h = f e h

-- ---- weights

pub some_node : (t : Tree) → 0 < node_count t
some_node (trees.integer z) = omega (arith)
some_node _ = omega (arith)

pub due_next : (due : Option (Bor Value)) → pending_tree_weight (pending_due due) ≡ due_weight due
due_next None = refl
due_next (Some v) = refl
