-- The encoding of a tree as its head and what stands behind it.
use Rattle.std.proofs.Common.{◌≡◌, ℕ, ◌+◌, ◌^◌, ◌<◌, List, [], ◌++◌, length, Bool, true, false, Vec}
use Rattle.std.proofs.Common.{vec_len, String, string_bytes, Box, Global, ℤ, pos, negsuc, ◌⊎◌, inl, inr, refl, sym, ap}
use Rattle.std.proofs.Common.{◌∙◌, arith, length-append, append-nil, Equal, nat_cmp}
use Rattle.std.specs.{Cmp.Lexicographic.slice_cmp, FinMap.{nat_cmp-IsAntisymmetric, slice_cmp-IsAntisymmetric}}
use Rattle.ciborium_ll.specs.{Head.shortest_head, Spells.Spells}
use Rattle.ciborium_value.specs.Encoding.{encoding, encoded_size, item_of, items_of, pairs_of, items_bytes, pairs_bytes}
use Rattle.ciborium_value.specs.{ProperTrees.IsProperTree, Tree.{Tree, integer, boolean, array, map}, View.tree_of}
use Rattle.ciborium_value.specs.{declared.tree.Value.Value, inner.TreeHeads.{tree_major, argument_of, content_bytes}}
use Rattle.ciborium_value.specs.{Visits.saturated, inner.EncodedLists.{encodings, pair_encodings}}
use Rattle.ciborium_value.proofs.Trees.Views.{tree_of-Integer, tree_of-Bytes, tree_of-Text, tree_of-Bool, tree_of-Null}
use Rattle.ciborium_value.proofs.Trees.Views.{tree_of-Tag, tree_of-Array, tree_of-Map, trees_count-trees_of}
use Rattle.ciborium_value.proofs.{Trees.Views.tree_pairs_count-tree_pairs_of, Writing.Written.written_spells}
use Rattle.ciborium_value.proofs.Writing.Written.{IsProperItem-item_of, items_count-items_of, pairs_count-pairs_of}
use Rattle.ciborium_value.specs.declared.tree.Value as value

pub encoding-is : (v : Tree) → encoding v ≡ shortest_head (tree_major v) (argument_of v) ++ content_bytes v
unfolding shortest_head
encoding-is (integer (pos n)) = sym (append-nil (shortest_head 0 n))
encoding-is (integer (negsuc n)) = sym (append-nil (shortest_head 1 n))
encoding-is (boolean false) = refl
encoding-is (boolean true) = refl
encoding-is (array vs) = ap (λ n. shortest_head 4 n ++ items_bytes (items_of vs)) (items_count-items_of vs)
encoding-is (map ps) = ap (λ n. shortest_head 5 n ++ pairs_bytes (pairs_of ps)) (pairs_count-pairs_of ps)
encoding-is _ = refl

-- the length is that of the head and of what stands behind it
pub encoding-length : (v : Tree) (major argument head : ℕ) → major ≡ tree_major v → argument ≡ argument_of v →
    head ≡ length (shortest_head major argument) → length (encoding v) ≡ head + length (content_bytes v)
encoding-length v major argument head m n h =
    let first : head ≡ length (shortest_head (tree_major v) (argument_of v)) = h ∙
    ap (λ k. length (shortest_head k argument)) m ∙ ap (λ k. length (shortest_head (tree_major v) k)) n in
    ap length (encoding-is v) ∙ length-append (shortest_head (tree_major v) (argument_of v)) (content_bytes v) ∙
    ap (λ k. k + length (content_bytes v)) (sym first)

-- a size is that of the head and of what stands behind it
pub encoded_size-is : (v : Tree) (major argument head content size : ℕ) → major ≡ tree_major v →
    argument ≡ argument_of v → head ≡ length (shortest_head major argument)
    → content ≡ saturated (length (content_bytes v)) → size ≡ saturated (head + content) → size ≡ encoded_size v
encoded_size-is v major argument head content size m n h c s =
    let whole = encoding-length v major argument head m n h in omega (arith, c, s, whole)

-- a head behind which nothing stands
pub encoded_size-head : (v : Tree) (major argument head : ℕ) → major ≡ tree_major v → argument ≡ argument_of v →
    head ≡ length (shortest_head major argument) → head < 2 ^ 64 → content_bytes v ≡ [] → head ≡ encoded_size v
encoded_size-head v major argument head m n h fits none =
    let empty = ap length none in
    encoded_size-is v major argument head 0 head m n h (omega (arith, empty)) (omega (arith, fits))

pub encoding-spells : (v : Tree) → IsProperTree v → Spells (encoding v) (item_of v)
encoding-spells v h = written_spells (item_of v) (IsProperItem-item_of v h)

-- encodings that no byte tells apart are one
pub tied_encodings : (v w : Tree) → slice_cmp nat_cmp (encoding v) (encoding w) ≡ Equal → encoding v ≡ encoding w
tied_encodings v w e = slice_cmp-IsAntisymmetric nat_cmp-IsAntisymmetric (encoding v) (encoding w) e

-- ---- what stands behind the head of a value

pub content_bytes-Bytes : (w : Value) (v : Vec ℕ Global) (b : List ℕ) → w ≡ value.Bytes v → b ≡ v.items →
    content_bytes (tree_of w) ≡ b
content_bytes-Bytes w v b is payload = ap (λ x. content_bytes (tree_of x)) is ∙ ap content_bytes (tree_of-Bytes v) ∙
    sym payload

pub content_bytes-Text : (w : Value) (s : String Global) (b : List ℕ) → w ≡ value.Text s → b ≡ string_bytes s →
    content_bytes (tree_of w) ≡ b
content_bytes-Text w s b is payload = ap (λ x. content_bytes (tree_of x)) is ∙ ap content_bytes (tree_of-Text s) ∙
    sym payload

-- a number, a boolean or null
pub content_bytes-none : (w : Value) → ((z : ℤ) × (w ≡ value.Integer z)) ⊎
    (((b : Bool) × (w ≡ value.Bool b)) ⊎ (w ≡ value.Null)) → content_bytes (tree_of w) ≡ []
content_bytes-none w (inl is) = ap (λ x. content_bytes (tree_of x)) is.1 ∙ ap content_bytes (tree_of-Integer is.0)
content_bytes-none w (inr (inl is)) = ap (λ x. content_bytes (tree_of x)) is.1 ∙ ap content_bytes (tree_of-Bool is.0)
content_bytes-none w (inr (inr is)) = ap (λ x. content_bytes (tree_of x)) is ∙ ap content_bytes tree_of-Null

pub content_bytes-Tag : (w : Value) (t : ℕ) (b : Box Value Global) (v : Value) → w ≡ value.Tag t b → v ≡ b.value →
    content_bytes (tree_of w) ≡ encoding (tree_of v)
content_bytes-Tag w t b v is content = ap (λ x. content_bytes (tree_of x)) is ∙
    ap content_bytes (tree_of-Tag t b) ∙ ap (λ x. encoding (tree_of x)) (sym content)

pub content_bytes-Array : (w : Value) (v : Vec Value Global) → w ≡ value.Array v →
    content_bytes (tree_of w) ≡ encodings v.items
content_bytes-Array w v is = ap (λ x. content_bytes (tree_of x)) is ∙ ap content_bytes (tree_of-Array v)

pub content_bytes-Map : (w : Value) (v : Vec (Value × Value) Global) → w ≡ value.Map v →
    content_bytes (tree_of w) ≡ pair_encodings v.items
content_bytes-Map w v is = ap (λ x. content_bytes (tree_of x)) is ∙ ap content_bytes (tree_of-Map v)

-- ---- counts

pub argument_of-Array : (w : Value) (v : Vec Value Global) (n : ℕ) → w ≡ value.Array v → n ≡ vec_len v →
    n ≡ argument_of (tree_of w)
argument_of-Array w v n is count = count ∙ v.ok.0 ∙
    sym (trees_count-trees_of v.items) ∙ sym (ap (λ x. argument_of (tree_of x)) is ∙ ap argument_of (tree_of-Array v))

pub argument_of-Map : (w : Value) (v : Vec (Value × Value) Global) (n : ℕ) → w ≡ value.Map v → n ≡ vec_len v →
    n ≡ argument_of (tree_of w)
argument_of-Map w v n is count = count ∙ v.ok.0 ∙ sym (tree_pairs_count-tree_pairs_of v.items) ∙
    sym (ap (λ x. argument_of (tree_of x)) is ∙ ap argument_of (tree_of-Map v))

pub argument_of-Bytes : (w : Value) (v : Vec ℕ Global) (b : List ℕ) → w ≡ value.Bytes v → b ≡ v.items →
    argument_of (tree_of w) ≡ length b
argument_of-Bytes w v b is payload = ap (λ x. argument_of (tree_of x)) is ∙ ap argument_of (tree_of-Bytes v) ∙
    ap length (sym payload)

pub argument_of-Text : (w : Value) (s : String Global) (b : List ℕ) → w ≡ value.Text s → b ≡ string_bytes s →
    argument_of (tree_of w) ≡ length b
argument_of-Text w s b is payload = ap (λ x. argument_of (tree_of x)) is ∙ ap argument_of (tree_of-Text s) ∙
    ap length (sym payload)
