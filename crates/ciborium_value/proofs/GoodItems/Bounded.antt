-- A tree is no larger than the bytes of its item: it has at most as many nodes and bytes of strings, taken together.
use Rattle.std.proofs.Common.{◌≡◌, ℕ, suc, ◌+◌, ◌^◌, ◌<◌, ◌≤◌, cond, ltb, leb, eqb, Bool, true, false, ◌||◌, List, []}
use Rattle.std.proofs.Common.{◌∷◌, ◌++◌, length, Option, Some, None, ap, ◌∙◌, subst, arith, length-append, IsUtf8}
use Rattle.std.proofs.Common.{option_map, pos, negsuc}
use Rattle.ciborium_value.specs.{Tree.{Tree, Trees, TreePairs}, Meaning.{meaning, items_meaning, pairs_meaning}}
use Rattle.ciborium_value.specs.Meaning.{trees_more, tree_pairs_more, simple_meaning, big_endian, is_bignum_tag}
use Rattle.ciborium_value.specs.Meaning.{bignum_meaning, unsigned_bignum, negative_bignum, without_zeros, folding_bytes}
use Rattle.ciborium_value.specs.{Meaning.{short_string, tag_meaning}, Counts.{node_count, payload_size}}
use Rattle.ciborium_value.specs.Counts.{trees_node_count, trees_payload_size, tree_pairs_node_count}
use Rattle.ciborium_value.specs.{Counts.tree_pairs_payload_size, lemmas.ReadsBackBignums.length-without_zeros}
use Rattle.ciborium_ll.specs.{Bytes.AreBytes, Item.{Item, unsigned, negative, bytes, text, array, map, tag, simple}}
use Rattle.ciborium_ll.specs.Item.{float, Items, no_items, item, items_count, Pairs, no_pairs, pair, pairs_count}
use Rattle.ciborium_ll.specs.Spells.{AreChunks, joined, IsString, IsContainer, Spells, SpellsItems, SpellsPairs}
use Rattle.ciborium_ll.proofs.FrontHeads.{head-length}
use Rattle.ciborium_value.proofs.GoodItems.Spelled.{spells-pos}
use Rattle.ciborium_value.specs.Tree as trees

-- ---- what fits into n bytes: a tree, trees, pairs of trees, and the payload of a string with its head

abbrev Fits : ℕ → Option Tree → Type 0
Fits n None = Unit {0}
Fits n (Some v) = node_count v + payload_size v ≤ n

abbrev TreesFit : ℕ → Option Trees → Type 0
TreesFit n None = Unit {0}
TreesFit n (Some vs) = trees_node_count vs + trees_payload_size vs ≤ n

abbrev PairsFit : ℕ → Option TreePairs → Type 0
PairsFit n None = Unit {0}
PairsFit n (Some ps) = tree_pairs_node_count ps + tree_pairs_payload_size ps ≤ n

abbrev PayloadFits : ℕ → Option (List ℕ) → Type 0
PayloadFits n None = Unit {0}
PayloadFits n (Some y) = length y < n

either-fits : (t : Bool) (a b : Option Tree) (n : ℕ) → Fits n a → Fits n b → Fits n (cond t a b)
either-fits true a b n h k = h
either-fits false a b n h k = k

payload-chosen : (t : Bool) (o : Option (List ℕ)) (n : ℕ) → PayloadFits n o → PayloadFits n (cond t o None)
payload-chosen true o n h = h
payload-chosen false o n h = tt

array-fits : (o : Option Trees) (m n : ℕ) → TreesFit m o → m < n → Fits n (option_map trees.array o)
array-fits None m n h k = tt
array-fits (Some vs) m n h k = omega (arith, h, k)

map-fits : (o : Option TreePairs) (m n : ℕ) → PairsFit m o → m < n → Fits n (option_map trees.map o)
map-fits None m n h k = tt
map-fits (Some ps) m n h k = omega (arith, h, k)

tagged-fits : (t : ℕ) (o : Option Tree) (m n : ℕ) → Fits m o → m < n → Fits n (option_map (trees.tag t) o)
tagged-fits t None m n h k = tt
tagged-fits t (Some v) m n h k = omega (arith, h, k)

more-fit : (o : Option Tree) (os : Option Trees) (j k n : ℕ) → Fits j o → TreesFit k os → n ≡ j + k →
    TreesFit n (trees_more o os)
more-fit (Some v) (Some vs) j k n f g e = omega (arith, f, g, e)
more-fit u v j k n f g e = tt

more_pairs-fit : (o u : Option Tree) (os : Option TreePairs) (i j k n : ℕ) → Fits i o → Fits j u → PairsFit k os →
    n ≡ i + j + k → PairsFit n (tree_pairs_more o u os)
more_pairs-fit (Some v) (Some w) (Some ps) i j k n f g h e = omega (arith, f, g, h, e)
more_pairs-fit u v w i j k n f g h e = tt

-- ---- strings

parts-longer : (m : ℕ) (IsAllowed : List ℕ → Type 0) (ys : List (List ℕ)) (r : List ℕ) → AreChunks m IsAllowed r ys →
    length (joined ys) ≤ length r
parts-longer m IsAllowed [] r h = omega arith
parts-longer m IsAllowed (y ∷ ys) r h =
    let rest = parts-longer m IsAllowed ys h.1 h.3 in
    let lr : length r ≡ length h.0 + length h.1 = ap length h.4 ∙ length-append h.0 h.1 in
    let ls : length h.0 ≡ length h.2.0 + length y = ap length h.2.3 ∙ length-append h.2.0 y in
    let lj : length (joined (y ∷ ys)) ≡ length y + length (joined ys) = length-append y (joined ys) in
    omega (arith, rest, lr, ls, lj)

pub string-longer : (o : Bool) (m : ℕ) (IsAllowed : List ℕ → Type 0) (s y : List ℕ) → IsString o m IsAllowed s y →
    length y < length s
string-longer false m IsAllowed s y h =
    let l : length s ≡ length h.0 + length y = ap length h.3 ∙ length-append h.0 y in
    let pos = head-length h.0 m (length y) h.1 in
    omega (arith, l, pos)
string-longer true m IsAllowed s y h =
    let l : length s ≡ suc (length (h.1 ++ (255 ∷ []))) = ap length h.4 in
    let lr : length (h.1 ++ (255 ∷ [])) ≡ length h.1 + 1 = length-append h.1 (255 ∷ []) in
    let ly : length y ≡ length (joined h.0) = ap length h.3 in
    let rest = parts-longer m IsAllowed h.0 h.1 h.2 in
    omega (arith, l, lr, ly, rest)

short-fits : (i : Item) (s : List ℕ) → Spells s i → PayloadFits (length s) (short_string i)
short-fits (bytes false y) s h = payload-chosen (leb (length y) 16) (Some y) (length s)
    (string-longer false 2 AreBytes s y h)
short-fits _ s h = tt

-- ---- bignums and tags

unsigned-fits : (k : ℕ) (b : List ℕ) (n : ℕ) → 2 + length b ≤ n → Fits n (unsigned_bignum k b)
unsigned-fits k b n h = either-fits (ltb k (2 ^ 64))
    (Some (trees.integer (pos k))) (Some (trees.tag 2 (trees.bytes b))) n (omega (arith, h)) (omega (arith, h))

negative-fits : (k : ℕ) (b : List ℕ) (n : ℕ) → 2 + length b ≤ n → Fits n (negative_bignum k b)
negative-fits k b n h =
    let tag3 : Option Tree = Some (trees.tag 3 (trees.bytes b)) in
    either-fits (ltb k (2 ^ 64)) (Some (trees.integer (negsuc k))) (cond (ltb k (2 ^ 127)) tag3 None) n
    (omega (arith, h))
    (either-fits (ltb k (2 ^ 127)) tag3 None n (omega (arith, h)) tt)

bignum-fits : (t : ℕ) (b : List ℕ) (n : ℕ) → 2 + length b ≤ n → Fits n (bignum_meaning t b)
unfolding bignum_meaning
bignum-fits t b n h =
    let z = length-without_zeros b in
    let room : 2 + length (without_zeros b) ≤ n = omega (arith, h, z) in
    either-fits (eqb t 2) (unsigned_bignum (big_endian b) (without_zeros b))
    (negative_bignum (big_endian b) (without_zeros b)) n
    (unsigned-fits (big_endian b) (without_zeros b) n room) (negative-fits (big_endian b) (without_zeros b) n room)

tag-fits : (t : ℕ) (y : Option (List ℕ)) (o : Option Tree) (m n : ℕ) → PayloadFits m y → Fits m o → m < n →
    Fits n (tag_meaning t y o)
tag-fits t None o m n f g k = tagged-fits t o m n g k
tag-fits t (Some y) o m n f g k = bignum-fits t y n (omega (arith, f, k))

simple-fits : (n m : ℕ) → 0 < m → Fits m (simple_meaning n)
unfolding simple_meaning
simple-fits n m h =
    let no : Option Tree = Some (trees.boolean false) in
    let yes : Option Tree = Some (trees.boolean true) in
    let null : Option Tree = cond (eqb n 22 || eqb n 23) (Some trees.null) None in
    either-fits (eqb n 20) no (cond (eqb n 21) yes null) m (omega (arith, h))
    (either-fits (eqb n 21) yes null m (omega (arith, h))
    (either-fits (eqb n 22 || eqb n 23) (Some trees.null) None m (omega (arith, h)) tt))

-- ---- items

pub enclosed-shorter : (o : Bool) (m n : ℕ) (s r : List ℕ) → IsContainer o m n s r → length r < length s
enclosed-shorter false m n s r h =
    let l : length s ≡ length h.0 + length r = ap length h.2 ∙ length-append h.0 r in
    let pos = head-length h.0 m n h.1 in
    omega (arith, l, pos)
enclosed-shorter true m n s r h =
    let l : length s ≡ suc (length (r ++ (255 ∷ []))) = ap length h in
    let lr : length (r ++ (255 ∷ [])) ≡ length r + 1 = length-append r (255 ∷ []) in
    omega (arith, l, lr)

mutual
  item-fits : (i : Item) (s : List ℕ) → Spells s i → Fits (length s) (meaning i)
  item-fits (unsigned n) s h = let pos = spells-pos (unsigned n) s h in omega (arith, pos)
  item-fits (negative n) s h = let pos = spells-pos (negative n) s h in omega (arith, pos)
  item-fits (bytes o y) s h = let l = string-longer o 2 AreBytes s y h in omega (arith, l)
  item-fits (text o y) s h = let l = string-longer o 3 IsUtf8 s y h in omega (arith, l)
  item-fits (array o is) s h = array-fits (items_meaning is) (length h.0) (length s) (items-fit is h.0 h.1)
      (enclosed-shorter o 4 (items_count is) s h.0 h.2)
  item-fits (map o ps) s h = map-fits (pairs_meaning ps) (length h.0) (length s) (pairs-fit ps h.0 h.1)
      (enclosed-shorter o 5 (pairs_count ps) s h.0 h.2)
  item-fits (tag t i) s h =
      let l : length s ≡ length h.0 + length h.1 = ap length h.4 ∙ length-append h.0 h.1 in
      let pos = head-length h.0 6 t h.2 in
      tag-fits t (folding_bytes t i) (meaning i) (length h.1) (length s)
      (payload-chosen (is_bignum_tag t) (short_string i) (length h.1) (short-fits i h.1 h.3)) (item-fits i h.1 h.3)
      (omega (arith, l, pos))
  item-fits (simple n) s h = simple-fits n (length s) (spells-pos (simple n) s h)
  item-fits (float r) s h = tt

  items-fit : (is : Items) (s : List ℕ) → SpellsItems s is → TreesFit (length s) (items_meaning is)
  items-fit no_items s h = omega arith
  items-fit (item i is) s h = more-fit (meaning i) (items_meaning is) (length h.0)
      (length h.1) (length s) (item-fits i h.0 h.2) (items-fit is h.1 h.3) (ap length h.4 ∙ length-append h.0 h.1)

  pairs-fit : (ps : Pairs) (s : List ℕ) → SpellsPairs s ps → PairsFit (length s) (pairs_meaning ps)
  pairs-fit no_pairs s h = omega arith
  pairs-fit (pair k v ps) s h =
      let l : length s ≡ length h.0 + length (h.1 ++ h.2) = ap length h.6 ∙ length-append h.0 (h.1 ++ h.2) in
      let lr : length (h.1 ++ h.2) ≡ length h.1 + length h.2 = length-append h.1 h.2 in
      more_pairs-fit (meaning k) (meaning v) (pairs_meaning ps) (length h.0) (length h.1) (length h.2) (length s)
      (item-fits k h.0 h.3) (item-fits v h.1 h.4) (pairs-fit ps h.2 h.5) (omega (arith, l, lr))

pub bounded : (i : Item) (s : List ℕ) (v : Tree) → Spells s i → meaning i ≡ Some v →
    node_count v + payload_size v ≤ length s
bounded i s v h e = subst (Fits (length s)) e (item-fits i s h)
