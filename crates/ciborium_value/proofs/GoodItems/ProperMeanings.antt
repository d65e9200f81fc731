-- What bytes within the greatest offset mean is a tree that a program can hold.
use Rattle.std.proofs.Common.{◌≡◌, ℕ, ◌+◌, ◌*◌, ◌^◌, ◌<◌, ◌≤◌, cond, ltb, leb, eqb, Bool, true, false, ◌||◌, List, []}
use Rattle.std.proofs.Common.{◌∷◌, ◌++◌, length, Option, Some, None, refl, ap, ◌∙◌, subst, sym, arith, length-append}
use Rattle.std.proofs.{Common.{IsUtf8, option_map, pos, negsuc, ltb-true}, lemmas.Str.{IsUtf8-append, IsUtf8-nil}}
use Rattle.std.proofs.lemmas.List.Elements.{All-append, All-nil, All-from_recursion, recursion_from_All, All-tail}
use Rattle.ciborium_ll.specs.{Bytes.{AreBytes, greatest_offset}, Head.{within, one_byte, two_bytes, four_bytes}}
use Rattle.ciborium_ll.specs.{Head.{eight_bytes, IsHead}, Item.{Item, unsigned, negative, bytes, text, array, map, tag}}
use Rattle.ciborium_ll.specs.Item.{simple, float, Items, no_items, item, items_count, Pairs, no_pairs, pair}
use Rattle.ciborium_ll.specs.{Item.pairs_count, ProperItems.{IsArgument, IsProperBytes}, Spells.{AreChunks, joined}}
use Rattle.ciborium_ll.specs.Spells.{IsString, IsContainer, Spells, SpellsItems, SpellsPairs}
use Rattle.ciborium_value.proofs.GoodItems.{Bounded.{enclosed-shorter, string-longer}, Spelled.spells-pos}
use Rattle.ciborium_value.specs.{Counts.{trees_count, tree_pairs_count}, Meaning.{meaning, items_meaning}}
use Rattle.ciborium_value.specs.Meaning.{pairs_meaning, trees_more, tree_pairs_more, simple_meaning, big_endian}
use Rattle.ciborium_value.specs.Meaning.{is_bignum_tag, bignum_meaning, unsigned_bignum, negative_bignum, without_zeros}
use Rattle.ciborium_value.specs.{Meaning.{folding_bytes, short_string, tag_meaning}, ProperTrees.IsProperTree}
use Rattle.ciborium_value.specs.{ProperTrees.{AreProperTrees, AreProperTreePairs}, Tree.{Tree, Trees, TreePairs}}
use Rattle.ciborium_value.specs.lemmas.ReadsBackBignums.{length-without_zeros}
use Rattle.ciborium_value.specs.Tree as trees

-- ---- proper, where there is one

abbrev Proper : Option Tree → Type 0
Proper None = Unit {0}
Proper (Some v) = IsProperTree v

abbrev ProperTrees : ℕ → Option Trees → Type 0
ProperTrees n None = Unit {0}
ProperTrees n (Some vs) = (trees_count vs ≤ n) × AreProperTrees vs

abbrev ProperPairs : ℕ → Option TreePairs → Type 0
ProperPairs n None = Unit {0}
ProperPairs n (Some ps) = (tree_pairs_count ps ≤ n) × AreProperTreePairs ps

abbrev ProperBytes : Option (List ℕ) → Type 0
ProperBytes None = Unit {0}
ProperBytes (Some b) = IsProperBytes b

either-proper : (t : Bool) (a b : Option Tree) → (t ≡ true → Proper a) → Proper b → Proper (cond t a b)
either-proper true a b h k = h refl
either-proper false a b h k = k

array-proper : (o : Option Trees) (n : ℕ) → ProperTrees n o → n ≤ greatest_offset → Proper (option_map trees.array o)
array-proper None n h k = tt
array-proper (Some vs) n h k = let few = h.0 in (omega (arith, few, k), h.1)

map-proper : (o : Option TreePairs) (n : ℕ) → ProperPairs n o → n ≤ greatest_offset → Proper (option_map trees.map o)
map-proper None n h k = tt
map-proper (Some ps) n h k = let few = h.0 in (omega (arith, few, k), h.1)

tagged-proper : (t : ℕ) (o : Option Tree) → IsArgument t → Proper o → Proper (option_map (trees.tag t) o)
tagged-proper t None h k = tt
tagged-proper t (Some v) h k = (h, k)

more-proper : (o : Option Tree) (os : Option Trees) (j k n : ℕ) → Proper o → ProperTrees k os → 0 < j → n ≡ j + k →
    ProperTrees n (trees_more o os)
more-proper (Some v) (Some vs) j k n f g some e = let few = g.0 in (omega (arith, few, some, e), (f, g.1))
more-proper u v j k n f g some e = tt

more_pairs-proper : (o u : Option Tree) (os : Option TreePairs) (j k n : ℕ) → Proper o → Proper u → ProperPairs k os →
    0 < j → n ≡ j + k → ProperPairs n (tree_pairs_more o u os)
more_pairs-proper (Some v) (Some w) (Some ps) j k n f g h some e = let few = h.0 in
    (omega (arith, few, some, e), (f, g, h.1))
more_pairs-proper u v w j k n f g h some e = tt

-- ---- bytes

-- both parts of a byte list are bytes
parts-bytes : (x y : List ℕ) → AreBytes (x ++ y) → AreBytes x × AreBytes y
parts-bytes [] y h = (All-nil (λ n. n < 256), h)
parts-bytes (n ∷ x) y h =
    let r = recursion_from_All (λ n. n < 256) (n ∷ (x ++ y)) h in
    let rest = parts-bytes x y (All-from_recursion (λ n. n < 256) (x ++ y) r.1) in
    (All-from_recursion (λ n. n < 256) (n ∷ x) (r.0, recursion_from_All (λ n. n < 256) x rest.0), rest.1)

pub split-bytes : (b x y : List ℕ) → b ≡ x ++ y → AreBytes b → AreBytes x × AreBytes y
split-bytes b x y e h = parts-bytes x y (subst AreBytes e h)

pub head-argument : (b : List ℕ) (m n : ℕ) → IsHead b m n → IsArgument n
head-argument b m n (within, lt, e) = omega (arith, lt)
head-argument b m n (one_byte, lt, e) = omega (arith, lt)
head-argument b m n (two_bytes, lt, e) = omega (arith, lt)
head-argument b m n (four_bytes, lt, e) = omega (arith, lt)
head-argument b m n (eight_bytes, lt, e) = lt

-- ---- strings

joined-bytes : (m : ℕ) (IsAllowed : List ℕ → Type 0) (ys : List (List ℕ)) (r : List ℕ) → AreChunks m IsAllowed r ys →
    AreBytes r → AreBytes (joined ys)
joined-bytes m IsAllowed [] r h k = All-nil (λ n. n < 256)
joined-bytes m IsAllowed (y ∷ ys) r (s, t, (h, head, ok, is), rest, e) k =
    let both = split-bytes r s t e k in
    All-append (λ n. n < 256) y (joined ys) (split-bytes s h y is both.0).1 (joined-bytes m IsAllowed ys t rest both.1)

string-bytes : (o : Bool) (m : ℕ) (IsAllowed : List ℕ → Type 0) (s y : List ℕ) → IsString o m IsAllowed s y →
    AreBytes s → AreBytes y
string-bytes false m IsAllowed s y (h, head, ok, is) k = (split-bytes s h y is k).1
string-bytes true m IsAllowed s y (ys, r, parts, same, is) k =
    let inner = All-tail (λ n. n < 256) (m * 32 + 31) (r ++ 255 ∷ []) (subst AreBytes is k) in
    subst AreBytes (sym same) (joined-bytes m IsAllowed ys r parts (parts-bytes r (255 ∷ []) inner).0)

string-proper : (o : Bool) (m : ℕ) (IsAllowed : List ℕ → Type 0) (s y : List ℕ) → IsString o m IsAllowed s y →
    AreBytes s → length s ≤ greatest_offset → IsProperBytes y
string-proper o m IsAllowed s y h k fits = let longer = string-longer o m IsAllowed s y h in
    (string-bytes o m IsAllowed s y h k, omega (arith, longer, fits))

joined-utf8 : (ps : List (List ℕ)) (s : List ℕ) → AreChunks 3 IsUtf8 s ps → IsUtf8 (joined ps)
joined-utf8 [] s h = IsUtf8-nil
joined-utf8 (p ∷ ps) s (t, r, (y, head, ok, is), rest, e) = IsUtf8-append p (joined ps) ok (joined-utf8 ps r rest)

text-utf8 : (o : Bool) (s y : List ℕ) → IsString o 3 IsUtf8 s y → IsUtf8 y
text-utf8 false s y (h, head, ok, is) = ok
text-utf8 true s y (ys, r, parts, same, is) = subst IsUtf8 (sym same) (joined-utf8 ys r parts)

chosen-proper : (t : Bool) (o : Option (List ℕ)) → ProperBytes o → ProperBytes (cond t o None)
chosen-proper true o h = h
chosen-proper false o h = tt

short-proper : (i : Item) (s : List ℕ) → Spells s i → AreBytes s → length s ≤ greatest_offset →
    ProperBytes (short_string i)
short-proper (bytes false y) s h k fits = chosen-proper (leb (length y) 16) (Some y)
    (string-proper false 2 AreBytes s y h k fits)
short-proper _ s h k fits = tt

-- ---- bignums and tags

either-bytes : (t : Bool) (a b : List ℕ) → AreBytes a → AreBytes b → AreBytes (cond t a b)
either-bytes true a b h k = h
either-bytes false a b h k = k

zeros-bytes : (b : List ℕ) → AreBytes b → AreBytes (without_zeros b)
zeros-bytes [] h = h
zeros-bytes (b ∷ bs) h =
    either-bytes (eqb b 0) (without_zeros bs) (b ∷ bs) (zeros-bytes bs (All-tail (λ n. n < 256) b bs h)) h

bignum-proper : (t : ℕ) (b : List ℕ) → IsProperBytes b → Proper (bignum_meaning t b)
unfolding bignum_meaning
bignum-proper t b h =
    let n : ℕ = big_endian b in
    let fits = h.1 in
    let shorter = length-without_zeros b in
    let rest : IsProperBytes (without_zeros b) = (zeros-bytes b h.0, omega (arith, shorter, fits)) in
    let tag2 : Option Tree = Some (trees.tag 2 (trees.bytes (without_zeros b))) in
    let tag3 : Option Tree = Some (trees.tag 3 (trees.bytes (without_zeros b))) in
    either-proper (eqb t 2) (unsigned_bignum n (without_zeros b)) (negative_bignum n (without_zeros b))
    (λ e. either-proper (ltb n (2 ^ 64)) (Some (trees.integer (pos n))) tag2 (λ u. ltb-true n (2 ^ 64) u)
    (omega arith, rest))
    (either-proper (ltb n (2 ^ 64)) (Some (trees.integer (negsuc n))) (cond (ltb n (2 ^ 127)) tag3 None)
    (λ u. ltb-true n (2 ^ 64) u)
    (either-proper (ltb n (2 ^ 127)) tag3 None (λ u. (omega arith, rest)) tt))

-- what proper bytes mean
pub proper_bignum : (t : ℕ) (b : List ℕ) (v : Tree) → IsProperBytes b → bignum_meaning t b ≡ Some v → IsProperTree v
proper_bignum t b v h e = subst Proper e (bignum-proper t b h)

tag-proper : (t : ℕ) (y : Option (List ℕ)) (o : Option Tree) → IsArgument t → ProperBytes y → Proper o →
    Proper (tag_meaning t y o)
tag-proper t None o h f g = tagged-proper t o h g
tag-proper t (Some y) o h f g = bignum-proper t y f

simple-proper : (n : ℕ) → Proper (simple_meaning n)
unfolding simple_meaning
simple-proper n =
    let null : Option Tree = cond (eqb n 22 || eqb n 23) (Some trees.null) None in
    either-proper (eqb n 20) (Some (trees.boolean false)) (cond (eqb n 21) (Some (trees.boolean true)) null) (λ e. tt)
    (either-proper (eqb n 21) (Some (trees.boolean true)) null (λ e. tt)
    (either-proper (eqb n 22 || eqb n 23) (Some trees.null) None (λ e. tt) tt))

-- ---- items

enclosed-bytes : (o : Bool) (m n : ℕ) (s r : List ℕ) → IsContainer o m n s r → AreBytes s → AreBytes r
enclosed-bytes false m n s r (h, head, is) k = (split-bytes s h r is k).1
enclosed-bytes true m n s r is k = (parts-bytes r (255 ∷ [])
    (All-tail (λ n. n < 256) (m * 32 + 31) (r ++ 255 ∷ []) (subst AreBytes is k))).0

mutual
  item-proper : (i : Item) (s : List ℕ) → Spells s i → AreBytes s → length s ≤ greatest_offset → Proper (meaning i)
  item-proper (unsigned n) s h k fits = head-argument s 0 n h
  item-proper (negative n) s h k fits = head-argument s 1 n h
  item-proper (bytes o y) s h k fits = string-proper o 2 AreBytes s y h k fits
  item-proper (text o y) s h k fits = (text-utf8 o s y h, string-proper o 3 IsUtf8 s y h k fits)
  item-proper (array o is) s h k fits =
      let less = enclosed-shorter o 4 (items_count is) s h.0 h.2 in
      let within : length h.0 ≤ greatest_offset = omega (arith, less, fits) in
      array-proper (items_meaning is) (length h.0) (items-proper is h.0 h.1
      (enclosed-bytes o 4 (items_count is) s h.0 h.2 k) within) within
  item-proper (map o ps) s h k fits =
      let less = enclosed-shorter o 5 (pairs_count ps) s h.0 h.2 in
      let within : length h.0 ≤ greatest_offset = omega (arith, less, fits) in
      map-proper (pairs_meaning ps) (length h.0) (pairs-proper ps h.0 h.1
      (enclosed-bytes o 5 (pairs_count ps) s h.0 h.2 k) within) within
  item-proper (tag t i) s h k fits =
      let both = split-bytes s h.0 h.1 h.4 k in
      let l : length s ≡ length h.0 + length h.1 = ap length h.4 ∙ length-append h.0 h.1 in
      let within : length h.1 ≤ greatest_offset = omega (arith, l, fits) in
      tag-proper t (folding_bytes t i) (meaning i) (head-argument h.0 6 t h.2)
      (chosen-proper (is_bignum_tag t) (short_string i) (short-proper i h.1 h.3 both.1 within))
      (item-proper i h.1 h.3 both.1 within)
  item-proper (simple n) s h k fits = simple-proper n
  item-proper (float r) s h k fits = tt

  items-proper : (is : Items) (s : List ℕ) → SpellsItems s is → AreBytes s → length s ≤ greatest_offset →
      ProperTrees (length s) (items_meaning is)
  items-proper no_items s h k fits = (omega arith, tt)
  items-proper (item i is) s h k fits =
      let both = split-bytes s h.0 h.1 h.4 k in
      let l : length s ≡ length h.0 + length h.1 = ap length h.4 ∙ length-append h.0 h.1 in
      more-proper (meaning i) (items_meaning is) (length h.0) (length h.1) (length s)
      (item-proper i h.0 h.2 both.0 (omega (arith, l, fits)))
      (items-proper is h.1 h.3 both.1 (omega (arith, l, fits))) (spells-pos i h.0 h.2) l

  pairs-proper : (ps : Pairs) (s : List ℕ) → SpellsPairs s ps → AreBytes s → length s ≤ greatest_offset →
      ProperPairs (length s) (pairs_meaning ps)
  pairs-proper no_pairs s h k fits = (omega arith, tt)
  pairs-proper (pair i v ps) s h k fits =
      let both = split-bytes s h.0 (h.1 ++ h.2) h.6 k in
      let rest = parts-bytes h.1 h.2 both.1 in
      let l : length s ≡ length h.0 + length (h.1 ++ h.2) = ap length h.6 ∙ length-append h.0 (h.1 ++ h.2) in
      let lr : length (h.1 ++ h.2) ≡ length h.1 + length h.2 = length-append h.1 h.2 in
      let some = spells-pos i h.0 h.3 in
      more_pairs-proper (meaning i) (meaning v) (pairs_meaning ps) (length h.0 + length h.1) (length h.2) (length s)
      (item-proper i h.0 h.3 both.0 (omega (arith, l, fits)))
      (item-proper v h.1 h.4 rest.0 (omega (arith, l, lr, fits)))
      (pairs-proper ps h.2 h.5 rest.1 (omega (arith, l, lr, fits))) (omega (arith, some)) (omega (arith, l, lr))

pub proper_meaning : (i : Item) (s : List ℕ) (v : Tree) → Spells s i → AreBytes s → length s ≤ greatest_offset →
    meaning i ≡ Some v → IsProperTree v
proper_meaning i s v h k fits e = subst Proper e (item-proper i s h k fits)
