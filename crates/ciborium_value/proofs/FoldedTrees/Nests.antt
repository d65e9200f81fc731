-- What an item means nests no deeper than the item.
use Rattle.std.proofs.Common.{◌≡◌, ◌≤◌, ◌^◌, ◌==◌, ◌||◌, ℕ, suc, max, Bool, true, false, cond, eqb, ltb, leb, le-leb}
use Rattle.std.proofs.Common.{leb-true, List, length, Option, Some, None, option_map, refl, subst, arith}
use Rattle.ciborium_ll.specs.Item.{Item, Items, Pairs}
use Rattle.ciborium_value.specs.{Encoding.{item_of, items_of, pairs_of}, Meaning.{big_endian, bignum_meaning}}
use Rattle.ciborium_value.specs.Meaning.{folding_bytes, is_bignum_tag, items_meaning, meaning, pairs_meaning}
use Rattle.ciborium_value.specs.Meaning.{short_string, simple_meaning, tag_meaning, tree_pairs_more, trees_more}
use Rattle.ciborium_value.specs.{Meaning.without_zeros, Nesting.{items_nesting, nesting, pairs_nesting, tag_nesting}}
use Rattle.ciborium_value.specs.{Tree.{Tree, Trees, TreePairs}, laws.FoldingLaws.MeaningNests}
use Rattle.ciborium_value.specs.lemmas.ReadsBackBignums.{length-without_zeros}
use Rattle.ciborium_ll.specs.Item as items
use Rattle.ciborium_value.specs.Tree as trees

-- what is meant, if anything is, takes so many levels at most
abbrev Fits : ℕ → Option Tree → Type 0
Fits n None = Unit {0}
Fits n (Some t) = nesting (item_of t) ≤ n

abbrev AllFit : ℕ → Option Trees → Type 0
AllFit n None = Unit {0}
AllFit n (Some ts) = items_nesting (items_of ts) ≤ n

abbrev PairsFit : ℕ → Option TreePairs → Type 0
PairsFit n None = Unit {0}
PairsFit n (Some ps) = pairs_nesting (pairs_of ps) ≤ n

-- ---- what takes no level

either : (c : Bool) (o p : Option Tree) → Fits 0 o → Fits 0 p → Fits 0 (cond c o p)
either true o p h k = h
either false o p h k = k

simple-fits : (n : ℕ) → Fits 0 (simple_meaning n)
unfolding simple_meaning
simple-fits n = either (n == 20) _ _ (omega arith) (either (n == 21) _ _ (omega arith)
    (either ((n == 22) || (n == 23)) _ _ (omega arith) tt))

-- a bignum that stays a tag folds again
bignum-fits : (t : ℕ) (b : List ℕ) → length b ≤ 16 → Fits 0 (bignum_meaning t b)
unfolding bignum_meaning
bignum-fits t b short =
    let few : length (without_zeros b) ≤ 16 = omega (arith, short, length-without_zeros b) in
    let none : tag_nesting (cond (leb (length (without_zeros b)) 16) (Some (without_zeros b)) None) 0 ≤ 0 =
    rw (le-leb (length (without_zeros b)) 16 few) (omega arith) in
    either (eqb t 2) _ _ (either (ltb (big_endian b) (2 ^ 64)) _ _ (omega arith) none)
    (either (ltb (big_endian b) (2 ^ 64)) _ _ (omega arith) (either (ltb (big_endian b) (2 ^ 127)) _ _ none tt))

-- the bytes over which a tag folds are few
abbrev pub IsShort : Option (List ℕ) → Type 0
IsShort None = Unit {0}
IsShort (Some b) = length b ≤ 16

pub short-bytes : (i : Item) → IsShort (short_string i)
short-bytes (items.bytes false b) = by (leb (length b) 16) refl
  where
    by : (c : Bool) → leb (length b) 16 ≡ c → IsShort (cond c (Some b) None)
    by true e = leb-true (length b) 16 e
    by false e = tt
short-bytes _ = tt

-- ---- what takes one

one-level : (o : Option (List ℕ)) (n : ℕ) → tag_nesting o n ≤ suc n
one-level (Some b) n = omega arith
one-level None n = omega arith

under-fits : (t n : ℕ) (o : Option Tree) → Fits n o → Fits (suc n) (option_map (trees.tag t) o)
under-fits t n None h = tt
under-fits t n (Some v) h = omega (arith, h, one-level (folding_bytes t (item_of v)) (nesting (item_of v)))

tag-fits : (t : ℕ) (c : Bool) (o : Option (List ℕ)) (n : ℕ) (m : Option Tree) → IsShort o → Fits n m →
    Fits (tag_nesting (cond c o None) n) (tag_meaning t (cond c o None) m)
tag-fits t true (Some b) n m short h = bignum-fits t b short
tag-fits t true None n m short h = under-fits t n m h
tag-fits t false o n m short h = under-fits t n m h

array-fits : (n : ℕ) (o : Option Trees) → AllFit n o → Fits (suc n) (option_map trees.array o)
array-fits n None h = tt
array-fits n (Some ts) h = omega (arith, h)

map-fits : (n : ℕ) (o : Option TreePairs) → PairsFit n o → Fits (suc n) (option_map trees.map o)
map-fits n None h = tt
map-fits n (Some ps) h = omega (arith, h)

more-fit : (n m : ℕ) (o : Option Tree) (r : Option Trees) → Fits n o → AllFit m r → AllFit (max n m) (trees_more o r)
more-fit n m (Some v) (Some vs) h k = omega (arith, h, k)
more-fit n m u v h k = tt

pair-fits : (n m l : ℕ) (o p : Option Tree) (r : Option TreePairs) → Fits n o → Fits m p → PairsFit l r →
    PairsFit (max (max n m) l) (tree_pairs_more o p r)
pair-fits n m l (Some k) (Some v) (Some ps) f g h = omega (arith, f, g, h)
pair-fits n m l u v w f g h = tt

mutual
  fits : (i : Item) → Fits (nesting i) (meaning i)
  fits (items.array open_ is) = array-fits (items_nesting is) (items_meaning is) (all-fit is)
  fits (items.map open_ ps) = map-fits (pairs_nesting ps) (pairs_meaning ps) (pairs-fit ps)
  fits (items.tag t i) = tag-fits t (is_bignum_tag t) (short_string i) (nesting i) (meaning i) (short-bytes i) (fits i)
  fits (items.simple n) = simple-fits n
  fits (items.float raw) = tt
  fits _ = omega arith

  all-fit : (is : Items) → AllFit (items_nesting is) (items_meaning is)
  all-fit items.no_items = omega arith
  all-fit (items.item i is) = more-fit _ _ (meaning i) (items_meaning is) (fits i) (all-fit is)

  pairs-fit : (ps : Pairs) → PairsFit (pairs_nesting ps) (pairs_meaning ps)
  pairs-fit items.no_pairs = omega arith
  pairs-fit (items.pair k v ps) =
      pair-fits _ _ _ (meaning k) (meaning v) (pairs_meaning ps) (fits k) (fits v) (pairs-fit ps)

pub meaning_nests : MeaningNests
meaning_nests i t h = subst (Fits (nesting i)) h (fits i)
