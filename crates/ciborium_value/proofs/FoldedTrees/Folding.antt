-- What is folded folds no further.
use Rattle.std.proofs.Common.{le-leb, subst, ◌≡◌, ℕ, ◌^◌, ◌≤◌, cond, ltb, eqb, Bool, true, false, List, length, Option}
use Rattle.std.proofs.Common.{Some, None, refl, ap, ◌∙◌, arith, pos, negsuc, option_map}
use Rattle.ciborium_value.{proofs.FoldedTrees.Nests.{IsShort, short-bytes}, specs.{Encoding.item_of, Folded.folded}}
use Rattle.ciborium_value.specs.Folded.{short_bytes, tree_folding_bytes, tree_pairs_folded, trees_folded}
use Rattle.ciborium_value.specs.Meaning.{big_endian, without_zeros, bignum_meaning, unsigned_bignum, negative_bignum}
use Rattle.ciborium_value.specs.Meaning.{is_bignum_tag, tag_meaning, simple_meaning, trees_more, tree_pairs_more}
use Rattle.ciborium_value.specs.Tree.{Tree, integer, bytes, boolean, tag, array, map, Trees, no_trees, tree, TreePairs}
use Rattle.ciborium_value.specs.{Tree.{no_tree_pairs, tree_pair}, laws.FoldingLaws.FoldsOnce}
use Rattle.ciborium_value.specs.lemmas.ReadsBackBignums.{zeros_hold_nothing, no_zeros_twice, length-without_zeros}

-- the leading zeros of a bignum do not change what it means
bignum_meaning-without_zeros : (t : ℕ) (b : List ℕ) → bignum_meaning t (without_zeros b) ≡ bignum_meaning t b
unfolding bignum_meaning
bignum_meaning-without_zeros t b = ap (λ n. cond (eqb t 2) (unsigned_bignum n (without_zeros (without_zeros b)))
    (negative_bignum n (without_zeros (without_zeros b)))) (zeros_hold_nothing b) ∙
    ap (λ c. cond (eqb t 2) (unsigned_bignum (big_endian b) c) (negative_bignum (big_endian b) c)) (no_zeros_twice b)

-- of what folding answers, that folding changes nothing more
abbrev IsFolded : Option Tree → Type 0
IsFolded None = Unit {0}
IsFolded (Some w) = folded w ≡ Some w

abbrev AreFolded : Option Trees → Type 0
AreFolded None = Unit {0}
AreFolded (Some ws) = trees_folded ws ≡ Some ws

abbrev PairsAreFolded : Option TreePairs → Type 0
PairsAreFolded None = Unit {0}
PairsAreFolded (Some ps) = tree_pairs_folded ps ≡ Some ps

-- a tag folds over what folding answers as it folds over these bytes
abbrev KeepsBytes : Option (List ℕ) → Option Tree → Type 0
KeepsBytes o None = Unit {0}
KeepsBytes o (Some w) = short_bytes w ≡ o

-- a bignum tag over few bytes folds
pub folded-bignum : (t : ℕ) (b : List ℕ) → is_bignum_tag t ≡ true → length b ≤ 16 →
    folded (tag t (bytes b)) ≡ bignum_meaning t b
folded-bignum t b is h = ap (λ c. tag_meaning t (cond c (short_bytes (bytes b)) None) (Some (bytes b))) is ∙
    ap (λ c. tag_meaning t (cond c (Some b) None) (Some (bytes b))) (le-leb (length b) 16 h)

-- a bignum that stays a tag is folded
bignum_stays : (t : ℕ) (b : List ℕ) → is_bignum_tag t ≡ true → length b ≤ 16 →
    bignum_meaning t b ≡ Some (tag t (bytes (without_zeros b))) →
    folded (tag t (bytes (without_zeros b))) ≡ Some (tag t (bytes (without_zeros b)))
bignum_stays t b is h e =
    let short : length (without_zeros b) ≤ 16 = omega (arith, length-without_zeros b) in
    folded-bignum t (without_zeros b) is short ∙ bignum_meaning-without_zeros t b ∙ e

IsFolded-unsigned : (b : List ℕ) → length b ≤ 16 → (c : Bool) → ltb (big_endian b) (2 ^ 64) ≡ c →
    IsFolded (cond c (Some (integer (pos (big_endian b)))) (Some (tag 2 (bytes (without_zeros b)))))
unfolding bignum_meaning
IsFolded-unsigned b h true e = refl
IsFolded-unsigned b h false e = bignum_stays 2 b refl h (ap (λ c. cond c (Some (integer (pos (big_endian b))))
    (Some (tag 2 (bytes (without_zeros b))))) e)

IsFolded-negative : (b : List ℕ) → length b ≤ 16 → (c d : Bool) → ltb (big_endian b) (2 ^ 64) ≡ c →
    ltb (big_endian b) (2 ^ 127) ≡ d →
    IsFolded (cond c (Some (integer (negsuc (big_endian b)))) (cond d (Some (tag 3 (bytes (without_zeros b)))) None))
unfolding bignum_meaning
IsFolded-negative b h true d e f = refl
IsFolded-negative b h false false e f = tt
IsFolded-negative b h false true e f = bignum_stays 3 b refl h (ap (λ c. cond c (Some (integer (negsuc (big_endian b))))
    (cond (ltb (big_endian b) (2 ^ 127)) (Some (tag 3 (bytes (without_zeros b)))) None)) e ∙
    ap (λ c. cond c (Some (tag 3 (bytes (without_zeros b)))) None) f)

IsFolded-bignum : (t : ℕ) (b : List ℕ) → length b ≤ 16 → IsFolded (bignum_meaning t b)
unfolding bignum_meaning
IsFolded-bignum t b h = by (eqb t 2)
  where
    by : (c : Bool) → IsFolded (cond c (unsigned_bignum (big_endian b) (without_zeros b))
        (negative_bignum (big_endian b) (without_zeros b)))
    by true = IsFolded-unsigned b h (ltb (big_endian b) (2 ^ 64)) refl
    by false = IsFolded-negative b h (ltb (big_endian b) (2 ^ 64)) (ltb (big_endian b) (2 ^ 127)) refl refl

IsFolded-tag : (t : ℕ) (c : Bool) (o : Option (List ℕ)) (m : Option Tree) →
    is_bignum_tag t ≡ c → IsShort o → KeepsBytes o m → IsFolded m → IsFolded (tag_meaning t (cond c o None) m)
IsFolded-tag t true (Some b) m is short keeps h = IsFolded-bignum t b short
IsFolded-tag t true None (Some w) is short keeps h =
    ap (λ c. tag_meaning t (cond c (short_bytes w) None) (folded w)) is ∙ ap (λ o. tag_meaning t o (folded w)) keeps ∙
    ap (option_map (tag t)) h
IsFolded-tag t false o (Some w) is short keeps h = ap (λ c. tag_meaning t (cond c (short_bytes w) None) (folded w)) is ∙
    ap (option_map (tag t)) h
IsFolded-tag t u v w is short keeps h = tt

IsFolded-array : (o : Option Trees) → AreFolded o → IsFolded (option_map array o)
IsFolded-array None h = tt
IsFolded-array (Some ws) h = ap (option_map array) h

IsFolded-map : (o : Option TreePairs) → PairsAreFolded o → IsFolded (option_map map o)
IsFolded-map None h = tt
IsFolded-map (Some ps) h = ap (option_map map) h

AreFolded-more : (m : Option Tree) (ms : Option Trees) → IsFolded m → AreFolded ms → AreFolded (trees_more m ms)
AreFolded-more (Some v) (Some vs) h k = ap (λ o. trees_more o (trees_folded vs)) h ∙ ap (trees_more (Some v)) k
AreFolded-more u v h k = tt

PairsAreFolded-more : (m n : Option Tree) (ms : Option TreePairs) → IsFolded m → IsFolded n → PairsAreFolded ms →
    PairsAreFolded (tree_pairs_more m n ms)
PairsAreFolded-more (Some k) (Some v) (Some ps) h i j =
    ap (λ o. tree_pairs_more o (folded v) (tree_pairs_folded ps)) h ∙
    ap (λ o. tree_pairs_more (Some k) o (tree_pairs_folded ps)) i ∙ ap (tree_pairs_more (Some k) (Some v)) j
PairsAreFolded-more u v w h i j = tt

KeepsBytes-folded : (v : Tree) → KeepsBytes (short_bytes v) (folded v)
unfolding bignum_meaning simple_meaning
KeepsBytes-folded (tag t v) = tagged (tree_folding_bytes t v) (folded v)
  where
    chosen : (c : Bool) (o p : Option Tree) → KeepsBytes None o → KeepsBytes None p → KeepsBytes None (cond c o p)
    chosen true o p h k = h
    chosen false o p h k = k

    tagged : (o : Option (List ℕ)) (m : Option Tree) → KeepsBytes None (tag_meaning t o m)
    tagged (Some b) m = chosen (eqb t 2) _ _ (chosen (ltb (big_endian b) (2 ^ 64)) _ _ refl refl)
        (chosen (ltb (big_endian b) (2 ^ 64)) _ _ refl (chosen (ltb (big_endian b) (2 ^ 127)) _ _ refl tt))
    tagged None None = tt
    tagged None (Some w) = refl
KeepsBytes-folded (array vs) = by (trees_folded vs)
  where
    by : (o : Option Trees) → KeepsBytes None (option_map array o)
    by None = tt
    by (Some ws) = refl
KeepsBytes-folded (map ps) = by (tree_pairs_folded ps)
  where
    by : (o : Option TreePairs) → KeepsBytes None (option_map map o)
    by None = tt
    by (Some qs) = refl
KeepsBytes-folded (integer (pos n)) = refl
KeepsBytes-folded (integer (negsuc n)) = refl
KeepsBytes-folded (boolean false) = refl
KeepsBytes-folded (boolean true) = refl
KeepsBytes-folded _ = refl

mutual
  unfolding simple_meaning

  IsFolded-folded : (v : Tree) → IsFolded (folded v)
  IsFolded-folded (tag t v) = IsFolded-tag t (is_bignum_tag t)
      (short_bytes v) (folded v) refl (short-bytes (item_of v)) (KeepsBytes-folded v) (IsFolded-folded v)
  IsFolded-folded (array vs) = IsFolded-array (trees_folded vs) (AreFolded-trees_folded vs)
  IsFolded-folded (map ps) = IsFolded-map (tree_pairs_folded ps) (PairsAreFolded-tree_pairs_folded ps)
  IsFolded-folded (integer (pos n)) = refl
  IsFolded-folded (integer (negsuc n)) = refl
  IsFolded-folded (boolean false) = refl
  IsFolded-folded (boolean true) = refl
  IsFolded-folded _ = refl

  AreFolded-trees_folded : (vs : Trees) → AreFolded (trees_folded vs)
  AreFolded-trees_folded no_trees = refl
  AreFolded-trees_folded (tree v vs) = AreFolded-more (folded v) (trees_folded vs) (IsFolded-folded v)
      (AreFolded-trees_folded vs)

  PairsAreFolded-tree_pairs_folded : (ps : TreePairs) → PairsAreFolded (tree_pairs_folded ps)
  PairsAreFolded-tree_pairs_folded no_tree_pairs = refl
  PairsAreFolded-tree_pairs_folded (tree_pair k v ps) = PairsAreFolded-more (folded k)
      (folded v) (tree_pairs_folded ps) (IsFolded-folded k) (IsFolded-folded v) (PairsAreFolded-tree_pairs_folded ps)

pub folds_once : FoldsOnce
folds_once v w h = subst IsFolded h (IsFolded-folded v)
