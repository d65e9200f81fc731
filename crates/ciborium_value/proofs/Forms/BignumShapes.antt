-- What a bignum tag stands over, and what it means: an integer, or a tag over bytes.
use Rattle.std.proofs.Common.{◌≡◌, ℕ, ◌^◌, Bool, true, false, cond, eqb, ltb, List, Option, Some, None, refl, subst, ℤ}
use Rattle.std.proofs.Common.{pos, negsuc}
use Rattle.ciborium_value.specs.{Deterministic.HasRisingKeys, Folded.{short_bytes, tree_folding_bytes}}
use Rattle.ciborium_value.specs.Meaning.{is_bignum_tag, big_endian, without_zeros, bignum_meaning, unsigned_bignum}
use Rattle.ciborium_value.specs.{Meaning.negative_bignum, Tree.{Tree, integer, bytes, tag, array, map}}
use Rattle.ciborium_value.specs.declared.key_order.KeyOrder.{KeyOrder}

-- ---- the bytes on which a tag folds

-- in a byte string over which a tag folds there is no map
pub rises_where_short : (o : KeyOrder) (v : Tree) (b : List ℕ) → short_bytes v ≡ Some b → HasRisingKeys o v
rises_where_short o (tag t v) b e = absurd cc
rises_where_short o (array vs) b e = absurd cc
rises_where_short o (map ps) b e = absurd cc
rises_where_short o _ b e = tt

-- the content of a tag that folds is such a string
pub short_where_folding : (t : ℕ) (v : Tree) (b : List ℕ) → tree_folding_bytes t v ≡ Some b → short_bytes v ≡ Some b
short_where_folding t v b e = by (is_bignum_tag t) e
  where
    by : (c : Bool) → cond c (short_bytes v) None ≡ Some b → short_bytes v ≡ Some b
    by true f = f
    by false f = absurd cc

-- ---- what bytes mean on which a tag folds

-- of what there is
abbrev Holds : (Tree → Type 0) → Option Tree → Type 0
Holds IsSome None = Unit {0}
Holds IsSome (Some u) = IsSome u

-- what holds of integers and of tags over bytes holds of what bytes mean
pub bignum-holds : (IsSome : Tree → Type 0) → ((z : ℤ) → IsSome (integer z)) →
    ((t : ℕ) (b : List ℕ) → IsSome (tag t (bytes b))) → (t : ℕ) (b : List ℕ) (u : Tree) → bignum_meaning t b ≡ Some u →
    IsSome u
unfolding bignum_meaning
bignum-holds IsSome number tagged t b u e =
    let n : ℕ = big_endian b in
    let c : List ℕ = without_zeros b in
    subst (Holds IsSome) e
    (chosen (eqb t 2) (unsigned_bignum n c) (negative_bignum n c)
    (chosen (ltb n (2 ^ 64)) (Some (integer (pos n))) (Some (tag 2 (bytes c))) (number (pos n)) (tagged 2 c))
    (chosen (ltb n (2 ^ 64)) (Some (integer (negsuc n))) (cond (ltb n (2 ^ 127)) (Some (tag 3 (bytes c))) None)
    (number (negsuc n))
    (chosen (ltb n (2 ^ 127)) (Some (tag 3 (bytes c))) None (tagged 3 c) tt)))
  where
    chosen : (a : Bool) (m n : Option Tree) → Holds IsSome m → Holds IsSome n → Holds IsSome (cond a m n)
    chosen true m n h k = h
    chosen false m n h k = k

-- it is no byte string
pub bignum-no_bytes : (t : ℕ) (b : List ℕ) (u : Tree) → bignum_meaning t b ≡ Some u → short_bytes u ≡ None
bignum-no_bytes = bignum-holds (λ u. short_bytes u ≡ None) number (λ t b. refl)
  where
    number : (z : ℤ) → short_bytes (integer z) ≡ None
    number (pos n) = refl
    number (negsuc n) = refl

-- and no map is in it
pub bignum-rises : (o : KeyOrder) (t : ℕ) (b : List ℕ) (u : Tree) → bignum_meaning t b ≡ Some u → HasRisingKeys o u
bignum-rises o = bignum-holds (HasRisingKeys o) (λ z. tt) (λ t b. tt)

-- a tag over a byte string says which
pub one_string : (t : ℕ) (a b : List ℕ) → Some (tag t (bytes a)) ≡ Some (tag t (bytes b)) → a ≡ b
one_string t a b e = cc
