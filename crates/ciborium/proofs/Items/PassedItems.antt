-- An item that is passed over within a limit: what may stand within the levels that are left, and tags that fold.
use Rattle.std.proofs.Common.{◌≡◌, ℕ, suc, ◌≤◌, max, List, [], ◌∷◌, ◌++◌, length, Option, Some, None, Bool, true, false}
use Rattle.std.proofs.{Common.{refl, sym, ap, subst, arith, cond, leb, option_map, append_assoc}, lemmas.Bool.le-leb}
use Rattle.std.proofs.lemmas.Bool.{leb-true}
use Rattle.ciborium_ll.proofs.{LevelFronts.{behind-unfinished, behind-to}, LevelHeads.{TakesLevel, to-behind}}
use Rattle.ciborium_ll.{proofs.LevelsTo.{Standing, IsFlat, around, done, item-to}, specs.Head.IsHead}
use Rattle.ciborium_ll.specs.{Header.{SpellsHeader, announced_length}, Item.{Item, bytes, array, tag}}
use Rattle.ciborium_ll.specs.{Levels.{IsPayloadOf, behind_head, behind_item}, declared.header.Header.Header}
use Rattle.ciborium_ll.specs.declared.levels.Level.{Level, TheVariants.Items}
use Rattle.ciborium_value.{proofs.GoodItems.Parts.{within-max, within-zero}, specs.Meaning.folding_bytes}
use Rattle.ciborium_value.specs.{Meaning.{short_string, is_bignum_tag}, Nesting.{Limit, IsWithin, nesting}}
use Rattle.ciborium_value.specs.{Nesting.{items_nesting, pairs_nesting, tag_nesting}, lemmas.ReadsBackParts.within-left}
use Rattle.ciborium_value.specs.lemmas.ReadsBackParts.{within-right}
use Rattle.ciborium.specs.inner.PassedOver.{left_inside, takes_one, LevelsTo, HasRoom}
use Rattle.ciborium_ll.specs.declared.header.Header.TheVariants as heads
use Rattle.ciborium_ll.specs.Item as items

-- ---- nesting within the levels that are left

pub within-inside : (l : Limit) (n k : ℕ) → IsWithin (left_inside l n) (suc k) → IsWithin (left_inside l (suc n)) k
within-inside None n k w = tt
within-inside (Some m) n k w = omega arith

pub within-around : (l : Limit) (n k : ℕ) → ((m : ℕ) → l ≡ Some m → suc n ≤ m) →
    IsWithin (left_inside l (suc n)) k → IsWithin (left_inside l n) (suc k)
within-around None n k room w = tt
within-around (Some m) n k room w = let le = room m refl in omega arith

-- where a tag folds, its item is a short string
pub folds-over : (t : ℕ) (i : Item) (b : List ℕ) → folding_bytes t i ≡ Some b →
    (is_bignum_tag t ≡ true) × (i ≡ bytes false b) × (length b ≤ 16)
folds-over t i b e = by (is_bignum_tag t) refl e
  where
    fits : (p : List ℕ) (c : Bool) → leb (length p) 16 ≡ c → cond c (Some p) None ≡ Some b →
        (bytes false p ≡ bytes false b) × (length b ≤ 16)
    fits p true f e = let same : p ≡ b = cc e in
        (ap (bytes false) same, subst (λ (x : List ℕ). length x ≤ 16) same (leb-true (length p) 16 f))
    fits p false f e = absurd cc

    short : (i : Item) → short_string i ≡ Some b → (i ≡ bytes false b) × (length b ≤ 16)
    short (bytes false p) e = fits p (leb (length p) 16) refl e
    short _ e = absurd cc

    by : (c : Bool) → is_bignum_tag t ≡ c → cond c (short_string i) None ≡ Some b →
        (is_bignum_tag t ≡ true) × (i ≡ bytes false b) × (length b ≤ 16)
    by true f e = let (same, le) = short i e in (f, same, le)
    by false f e = absurd cc

-- a tag takes at most one level more than its item
pub tag-within : (l : Limit) (t : ℕ) (i : Item) → IsWithin l (suc (nesting i)) → IsWithin l (nesting (tag t i))
tag-within l t i w = by (folding_bytes t i)
  where
    by : (o : Option (List ℕ)) → IsWithin l (tag_nesting o (nesting i))
    by None = w
    by (Some b) = within-zero l

pub tag-inside : (l : Limit) (n t : ℕ) (i : Item) → IsWithin (left_inside l n) (nesting (tag t i)) →
    IsWithin (left_inside l (suc n)) (nesting i)
tag-inside l n t i w = by (folding_bytes t i) refl w
  where
    by : (o : Option (List ℕ)) → folding_bytes t i ≡ o → IsWithin (left_inside l n) (tag_nesting o (nesting i)) →
        IsWithin (left_inside l (suc n)) (nesting i)
    by None e w = within-inside l n (nesting i) w
    by (Some b) e w = subst (IsWithin (left_inside l (suc n))) (sym (ap nesting (folds-over t i b e).1))
        (within-zero (left_inside l (suc n)))

pub flat-within : (l : Limit) (i : Item) → IsFlat i → IsWithin l (nesting i)
flat-within l (array o is) flat = absurd flat
flat-within l (items.map o ps) flat = absurd flat
flat-within l (tag t i) flat = absurd flat
flat-within l i flat = within-zero l

-- items that nest within the levels that are left
abbrev pub within : Limit → Standing
within l = record {
  May = λ n i. IsWithin (left_inside l n) (nesting i);
  MayAll = λ n is. IsWithin (left_inside l n) (items_nesting is);
  MayPairs = λ n ps. IsWithin (left_inside l n) (pairs_nesting ps);
  Room = λ n. (m : ℕ) → l ≡ Some m → suc n ≤ m;
  flat = λ n i flat. flat-within (left_inside l n) i flat;
  none = λ n. within-zero (left_inside l n);
  more = λ n i is. (
    λ w. within-max (left_inside l n) (nesting i) (items_nesting is) w.0 w.1,
    λ w. (within-left (left_inside l n) _ _ w, within-right (left_inside l n) (nesting i) (items_nesting is) w),
  );
  no_pair = λ n. within-zero (left_inside l n);
  pairs_more = λ n i j ps. (
    λ w. within-max (left_inside l n) (max (nesting i) (nesting j)) (pairs_nesting ps)
        (within-max (left_inside l n) (nesting i) (nesting j) w.0 w.1) w.2,
    λ w.
        let both = within-left (left_inside l n) (max (nesting i) (nesting j)) (pairs_nesting ps) w in (
          within-left (left_inside l n) (nesting i) (nesting j) both,
          within-right (left_inside l n) (nesting i) (nesting j) both,
          within-right (left_inside l n) (max (nesting i) (nesting j)) (pairs_nesting ps) w,
        ),
  );
  arrays = λ n o is. (within-around l n (items_nesting is), within-inside l n (items_nesting is));
  maps = λ n o ps. (within-around l n (pairs_nesting ps), within-inside l n (pairs_nesting ps));
  tags = λ n t i. (
    λ room w. tag-within (left_inside l n) t i (within-around l n (nesting i) room w),
    tag-inside l n t i,
  );
}

-- ---- a head that is passed over

-- a payload is as long as its head announces
pub announced : (header : Header) (p : List ℕ) → IsPayloadOf header p → announced_length header ≡ length p
announced (heads.Bytes (Some n)) p content = sym content.0
announced (heads.Text (Some n)) p content = sym content.0
announced header p none = sym (ap length none)

takes-one : (header : Header) → TakesLevel header → takes_one header ≡ true
takes-one (heads.Array n) takes = refl
takes-one (heads.Map n) takes = refl
takes-one (heads.Tag t) takes = refl
takes-one header takes = absurd takes

module _ (l : Limit) where
  pub to-within : (header : Header) (h p y z : List ℕ) (levels more : List Level) → SpellsHeader h header →
      IsPayloadOf header p → behind_head header levels ≡ Some more → HasRoom l header levels → LevelsTo l more y z →
      LevelsTo l levels (h ++ (p ++ y)) z
  to-within header h p y z [] more hd content behind room ends = absurd (behind-unfinished header [] more behind)
  to-within header h p y z (level ∷ levels) more hd content behind room ends =
      to-behind (within l) header h p y z (level ∷ levels) more hd content behind
      (λ takes m e. room (takes-one header takes) m e) ends

  -- ---- a tag that folds

  folded-flat : (t : ℕ) (p : List ℕ) → is_bignum_tag t ≡ true → length p ≤ 16 → nesting (tag t (bytes false p)) ≡ 0
  folded-flat t p big le = by (is_bignum_tag t) (leb (length p) 16) big (le-leb (length p) 16 le)
    where
      by : (c d : Bool) → c ≡ true → d ≡ true → tag_nesting (cond c (cond d (Some p) None) None) 0 ≡ 0
      by true true e f = refl
      by true false e f = absurd cc
      by false d e f = absurd cc

  pub to-folded : (t k : ℕ) (h x p y z : List ℕ) (levels next : List Level) → SpellsHeader h (heads.Tag t) →
      is_bignum_tag t ≡ true → SpellsHeader x (heads.Bytes (Some k)) → k ≤ 16 → IsPayloadOf (heads.Bytes (Some k)) p →
      behind_item levels ≡ Some next → LevelsTo l next y z → LevelsTo l levels (h ++ (x ++ (p ++ y))) z
  to-folded t k h x p y z levels next hd big xd le content behind ends =
      let short : length p ≤ 16 = subst (λ n. n ≤ 16) (sym content.0) le in
      item-to (within l) levels next (h ++ (x ++ (p ++ y))) y z behind (
        tag t (bytes false p),
        h ++ (x ++ p),
        (h, x ++ p, hd, (x, subst (IsHead x 2) (sym content.0) xd, content.1, refl), refl),
        simp append_assoc,
        subst (IsWithin (left_inside l (around levels))) (sym (folded-flat t p big short))
            (within-zero (left_inside l (around levels))),
      ) ends

  pub folded : (t k : ℕ) (h x p y z : List ℕ) (levels next : List Level) → SpellsHeader h (heads.Tag t) →
      SpellsHeader x (heads.Bytes (Some k)) → IsPayloadOf (heads.Bytes (Some k)) p →
      behind_item levels ≡ Some next → LevelsTo l levels (h ++ (x ++ (p ++ y))) z → LevelsTo l next y z
  folded t k h x p y z levels next hd xd content behind ends =
      let inner = behind-to (within l) (heads.Tag t) h [] (x ++ (p ++ y)) z levels (Items 1 ∷ next) hd refl
      (ap (option_map (λ rest. Items 1 ∷ rest)) behind) ends in
      done (within l) next y z
      (behind-to (within l) (heads.Bytes (Some k)) x p y z (Items 1 ∷ next) (Items 0 ∷ next) xd content refl inner)
