-- Whatever is a good item is a list of bytes.
use Rattle.std.proofs.Common.{◌≡◌, ℕ, ◌+◌, ◌*◌, ◌/◌, ◌%◌, ◌<◌, cond, ltb, ltb-true, Bool, true, false, List, [], ◌∷◌}
use Rattle.std.proofs.Common.{◌++◌, length, Option, Some, None, IsSome, option_map, refl, sym, subst, arith, inl, inr}
use Rattle.std.proofs.lemmas.{Bool.and_parts, List.Elements.{All-append, All-nil, All-from_recursion}, Nat.mod_below}
use Rattle.std.specs.Prelude.{IsUtf8}
use Rattle.ciborium_ll.specs.{Bytes.AreBytes, Head.{IsHead, IsSimple, within, one_byte, two_bytes, four_bytes}}
use Rattle.ciborium_ll.specs.{Head.{eight_bytes, head_in}, Item.{Item, Items, Pairs, items_count, pairs_count}}
use Rattle.ciborium_ll.specs.Spells.{AreChunks, IsString, IsContainer, Spells, SpellsItems, SpellsPairs}
use Rattle.ciborium_value.specs.Meaning.{meaning, items_meaning, pairs_meaning, tag_meaning, is_bignum_tag, trees_more}
use Rattle.ciborium_value.specs.{Meaning.tree_pairs_more, Tree.{Tree, Trees, TreePairs, tag, array, map}}
use lib.Utf8.{next, scalar, scalars, scalar_cases, encode, encodes}
use Rattle.ciborium_ll.specs.Item as item

-- ---- heads

head_bytes : (b : List ℕ) (m n : ℕ) → m < 7 → IsHead b m n → AreBytes b
head_bytes b m n small (within, lt, e) = subst AreBytes (sym e)
    (All-from_recursion (λ x. x < 256) (head_in within m n) (omega (arith, small, lt), tt))
head_bytes b m n small (one_byte, lt, e) = subst AreBytes (sym e)
    (All-from_recursion (λ x. x < 256) (head_in one_byte m n) (omega (arith, small), (lt, tt)))
head_bytes b m n small (two_bytes, lt, e) = subst AreBytes (sym e)
    (All-from_recursion (λ x. x < 256) (head_in two_bytes m n)
    (omega (arith, small), (low 256, (mod_below n 256 (omega arith), tt))))
  where
    low : (d : ℕ) → n / d % 256 < 256
    low d = mod_below (n / d) 256 (omega arith)
head_bytes b m n small (four_bytes, lt, e) = subst AreBytes (sym e)
    (All-from_recursion (λ x. x < 256) (head_in four_bytes m n)
    (omega (arith, small), (low 16777216, (low 65536, (low 256, (mod_below n 256 (omega arith), tt))))))
  where
    low : (d : ℕ) → n / d % 256 < 256
    low d = mod_below (n / d) 256 (omega arith)
head_bytes b m n small (eight_bytes, lt, e) = subst AreBytes (sym e)
    (All-from_recursion (λ x. x < 256) (head_in eight_bytes m n) (
      omega (arith, small),
      (
        low 72057594037927936,
        (
          low 281474976710656,
          (
            low 1099511627776,
            (
              low 4294967296,
              (
                low 16777216,
                (low 65536, (low 256, (mod_below n 256 (omega arith), tt))),
              ),
            ),
          ),
        ),
      ),
    ))
  where
    low : (d : ℕ) → n / d % 256 < 256
    low d = mod_below (n / d) 256 (omega arith)

-- ---- texts

either : (t : Bool) (x y : List ℕ) → (t ≡ true → AreBytes x) → (t ≡ false → AreBytes y) → AreBytes (cond t x y)
either true x y f g = f refl
either false x y f g = g refl

next_low : (n : ℕ) → next n < 256
next_low n = let low : n % 64 < 64 = mod_below n 64 (omega arith) in omega (arith, low)

abbrev two : ℕ → List ℕ
two c = (192 + c / 64) ∷ next c ∷ []

abbrev three : ℕ → List ℕ
three c = (224 + c / 4096) ∷ next (c / 64) ∷ next c ∷ []

abbrev four : ℕ → List ℕ
four c = (240 + c / 262144) ∷ next (c / 4096) ∷ next (c / 64) ∷ next c ∷ []

scalar_below : (c : ℕ) → scalar c ≡ true → c < 1114112
scalar_below c ok = elim (scalar_cases c ok) [ inl h ↦ omega (arith, h) | inr h ↦ h.1 ]

char_bytes : (c : ℕ) → scalar c ≡ true → AreBytes (encode c)
unfolding encode
char_bytes c ok =
    either (ltb c 128) (c ∷ []) (cond (ltb c 2048) (two c) (cond (ltb c 65536) (three c) (four c)))
    (λ t. let h = ltb-true c 128 t in All-from_recursion (λ x. x < 256) (c ∷ []) (omega (arith, h), tt))
    (λ t. either (ltb c 2048) (two c) (cond (ltb c 65536) (three c) (four c))
    (λ u. let h = ltb-true c 2048 u in All-from_recursion (λ x. x < 256) (two c) (omega (arith, h), (next_low c, tt)))
    (λ u. either (ltb c 65536) (three c) (four c)
    (λ v. let h = ltb-true c 65536 v in All-from_recursion (λ x. x < 256) (three c)
    (omega (arith, h), (next_low (c / 64), (next_low c, tt))))
    (λ v. let h = scalar_below c ok in All-from_recursion (λ x. x < 256) (four c)
    (omega (arith, h), (next_low (c / 4096), (next_low (c / 64), (next_low c, tt)))))))

text_bytes : (cs : List ℕ) → scalars cs ≡ true → AreBytes (encodes cs)
text_bytes [] h = All-nil (λ x. x < 256)
text_bytes (c ∷ cs) h = let p = and_parts _ _ h in All-append (λ x. x < 256) (encode c) (encodes cs) (char_bytes c p.0)
    (text_bytes cs p.1)

pub utf8_bytes : (b : List ℕ) → IsUtf8 b → AreBytes b
utf8_bytes b (cs, h) = subst AreBytes h.1 (text_bytes cs h.0)

-- ---- strings

parts_bytes : (m : ℕ) (IsAllowed : List ℕ → Type 0) → m < 7 → ((y : List ℕ) → IsAllowed y → AreBytes y) →
    (ys : List (List ℕ)) (r : List ℕ) → AreChunks m IsAllowed r ys → AreBytes r
parts_bytes m IsAllowed small ok [] r e = subst AreBytes (sym e) (All-nil (λ x. x < 256))
parts_bytes m IsAllowed small ok (y ∷ ys) r (s, t, (h, head, is_ok, is), rest, e) =
    subst AreBytes (sym e) (All-append (λ x. x < 256) s t
    (subst AreBytes (sym is) (All-append (λ x. x < 256) h y (head_bytes h m (length y) small head) (ok y is_ok)))
    (parts_bytes m IsAllowed small ok ys t rest))

broken_bytes : (r : List ℕ) (x : ℕ) → x < 256 → AreBytes r → AreBytes (x ∷ (r ++ 255 ∷ []))
broken_bytes r x low bytes =
    All-append (λ n. n < 256) (x ∷ []) (r ++ 255 ∷ []) (All-from_recursion (λ n. n < 256) (x ∷ []) (low, tt))
    (All-append (λ n. n < 256) r (255 ∷ []) bytes (All-from_recursion (λ n. n < 256) (255 ∷ []) (omega arith, tt)))

string_bytes : (o : Bool) (m : ℕ) (IsAllowed : List ℕ → Type 0) → m < 7 → ((y : List ℕ) → IsAllowed y → AreBytes y) →
    (s y : List ℕ) → IsString o m IsAllowed s y → AreBytes s
string_bytes false m IsAllowed small ok s y (h, head, is_ok, is) =
    subst AreBytes (sym is) (All-append (λ x. x < 256) h y (head_bytes h m (length y) small head) (ok y is_ok))
string_bytes true m IsAllowed small ok s y (ys, r, parts, same, is) = subst AreBytes (sym is)
    (broken_bytes r (m * 32 + 31) (omega (arith, small)) (parts_bytes m IsAllowed small ok ys r parts))

enclosed_bytes : (o : Bool) (m n : ℕ) → m < 7 → (s r : List ℕ) → IsContainer o m n s r → AreBytes r → AreBytes s
enclosed_bytes false m n small s r (h, head, is) bytes =
    subst AreBytes (sym is) (All-append (λ x. x < 256) h r (head_bytes h m n small head) bytes)
enclosed_bytes true m n small s r is bytes = subst AreBytes (sym is)
    (broken_bytes r (m * 32 + 31) (omega (arith, small)) bytes)

-- ---- items

simple_bytes : (s : List ℕ) (n : ℕ) → IsSimple s n → AreBytes s
simple_bytes s n (inl (lt, is)) = subst AreBytes (sym is)
    (All-from_recursion (λ x. x < 256) ((224 + n) ∷ []) (omega (arith, lt), tt))
simple_bytes s n (inr (le, lt, is)) = subst AreBytes (sym is)
    (All-from_recursion (λ x. x < 256) (248 ∷ n ∷ []) (omega arith, (lt, tt)))

-- where a tag has a meaning, so has its item
some-mapped : (t : ℕ) (m : Option Tree) → IsSome (option_map (tag t) m) → IsSome m
some-mapped t None h = absurd cc
some-mapped t (Some v) h = refl

chosen : (t : ℕ) (u : Bool) (m : Option Tree) → IsSome (tag_meaning t (cond u None None) m) → IsSome m
chosen t true m h = some-mapped t m h
chosen t false m h = some-mapped t m h

content-means : (t : ℕ) (i : Item) → IsSome (meaning (item.tag t i)) → IsSome (meaning i)
content-means t (item.array o is) h = chosen t (is_bignum_tag t) (meaning (item.array o is)) h
content-means t (item.map o ps) h = chosen t (is_bignum_tag t) (meaning (item.map o ps)) h
content-means t (item.tag u j) h = chosen t (is_bignum_tag t) (meaning (item.tag u j)) h
content-means t (item.simple n) h = chosen t (is_bignum_tag t) (meaning (item.simple n)) h
content-means t (item.float raw) h = chosen t (is_bignum_tag t) None h
content-means t u h = refl

some-array : (m : Option Trees) → IsSome (option_map array m) → IsSome m
some-array None h = absurd cc
some-array (Some v) h = refl

some-map : (m : Option TreePairs) → IsSome (option_map map m) → IsSome m
some-map None h = absurd cc
some-map (Some v) h = refl

some-more : (m : Option Tree) (n : Option Trees) → IsSome (trees_more m n) → IsSome m × IsSome n
some-more (Some v) (Some vs) h = (refl, refl)
some-more u v h = absurd cc

some-pairs : (k v : Option Tree) (n : Option TreePairs) → IsSome (tree_pairs_more k v n) → IsSome k × IsSome v ×
    IsSome n
some-pairs (Some k) (Some v) (Some ps) h = (refl, refl, refl)
some-pairs u v w h = absurd cc

mutual
  pub item_bytes : (i : Item) (s : List ℕ) → Spells s i → IsSome (meaning i) → AreBytes s
  item_bytes (item.unsigned n) s h m = head_bytes s 0 n (omega arith) h
  item_bytes (item.negative n) s h m = head_bytes s 1 n (omega arith) h
  item_bytes (item.bytes o y) s h m = string_bytes o 2 AreBytes (omega arith) (λ z k. k) s y h
  item_bytes (item.text o y) s h m = string_bytes o 3 IsUtf8 (omega arith) utf8_bytes s y h
  item_bytes (item.array o is) s (r, h, e) m = enclosed_bytes o 4 (items_count is) (omega arith) s r e
      (items_bytes is r h (some-array (items_meaning is) m))
  item_bytes (item.map o ps) s (r, h, e) m = enclosed_bytes o 5 (pairs_count ps) (omega arith) s r e
      (pairs_bytes ps r h (some-map (pairs_meaning ps) m))
  item_bytes (item.tag t i) s (h, r, head, k, e) m = subst AreBytes (sym e)
      (All-append (λ x. x < 256) h r (head_bytes h 6 t (omega arith) head) (item_bytes i r k (content-means t i m)))
  item_bytes (item.simple n) s h m = simple_bytes s n h
  item_bytes (item.float raw) s h m = absurd cc

  items_bytes : (is : Items) (s : List ℕ) → SpellsItems s is → IsSome (items_meaning is) → AreBytes s
  items_bytes item.no_items s e m = subst AreBytes (sym e) (All-nil (λ x. x < 256))
  items_bytes (item.item i is) s (a, b, h, k, e) m =
      let both = some-more (meaning i) (items_meaning is) m in
      subst AreBytes (sym e) (All-append (λ x. x < 256) a b (item_bytes i a h both.0) (items_bytes is b k both.1))

  pairs_bytes : (ps : Pairs) (s : List ℕ) → SpellsPairs s ps → IsSome (pairs_meaning ps) → AreBytes s
  pairs_bytes item.no_pairs s e m = subst AreBytes (sym e) (All-nil (λ x. x < 256))
  pairs_bytes (item.pair k v ps) s (a, b, c, f, g, h, e) m =
      let each = some-pairs (meaning k) (meaning v) (pairs_meaning ps) m in
      subst AreBytes (sym e) (All-append (λ x. x < 256) a (b ++ c) (item_bytes k a f each.0)
      (All-append (λ x. x < 256) b c (item_bytes v b g each.1) (pairs_bytes ps c h each.2)))
