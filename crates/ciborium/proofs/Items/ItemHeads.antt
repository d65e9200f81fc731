-- The head with which an item begins, and what stands behind it.
use Rattle.std.proofs.Common.{◌≡◌, ℕ, suc, Bool, true, false, List, [], ◌∷◌, ◌++◌, length, Option, Some, None, refl}
use Rattle.std.proofs.Common.{sym, ap, ◌∙◌, subst, append_assoc, append-nil, ◌≤◌, arith}
use Rattle.ciborium_ll.{proofs.OneHeader.one_header_at_front, specs.{Head.{open_byte, break_byte}, Header.SpellsHeader}}
use Rattle.ciborium_ll.specs.{Header.announced_length, Item.{Item, Items, Pairs, unsigned, negative, bytes, text}}
use Rattle.ciborium_ll.specs.{Item.{array, tag, simple, float, items_count, pairs_count}, Spells.{Spells, SpellsItems}}
use Rattle.ciborium_ll.specs.{Spells.SpellsPairs, declared.header.Header.Header}
use Rattle.ciborium_value.specs.Given.{unpack, unpack_pairs}
use Rattle.ciborium.specs.inner.{Skips.IsBare, Unread.{AreSpelled, HasCount, SpellsPair, ending, span_of}}
use Rattle.ciborium_ll.specs.declared.header.Header.TheVariants as header
use Rattle.ciborium_ll.specs.Item as items

abbrev pub size_of : Bool → ℕ → Option ℕ
size_of false n = Some n
size_of true n = None

-- the head with which the spellings of an item begin
abbrev pub header_of : Item → Header
header_of (unsigned n) = header.Positive n
header_of (negative n) = header.Negative n
header_of (bytes open_ b) = header.Bytes (size_of open_ (length b))
header_of (text open_ b) = header.Text (size_of open_ (length b))
header_of (array open_ is) = header.Array (size_of open_ (items_count is))
header_of (items.map open_ ps) = header.Map (size_of open_ (pairs_count ps))
header_of (tag t i) = header.Tag t
header_of (simple n) = header.Simple n
header_of (float raw) = header.Float (length raw)

-- what holds of each shape that may have this head holds of an item that has it
module _ (P : Item → Type 0) (h : Header) where
  pub by-shape : ((n : ℕ) → h ≡ header.Positive n → P (unsigned n)) →
      ((n : ℕ) → h ≡ header.Negative n → P (negative n)) →
      ((o : Bool) (b : List ℕ) → h ≡ header.Bytes (size_of o (length b)) → P (bytes o b)) →
      ((o : Bool) (b : List ℕ) → h ≡ header.Text (size_of o (length b)) → P (text o b)) →
      ((o : Bool) (is : Items) → h ≡ header.Array (size_of o (items_count is)) → P (array o is)) →
      ((o : Bool) (ps : Pairs) → h ≡ header.Map (size_of o (pairs_count ps)) → P (items.map o ps)) →
      ((n : ℕ) → h ≡ header.Simple n → P (simple n)) →
      ((raw : List ℕ) → h ≡ header.Float (length raw) → P (float raw)) →
      ((t : ℕ) (i : Item) → h ≡ header.Tag t → P (tag t i)) → (i : Item) → header_of i ≡ h → P i
  by-shape a b c d f g j k m (unsigned n) e = a n (sym e)
  by-shape a b c d f g j k m (negative n) e = b n (sym e)
  by-shape a b c d f g j k m (bytes o x) e = c o x (sym e)
  by-shape a b c d f g j k m (text o x) e = d o x (sym e)
  by-shape a b c d f g j k m (array o is) e = f o is (sym e)
  by-shape a b c d f g j k m (items.map o ps) e = g o ps (sym e)
  by-shape a b c d f g j k m (tag t i) e = m t i (sym e)
  by-shape a b c d f g j k m (simple n) e = j n (sym e)
  by-shape a b c d f g j k m (float raw) e = k raw (sym e)

-- a head behind which no tag is skipped is that of no tag
pub no-bare-tag : {A : Type 0} (h : Header) (t : ℕ) → IsBare false h → h ≡ header.Tag t → A
no-bare-tag h t bare e = let s : IsBare false (header.Tag t) = subst (IsBare false) e bare in absurd (let k = s.0 in cc)

pub first-head : (s : List ℕ) (i : Item) → Spells s i → (x : List ℕ) × (y : List ℕ) × SpellsHeader x (header_of i) ×
    (s ≡ x ++ y)
first-head s (bytes false b) (x, h, a, e) = (x, b, h, e)
first-head s (bytes true b) (ps, r, a, j, e) = (open_byte 2 ∷ [], r ++ (break_byte ∷ []), refl, e)
first-head s (text false b) (x, h, a, e) = (x, b, h, e)
first-head s (text true b) (ps, r, a, j, e) = (open_byte 3 ∷ [], r ++ (break_byte ∷ []), refl, e)
first-head s (array false is) (r, h, (x, k, e)) = (x, r, k, e)
first-head s (array true is) (r, h, e) = (open_byte 4 ∷ [], r ++ (break_byte ∷ []), refl, e)
first-head s (items.map false ps) (r, h, (x, k, e)) = (x, r, k, e)
first-head s (items.map true ps) (r, h, e) = (open_byte 5 ∷ [], r ++ (break_byte ∷ []), refl, e)
first-head s (tag t i) (x, r, h, k, e) = (x, r, h, e)
first-head s (float raw) h = (s, [], (raw, h, refl), sym (append-nil s))
first-head s u h = (s, [], h, sym (append-nil s))

nothing : (n : ℕ) → 0 ≤ n
nothing n = omega arith

-- with the payload that it announces
pub first-payload : (s : List ℕ) (i : Item) (sp : Spells s i) →
    announced_length (header_of i) ≤ length (first-head s i sp).1
unfolding first-head
first-payload s (bytes false b) (x, h, a, e) = let k : length b ≤ length b = omega arith in k
first-payload s (text false b) (x, h, a, e) = let k : length b ≤ length b = omega arith in k
first-payload s u v = nothing _

-- what stands behind the head of a spelling stands behind whatever head is at the front
pub behind-head : (s r x y a c : List ℕ) (k h : Header) → SpellsHeader a k → SpellsHeader x h → s ≡ a ++ c →
    s ++ r ≡ x ++ y → (a ≡ x) × (y ≡ c ++ r) × (k ≡ h)
behind-head s r x y a c k h g hd f e =
    let o = one_header_at_front a x (c ++ r) y k h g hd
    (sym (append_assoc a c r) ∙ ap (λ (z : List ℕ). z ++ r) (sym f) ∙ e) in (o.0, sym o.1, o.2)

-- and behind that of an open container its parts, and the break
pub behind-open : (s r x y c : List ℕ) (m : ℕ) (h : Header) → SpellsHeader (open_byte m ∷ []) h → SpellsHeader x h →
    s ≡ open_byte m ∷ (c ++ (break_byte ∷ [])) → s ++ r ≡ x ++ y → y ≡ c ++ (break_byte ∷ r)
behind-open s r x y c m h g hd f e =
    (behind-head s r x y (open_byte m ∷ []) (c ++ (break_byte ∷ [])) h h g hd f e).1 ∙
    append_assoc c (break_byte ∷ []) r

-- the head at the front is that of the item
pub same-head : (s r x y : List ℕ) (i : Item) (h : Header) → Spells s i → SpellsHeader x h → s ++ r ≡ x ++ y →
    (header_of i ≡ h) × ((c : List ℕ) × (s ≡ x ++ c) × (y ≡ c ++ r))
same-head s r x y i h sp hd e =
    let k = first-head s i sp in
    let o = behind-head s r x y k.0 k.1 (header_of i) h k.2 hd k.3 e in
    (o.2, (k.1, k.3 ∙ ap (λ (z : List ℕ). z ++ k.1) o.0, o.1))

-- a break begins no item
pub no-break-head : (i : Item) → header_of i ≡ header.Break → ⊥
no-break-head (unsigned n) h = cc
no-break-head _ h = cc

-- behind the head of a tag its item stands
pub tag-front : (s r x y : List ℕ) (i : Item) (t : ℕ) → Spells s i → SpellsHeader x (header.Tag t) → s ++ r ≡ x ++ y →
    (j : Item) × (c : List ℕ) × (i ≡ tag t j) × Spells c j × (y ≡ c ++ r)
tag-front s r x y i t sp hd e = by i sp (same-head s r x y i (header.Tag t) sp hd e).0
  where
    by : (i : Item) → Spells s i → header_of i ≡ header.Tag t → (j : Item) × (c : List ℕ) × (i ≡ tag t j) × Spells c j ×
        (y ≡ c ++ r)
    by (tag u j) (a, c, k, sp, f) h = (
      j,
      c,
      (let n : u ≡ t = cc in ap (λ v. tag v j) n),
      sp,
      (behind-head s r x y a c (header.Tag u) (header.Tag t) k hd f e).1,
    )
    by _ sp h = cc

-- ---- items in a row

unpacked : (b : List ℕ) (is : Items) → SpellsItems b is → AreSpelled Spells b (unpack is)
unpacked b items.no_items h = h
unpacked b (items.item i is) (s, r, sp, k, e) = (s, r, sp, unpacked r is k, e)

pub packed : (b : List ℕ) (is : List Item) → AreSpelled Spells b is → (js : Items) × SpellsItems b js ×
    (unpack js ≡ is) × (items_count js ≡ length is)
packed b [] h = (items.no_items, h, refl, refl)
packed b (i ∷ is) (s, r, sp, k, e) = let p = packed r is k in
    (items.item i p.0, (s, r, sp, p.1, e), ap (λ l. i ∷ l) p.2, ap suc p.3)

unpacked-count : (is : Items) → length (unpack is) ≡ items_count is
unpacked-count items.no_items = refl
unpacked-count (items.item i is) = ap suc (unpacked-count is)

abbrev pub HasItems : Item → List Item → Type 0
HasItems i is = (o : Bool) × (js : Items) × (i ≡ array o js) × (unpack js ≡ is)

-- behind the head of an array its items stand, and the break if it is open
pub array-front : (count : Option ℕ) (s r x y : List ℕ) (i : Item) →
    Spells s i → SpellsHeader x (header.Array count) → s ++ r ≡ x ++ y → (xs : List Item) × (c : List ℕ) ×
    HasItems i xs × AreSpelled Spells c xs × HasCount count xs × (y ≡ c ++ (ending (span_of count) ++ r))
array-front count s r x y i sp hd e = by count i sp (same-head s r x y i (header.Array count) sp hd e).0 hd
  where
    by : (count : Option ℕ) (i : Item) → Spells s i → header_of i ≡ header.Array count →
        SpellsHeader x (header.Array count) → (xs : List Item) × (c : List ℕ) × HasItems i xs × AreSpelled Spells c xs ×
        HasCount count xs × (y ≡ c ++ (ending (span_of count) ++ r))
    by (Some n) (array false is) (c, k, (a, g, f)) h hd = (
      unpack is,
      c,
      (false, is, refl, refl),
      unpacked c is k,
      unpacked-count is ∙ (let m : items_count is ≡ n = cc in m),
      (behind-head s r x y a c (header.Array (Some (items_count is))) (header.Array (Some n)) g hd f e).1,
    )
    by None (array true is) (c, k, f) h hd = (
      unpack is,
      c,
      (true, is, refl, refl),
      unpacked c is k,
      tt,
      behind-open s r x y c 4 (header.Array None) refl hd f e,
    )
    by _ _ sp h hd = cc

-- ---- pairs in a row

unpacked-pairs : (b : List ℕ) (ps : Pairs) → SpellsPairs b ps → AreSpelled SpellsPair b (unpack_pairs ps)
unpacked-pairs b items.no_pairs h = h
unpacked-pairs b (items.pair k v ps) (s, t, r, sp, sq, more, e) =
    (s ++ t, r, (s, t, sp, sq, refl), unpacked-pairs r ps more, e ∙ sym (append_assoc s t r))

pub packed-pairs : (b : List ℕ) (ps : List (Item × Item)) → AreSpelled SpellsPair b ps → (qs : Pairs) ×
    SpellsPairs b qs × (unpack_pairs qs ≡ ps) × (pairs_count qs ≡ length ps)
packed-pairs b [] h = (items.no_pairs, h, refl, refl)
packed-pairs b (p ∷ ps) (s, r, (a, c, sp, sq, f), more, e) =
    let w = packed-pairs r ps more in (
      items.pair p.0 p.1 w.0,
      (a, c, r, sp, sq, w.1, e ∙ ap (λ (k : List ℕ). k ++ r) f ∙ append_assoc a c r),
      ap (λ l. p ∷ l) w.2,
      ap suc w.3,
    )

unpacked-pairs-count : (ps : Pairs) → length (unpack_pairs ps) ≡ pairs_count ps
unpacked-pairs-count items.no_pairs = refl
unpacked-pairs-count (items.pair k v ps) = ap suc (unpacked-pairs-count ps)

abbrev pub HasPairs : Item → List (Item × Item) → Type 0
HasPairs i ps = (o : Bool) × (qs : Pairs) × (i ≡ items.map o qs) × (unpack_pairs qs ≡ ps)

-- behind the head of a map its pairs stand, and the break if it is open
pub map-front : (count : Option ℕ) (s r x y : List ℕ) (i : Item) →
    Spells s i → SpellsHeader x (header.Map count) → s ++ r ≡ x ++ y → (xs : List (Item × Item)) × (c : List ℕ) ×
    HasPairs i xs × AreSpelled SpellsPair c xs × HasCount count xs × (y ≡ c ++ (ending (span_of count) ++ r))
map-front count s r x y i sp hd e = by count i sp (same-head s r x y i (header.Map count) sp hd e).0 hd
  where
    by : (count : Option ℕ) (i : Item) → Spells s i → header_of i ≡ header.Map count →
        SpellsHeader x (header.Map count) → (xs : List (Item × Item)) × (c : List ℕ) × HasPairs i xs ×
        AreSpelled SpellsPair c xs × HasCount count xs × (y ≡ c ++ (ending (span_of count) ++ r))
    by (Some n) (items.map false ps) (c, k, (a, g, f)) h hd = (
      unpack_pairs ps,
      c,
      (false, ps, refl, refl),
      unpacked-pairs c ps k,
      unpacked-pairs-count ps ∙ (let m : pairs_count ps ≡ n = cc in m),
      (behind-head s r x y a c (header.Map (Some (pairs_count ps))) (header.Map (Some n)) g hd f e).1,
    )
    by None (items.map true ps) (c, k, f) h hd = (
      unpack_pairs ps,
      c,
      (true, ps, refl, refl),
      unpacked-pairs c ps k,
      tt,
      behind-open s r x y c 5 (header.Map None) refl hd f e,
    )
    by _ _ sp h hd = cc
