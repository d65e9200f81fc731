-- Places of a sink and the bytes that are out at them.
use Rattle.std.proofs.Common.{Bool, true, false, cond, nat_lt, lit<, ◌≡◌, ℕ, zero, suc, ◌+◌, List, [], ◌∷◌, ◌++◌}
use Rattle.std.proofs.Common.{length, ◌<◌, Option, Some, None, refl, sym, ◌∙◌, ap, subst, append_assoc, append-nil}
use Rattle.std.{proofs.Common.arith, specs.Borrow.GName}
use Rattle.ciborium_ll.specs.{Head.{shortest_head, open_byte, break_byte}, Item.{Item, items_count}}
use Rattle.ciborium_ll.specs.Item.{pairs_count}
use Rattle.ciborium_value.specs.Encoding.{written_bytes, items_bytes, pairs_bytes, enclosed, written_string}
use Rattle.ciborium_value.specs.Places.{ContainerType, an_array, a_map, items_from, pairs_from, container, begin_bytes}
use Rattle.ciborium_value.specs.Places.{end_bytes, is_open, Place, top, within, tagged, added, ended, IsFull, bytes_at}
use Rattle.ciborium_value.specs.Places.{writer_at, IsBeginning, IsProperBeginning, Out, IsOutOf, IsOutAt, IsOutBetween}
use Rattle.ciborium_value.specs.Places.{IsCutBetween}
use Rattle.ciborium_ll.specs.Item as item

-- ---- the bytes of items in a row

pub items_bytes-append : (xs ys : List Item) → items_bytes (items_from (xs ++ ys)) ≡ items_bytes (items_from xs) ++
    items_bytes (items_from ys)
items_bytes-append [] ys = refl
items_bytes-append (x ∷ xs) ys = ap (λ b. written_bytes x ++ b) (items_bytes-append xs ys) ∙
    sym (append_assoc (written_bytes x) (items_bytes (items_from xs)) (items_bytes (items_from ys)))

items_bytes-one : (xs : List Item) (i : Item) → items_bytes (items_from (xs ++ i ∷ [])) ≡ items_bytes (items_from xs) ++
    written_bytes i
items_bytes-one xs i = items_bytes-append xs (i ∷ []) ∙
    ap (λ b. items_bytes (items_from xs) ++ b) (append-nil (written_bytes i))

pub items_count-from : (xs : List Item) → items_count (items_from xs) ≡ length xs
items_count-from [] = refl
items_count-from (x ∷ xs) = ap suc (items_count-from xs)

-- the keys and values of whole pairs, as pairs
pub pairs-from : (is : List Item) (m : ℕ) → length is ≡ m + m →
    (pairs_bytes (pairs_from is) ≡ items_bytes (items_from is)) × (pairs_count (pairs_from is) ≡ m)
pairs-from [] m h = (refl, omega (arith, h))
pairs-from (k ∷ []) m h = let e : 1 ≡ m + m = h in absurd (omega (arith, e))
pairs-from (k ∷ v ∷ is) zero h = absurd (omega (arith, h))
pairs-from (k ∷ v ∷ is) (suc m) h =
    let e : length is ≡ m + m = omega (arith, h) in
    let p = pairs-from is m e in
    (ap (λ x. written_bytes k ++ (written_bytes v ++ x)) p.0, ap suc p.1)

-- a full container: what begins it, its items, and what ends it
bytes-container : (s : ContainerType) (n : Option ℕ) (is : List Item) → IsFull s n is →
    written_bytes (container s (is_open n) is) ≡ begin_bytes s n ++ (items_bytes (items_from is) ++ end_bytes n)
bytes-container an_array None is h = refl
bytes-container an_array (Some n) is h = ap (λ k. shortest_head 4 k ++ items_bytes (items_from is))
    (items_count-from is ∙ h) ∙ ap (λ b. shortest_head 4 n ++ b) (sym (append-nil (items_bytes (items_from is))))
bytes-container a_map None is h = ap (λ b. open_byte 5 ∷ (b ++ break_byte ∷ [])) (pairs-from is h.0 h.1).0
bytes-container a_map (Some n) is h =
    let p = pairs-from is n h in
    ap (λ k. shortest_head 5 k ++ pairs_bytes (pairs_from is)) p.1 ∙
    ap (λ b. shortest_head 5 n ++ b) (p.0 ∙ sym (append-nil (items_bytes (items_from is))))

-- ---- the bytes at a place

pub bytes_at-added : (p : Place) (i : Item) → bytes_at (added p i) ≡ bytes_at p ++ written_bytes i
unfolding bytes_at
bytes_at-added (top name before done) i = ap (λ b. before ++ b) (items_bytes-one done i) ∙
    sym (append_assoc before (items_bytes (items_from done)) (written_bytes i))
bytes_at-added (within s n done around) i = rw (items_bytes-one done i) (simp append_assoc)
bytes_at-added (tagged t p) i = bytes_at-added p (item.tag t i) ∙
    sym (append_assoc (bytes_at p) (shortest_head 6 t) (written_bytes i))

pub bytes_at-within : (p : Place) (s : ContainerType) (n : Option ℕ) →
    bytes_at (within s n [] p) ≡ bytes_at p ++ begin_bytes s n
unfolding bytes_at
bytes_at-within p s n = ap (λ b. bytes_at p ++ b) (append-nil (begin_bytes s n))

pub bytes_at-tagged : (p : Place) (t : ℕ) → bytes_at (tagged t p) ≡ bytes_at p ++ shortest_head 6 t
unfolding bytes_at
bytes_at-tagged p t = refl

pub bytes_at-ended : (s : ContainerType) (n : Option ℕ) (done : List Item) (p : Place) → IsFull s n done →
    bytes_at (ended (within s n done p)) ≡ bytes_at (within s n done p) ++ end_bytes n
unfolding bytes_at
bytes_at-ended s n done p h = bytes_at-added p (container s (is_open n) done) ∙
    rw (bytes-container s n done h) (simp append_assoc)

pub bytes_at-top : (name : Option GName) (before : List ℕ) → bytes_at (top name before []) ≡ before
unfolding bytes_at
bytes_at-top name before = append-nil before

pub writer_at-added : (p : Place) (i : Item) → writer_at (added p i) ≡ writer_at p
writer_at-added (tagged t p) i = writer_at-added p (item.tag t i)
writer_at-added u i = refl

-- ---- one place comes before another

IsBeginning-trans : (a b c : List ℕ) → IsBeginning a b → IsBeginning b c → IsBeginning a c
IsBeginning-trans a b c h k = (h.0 ++ k.0, k.1 ∙ ap (λ x. x ++ k.0) h.1 ∙ append_assoc a h.0 k.0)

IsProperBeginning-more : (a b c : List ℕ) → IsProperBeginning a b → IsBeginning b c → IsProperBeginning a c
IsProperBeginning-more a b c h k = (h.0, h.1 ++ k.0, k.1 ∙ ap (λ x. x ++ k.0) h.2 ∙ append_assoc a (h.0 ∷ h.1) k.0)

abbrev pub IsBefore : Place → Place → Type 0
IsBefore p q = IsBeginning (bytes_at p) (bytes_at q)

pub before_itself : (p : Place) → IsBefore p p
before_itself p = ([], sym (append-nil (bytes_at p)))

pub before_within : (p : Place) (s : ContainerType) (n : Option ℕ) (done : List Item) → IsBefore p (within s n done p)
unfolding bytes_at
before_within p s n done = (begin_bytes s n ++ items_bytes (items_from done), refl)

pub before_tagged : (p : Place) (t : ℕ) → IsBefore p (tagged t p)
before_tagged p t = (shortest_head 6 t, bytes_at-tagged p t)

pub tagged_before : (p : Place) (t : ℕ) (i : Item) → IsBefore (tagged t p) (added p (item.tag t i))
tagged_before p t i = (written_bytes i, bytes_at-added (tagged t p) i)

-- inside a container that will be full
pub before_full : (p : Place) (s : ContainerType) (n : Option ℕ) (done rest : List Item) → IsFull s n (done ++ rest) →
    IsBefore (within s n done p) (added p (container s (is_open n) (done ++ rest)))
unfolding bytes_at
before_full p s n done rest h = (
  items_bytes (items_from rest) ++ end_bytes n,
  bytes_at-added p (container s (is_open n) (done ++ rest)) ∙
      rw (bytes-container s n (done ++ rest) h, items_bytes-append done rest) (simp append_assoc),
)

-- ---- what is out, between two places that lie further apart

out_wider : (name name' : Option GName) (out : Out) (a a' b' b : List ℕ) → name' ≡ name → IsBeginning a a' →
    IsBeginning b' b → IsOutBetween name' out a' b' → IsOutBetween name out a b
out_wider None name' out a a' b' b same h k l = tt
out_wider (Some n) None out a a' b' b same h k l = cc
out_wider (Some n) (Some m) out a a' b' b same h k l =
    let e : m ≡ n = cc in
    (l.0, l.1 ∙ ap (λ x. Some (x, l.0)) e, IsBeginning-trans _ _ _ h l.2, IsProperBeginning-more _ _ _ l.3 k)

pub cut_wider : (out : Out) (p p' q' q : Place) → IsBefore p p' → writer_at p' ≡ writer_at p → IsBefore q' q →
    IsCutBetween out p' q' → IsCutBetween out p q
cut_wider out p p' q' q h same k b = out_wider (writer_at p) (writer_at p') out _ _ _ _ same h k b

-- ---- no item has an empty spelling

head_some : (major n : ℕ) (rest : List ℕ) → 0 < length (shortest_head major n ++ rest)
unfolding shortest_head
head_some major n rest = omega arith

enclosed_some : (open_ : Bool) (major count : ℕ) (r : List ℕ) → 0 < length (enclosed open_ major count r)
enclosed_some false major count r = head_some major count r
enclosed_some true major count r = omega arith

string_some : (open_ : Bool) (major : ℕ) (b : List ℕ) → 0 < length (written_string open_ major b)
string_some false major b = head_some major (length b) b
string_some true major b = omega arith

lone_head_some : (major n : ℕ) → 0 < length (shortest_head major n)
lone_head_some major n = subst (λ l. 0 < length l) (append-nil (shortest_head major n)) (head_some major n [])

chosen_some : (c : Bool) (a b : List ℕ) → 0 < length a → 0 < length b → 0 < length (cond c a b)
chosen_some true a b h k = h
chosen_some false a b h k = k

pub written_some : (i : Item) → 0 < length (written_bytes i)
written_some (item.unsigned n) = lone_head_some 0 n
written_some (item.negative n) = lone_head_some 1 n
written_some (item.bytes open_ b) = string_some open_ 2 b
written_some (item.text open_ b) = string_some open_ 3 b
written_some (item.array open_ is) = enclosed_some open_ 4 (items_count is) (items_bytes is)
written_some (item.map open_ ps) = enclosed_some open_ 5 (pairs_count ps) (pairs_bytes ps)
written_some (item.tag t i) = head_some 6 t (written_bytes i)
written_some (item.simple n) = chosen_some (nat_lt n 24) _ _ (lit< tt) (lit< tt)
written_some (item.float raw) = chosen_some (nat_lt (length raw) 3) _ _ (omega arith)
    (chosen_some (nat_lt (length raw) 5) _ _ (omega arith) (omega arith))

-- ---- nothing of an item is out

split : (b : List ℕ) → 0 < length b → (c : ℕ) × (rest : List ℕ) × (b ≡ c ∷ rest)
split [] h = absurd (omega (arith, h))
split (c ∷ rest) h = (c, rest, refl)

pub cut_nothing : (out : Out) (p : Place) (i : Item) → IsOutAt out p → IsCutBetween out p (added p i)
cut_nothing out p i h = by (writer_at p) h
  where
    by : (w : Option GName) → IsOutOf w out (bytes_at p) → IsOutBetween w out (bytes_at p) (bytes_at (added p i))
    by None h = tt
    by (Some name) h =
        let s = split (written_bytes i) (written_some i) in (
          bytes_at p,
          h,
          ([], sym (append-nil (bytes_at p))),
          (s.0, s.1, bytes_at-added p i ∙ ap (λ b. bytes_at p ++ b) s.2),
        )
