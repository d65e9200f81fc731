-- How items are read, in every spelling: each by the rule for its head, and containers part by part.
use Rattle.std.proofs.Common.{◌≡◌, ℕ, zero, suc, ◌+◌, ◌*◌, ◌<◌, ◌≤◌, cond, eqb, Bool, true, false, ◌||◌, List, [], ◌∷◌}
use Rattle.std.proofs.Common.{◌++◌, length, Option, Some, None, option_map, pos, negsuc, refl, sym, ap, ◌∙◌, subst}
use Rattle.std.proofs.Common.{arith, inl, inr, length-append, append_assoc, eqb-true}
use Rattle.ciborium_ll.specs.{Bytes.{AreBytes, greatest_offset}, Head.{IsHead, IsSimple, shortest_head, open_byte}}
use Rattle.ciborium_ll.specs.{Head.break_byte, Refusal.HasHead, Spells.{AreChunks, joined, Spells}}
use Rattle.ciborium_ll.specs.{StringRefusal.{string_major, IsAllowed}, declared.kind.Kind.TheVariants.NotShortest}
use Rattle.ciborium_ll.specs.declared.{kind.Kind.TheVariants.Open, strings.StringType.StringType}
use Rattle.ciborium_value.proofs.GoodItems.{Bignums.whole-kept, Faults.{fault-short, fault-open, fault-undefined}}
use Rattle.ciborium_value.proofs.GoodItems.Parts.{within-zero, raise, due-more, counted-items, open-pairs}
use Rattle.ciborium_value.proofs.GoodItems.Parts.{counted-pairs, keys-paired, keys_in-value, keys-from, read-more}
use Rattle.ciborium_value.proofs.GoodItems.Parts.{pairs-read, trees-written, pairs-written, ArePaired}
use Rattle.ciborium_value.proofs.GoodItems.Parts.{due_after, AreReadAs, HasParts, empty-order, items-read}
use Rattle.ciborium_value.proofs.GoodItems.Spelled.{folds-none, folding-string, folding-over}
use Rattle.ciborium_value.specs.{Counts.tree_pairs_count, Deterministic.{HasRisingKeys, AreRising}, Encoding.encoding}
use Rattle.ciborium_value.specs.{Encoding.{items_of, pairs_of}, Meaning.{meaning, simple_meaning, bignum_meaning}}
use Rattle.ciborium_value.specs.{Meaning.{tag_meaning, is_bignum_tag, folding_bytes}, Nesting.{nesting, tag_nesting}}
use Rattle.ciborium_value.specs.{Nesting.{Limit, IsWithin, IsOneLess}, Refuses.{Due, items, keys, values}}
use Rattle.ciborium_value.specs.Refuses.{next_due, keys_among, BeginsContainer, IsInside}
use Rattle.ciborium_value.specs.{Refuses.{IsTagAt, IsFoldingAt}, Spelling.{Spelling, any, deterministic, IsReadAs}}
use Rattle.ciborium_value.specs.{Spelling.{spelling_fault, IsUnwanted, AreInOrder, IsSpelledSo, keys_in}, Tree.Tree}
use Rattle.ciborium_value.specs.{View.trees_from, declared.key_order.KeyOrder.KeyOrder, inner.ReadItems.ReadsItem}
use Rattle.ciborium_value.specs.inner.ReadItems.{string_tree, IsComplete, pairs_in, container_of}
use Rattle.ciborium_ll.specs.Item as item
use Rattle.ciborium_value.specs.Tree as trees

-- ---- what a spelling asks, by its parts

-- the head of an argument, as a spelling asks for it
abbrev IsShortIn : Spelling → List ℕ → ℕ → ℕ → Type 0
IsShortIn any h m n = Unit {0}
IsShortIn (deterministic order) h m n = h ≡ shortest_head m n

good-short : (spelling : Spelling) (b : List ℕ) (m n k : ℕ) (r : List ℕ) → m < 7 → (st : HasHead b m n k r) →
    spelling_fault spelling b ≡ None → IsShortIn spelling st.0 m n
good-short any b m n k r lt st fine = tt
good-short (deterministic order) b m n k r lt st fine = fault-short order b m n k r lt st fine

so-positive : (spelling h n : _) → IsShortIn spelling h 0 n → IsSpelledSo spelling h (trees.integer (pos n))
so-positive any h n short = tt
so-positive (deterministic order) h n short = (short, tt)

so-negative : (spelling h n : _) → IsShortIn spelling h 1 n → IsSpelledSo spelling h (trees.integer (negsuc n))
so-negative any h n short = tt
so-negative (deterministic order) h n short = (short, tt)

so-string : (spelling : Spelling) (type : StringType) (h y : List ℕ) →
    IsShortIn spelling h (string_major type) (length y) → IsSpelledSo spelling (h ++ y) (string_tree type y)
so-string any type h y short = tt
so-string (deterministic order) StringType.Bytes h y short = (ap (λ (c : List ℕ). c ++ y) short, tt)
so-string (deterministic order) StringType.Text h y short = (ap (λ (c : List ℕ). c ++ y) short, tt)

-- no spelling but any accepts what is unfinished
so-open : (spelling : Spelling) (b : List ℕ) (m : ℕ) (r s : List ℕ) (v : Tree) → 2 ≤ m → m ≤ 5 →
    b ≡ (m * 32 + 31) ∷ r → spelling_fault spelling b ≡ None → IsSpelledSo spelling s v
so-open any b m r s v low high e fine = tt
so-open (deterministic order) b m r s v low high e fine =
    let no : Some Open ≡ None = sym (fault-open order m r low high) ∙
    ap (spelling_fault (deterministic order)) (sym e) ∙
    fine in
    absurd cc

so-array : (spelling h g p l vs : _) → IsShortIn spelling h 4 (length vs) → AreReadAs spelling g p l vs →
    IsSpelledSo spelling (h ++ g) (trees.array (trees_from vs))
so-array any h g p l vs short parts = tt
so-array (deterministic order) h g p l vs short parts =
    let w = trees-written order vs g p l parts in (
      ap (λ (z : List ℕ). z ++ g) (short ∙ ap (shortest_head 4) (sym w.2)) ∙
          ap (λ (z : List ℕ). shortest_head 4 (item.items_count (items_of (trees_from vs))) ++ z) w.0,
      w.1,
    )

so-map : (spelling : Spelling) (h g : List ℕ) (p : ℕ) (l : Limit) (vs : List Tree) → ArePaired vs →
    IsShortIn spelling h 5 (tree_pairs_count (pairs_in vs)) → AreReadAs spelling g p l vs →
    AreInOrder spelling (keys_in vs) → IsSpelledSo spelling (h ++ g) (trees.map (pairs_in vs))
so-map any h g p l vs even short parts rises = tt
so-map (deterministic order) h g p l vs even short parts rises =
    let w = pairs-written order vs g p l even parts in (
      ap (λ (z : List ℕ). z ++ g) (short ∙ ap (shortest_head 5) (sym w.2)) ∙
          ap (λ (z : List ℕ). shortest_head 5 (item.pairs_count (pairs_of (pairs_in vs))) ++ z) w.0,
      (subst (AreRising order) (sym (keys-paired vs even)) rises, w.1),
    )

so-tag : (spelling : Spelling) (h w : List ℕ) (t : ℕ) (v : Tree) → IsShortIn spelling h 6 t →
    IsSpelledSo spelling w v → IsSpelledSo spelling (h ++ w) (trees.tag t v)
so-tag any h w t v short so = tt
so-tag (deterministic order) h w t v short (bytes, rises) = (
  ap (λ (c : List ℕ). c ++ w) short ∙ ap (λ (c : List ℕ). shortest_head 6 t ++ c) bytes,
  rises,
)

so-folded : (spelling h w t y v : _) → IsShortIn spelling h 6 t → IsSpelledSo spelling w (trees.bytes y) →
    is_bignum_tag t ≡ true → (IsUnwanted spelling y → ⊥) → bignum_meaning t y ≡ Some v → IsSpelledSo spelling (h ++ w) v
so-folded any h w t y v short so is wanted means = tt
so-folded (deterministic order) h w t y v short so is wanted means = subst (IsSpelledSo (deterministic order) (h ++ w))
    (sym (whole-kept t y v is wanted means)) (so-tag (deterministic order) h w t (trees.bytes y) short so)

-- ---- without parts

pub reads-positive : (spelling b p n k l r : _) → HasHead b 0 n k r → spelling_fault spelling b ≡ None →
    p + k ≤ greatest_offset → ReadsItem spelling l b p (trees.integer (pos n)) r (p + k)
reads-positive spelling b p n k l r (h, is, len, split) none fits =
    let short = good-short spelling b 0 n k r (omega arith) (h, is, len, split) none in
    record {
      taken = h;
      read = (item.unsigned n, is, refl, within-zero l, omega (arith, len, fits), so-positive spelling h n short);
      split = split;
      at = omega (arith, len);
    }

pub reads-negative : (spelling b p n k l r : _) → HasHead b 1 n k r → spelling_fault spelling b ≡ None →
    p + k ≤ greatest_offset → ReadsItem spelling l b p (trees.integer (negsuc n)) r (p + k)
reads-negative spelling b p n k l r (h, is, len, split) none fits =
    let short = good-short spelling b 1 n k r (omega arith) (h, is, len, split) none in
    record {
      taken = h;
      read = (item.negative n, is, refl, within-zero l, omega (arith, len, fits), so-negative spelling h n short);
      split = split;
      at = omega (arith, len);
    }

pub type-below : (type : StringType) → string_major type < 7
type-below StringType.Bytes = omega arith
type-below StringType.Text = omega arith

-- a definite string
pub reads-string : (spelling : Spelling) (type : StringType) (b : List ℕ) (p n k : ℕ) (l : Limit) (y r : List ℕ) →
    HasHead b (string_major type) n k (y ++ r) → length y ≡ n → IsAllowed type y → spelling_fault spelling b ≡ None →
    p + k + n ≤ greatest_offset → ReadsItem spelling l b p (string_tree type y) r (p + k + n)
reads-string spelling type b p n k l y r (h, is, len, split) size ok none fits = record {
  taken = h ++ y;
  read = by type is ok (so-string spelling type h y (subst (IsShortIn spelling h (string_major type)) (sym size)
      (good-short spelling b (string_major type) n k (y ++ r) (type-below type) (h, is, len, split) none)));
  split = split ∙ sym (append_assoc h y r);
  at = omega (arith, both, len, size);
}
  where
    both : length (h ++ y) ≡ length h + length y
    both = length-append h y

    room : p + length (h ++ y) ≤ greatest_offset
    room = omega (arith, both, len, size, fits)

    by : (c : StringType) → IsHead h (string_major c) n → IsAllowed c y → IsSpelledSo spelling (h ++ y)
        (string_tree c y) → IsReadAs spelling (h ++ y) p l (string_tree c y)
    by StringType.Bytes is ok so = (
      item.bytes false y,
      (h, subst (IsHead h 2) (sym size) is, ok, refl),
      refl,
      within-zero l,
      room,
      so,
    )
    by StringType.Text is ok so = (
      item.text false y,
      (h, subst (IsHead h 3) (sym size) is, ok, refl),
      refl,
      within-zero l,
      room,
      so,
    )

-- an open one
pub reads-open_string : (spelling : Spelling) (type : StringType) (b : List ℕ) (p : ℕ) (l : Limit) (c : List ℕ)
    (ys : List (List ℕ)) (r : List ℕ) → b ≡ open_byte (string_major type) ∷ (c ++ (break_byte ∷ r)) →
    AreChunks (string_major type) (IsAllowed type) c ys → spelling_fault spelling b ≡ None →
    p + length c + 2 ≤ greatest_offset → ReadsItem spelling l b p (string_tree type (joined ys)) r (p + length c + 2)
reads-open_string spelling type b p l c ys r split chunks none fits = record {
  taken = open_byte (string_major type) ∷ (c ++ (break_byte ∷ []));
  read = by type chunks split;
  split = split ∙ ap (λ (z : List ℕ). open_byte (string_major type) ∷ z) (sym (append_assoc c (break_byte ∷ []) r));
  at = omega (arith, len);
}
  where
    len : length (c ++ (break_byte ∷ [])) ≡ length c + 1
    len = length-append c (break_byte ∷ [])

    by : (k : StringType) → AreChunks (string_major k) (IsAllowed k) c ys →
        b ≡ open_byte (string_major k) ∷ (c ++ (break_byte ∷ r)) →
        IsReadAs spelling (open_byte (string_major k) ∷ (c ++ (break_byte ∷ []))) p l (string_tree k (joined ys))
    by StringType.Bytes h e = (
      item.bytes true (joined ys),
      (ys, c, h, refl, refl),
      refl,
      within-zero l,
      omega (arith, len, fits),
      so-open spelling b 2 (c ++ (break_byte ∷ r)) _ _ (omega arith) (omega arith) e none,
    )
    by StringType.Text h e = (
      item.text true (joined ys),
      (ys, c, h, refl, refl),
      refl,
      within-zero l,
      omega (arith, len, fits),
      so-open spelling b 3 (c ++ (break_byte ∷ r)) _ _ (omega arith) (omega arith) e none,
    )

-- a simple value
simple-tree : (order : KeyOrder) (n : ℕ) (t : Tree) (b : List ℕ) → simple_meaning n ≡ Some t → (n ≡ 23 → ⊥) →
    IsSimple b n → (b ≡ encoding t) × HasRisingKeys order t
unfolding simple_meaning
simple-tree order n t b means other is =
    by (eqb n 20) (eqb n 21) (eqb n 22) (eqb n 23) (eqb-true n 20) (eqb-true n 21) (eqb-true n 22) (eqb-true n 23) means
  where
    one : (k : ℕ) → k < 24 → n ≡ k → IsSimple b n → b ≡ (224 + k) ∷ []
    one k lt e (inl s) = s.1 ∙ ap (λ j. (224 + j) ∷ []) e
    one k lt e (inr s) = let low = s.0 in absurd (omega (arith, low, e, lt))

    some-is : (v w : Tree) → Some v ≡ Some w → v ≡ w
    some-is v w e = cc

    Is : Tree → Type 0
    Is v = (b ≡ encoding v) × HasRisingKeys order v

    by : (x y z w : Bool) → (x ≡ true → n ≡ 20) → (y ≡ true → n ≡ 21) → (z ≡ true → n ≡ 22) → (w ≡ true → n ≡ 23) →
        cond x (Some (trees.boolean false)) (cond y (Some (trees.boolean true))
        (cond (z || w) (Some trees.null) None)) ≡ Some t → Is t
    by true y z w f g h i e = subst Is (some-is (trees.boolean false) t e) (one 20 (omega arith) (f refl) is, tt)
    by false true z w f g h i e = subst Is (some-is (trees.boolean true) t e) (one 21 (omega arith) (g refl) is, tt)
    by false false true w f g h i e = subst Is (some-is trees.null t e) (one 22 (omega arith) (h refl) is, tt)
    by false false false true f g h i e = absurd (other (i refl))
    by false false false false f g h i e = absurd cc

pub reads-simple : (spelling b p l s n r v : _) → IsSimple s n → b ≡ s ++ r → simple_meaning n ≡ Some v →
    spelling_fault spelling b ≡ None → p + length s ≤ greatest_offset → ReadsItem spelling l b p v r (p + length s)
reads-simple spelling b p l s n r v is split means none fits = record {
  taken = s;
  read = (item.simple n, is, means, within-zero l, fits, so spelling none);
  split = split;
  at = refl;
}
  where
    so : (o : Spelling) → spelling_fault o b ≡ None → IsSpelledSo o s v
    so any fine = tt
    so (deterministic order) fine = simple-tree order n v s means other is
      where
        other : n ≡ 23 → ⊥
        other e = no is
          where
            no : IsSimple s n → ⊥
            no (inl h) =
                let bytes : b ≡ 247 ∷ r = split ∙ ap (λ (c : List ℕ). c ++ r) (h.1 ∙ ap (λ j. (224 + j) ∷ []) e) in
                let never : Some NotShortest ≡ None = sym (fault-undefined order r) ∙
                ap (spelling_fault (deterministic order)) (sym bytes) ∙ fine in
                cc
            no (inr h) = let low = h.0 in omega (arith, low, e)

-- ---- containers

-- the parts of what is unfinished, taken together
pub parts_of : (spelling : Spelling) {b : List ℕ} {p : ℕ} {l : Limit} {vs : List Tree} {r : List ℕ} {q : ℕ} {now : Due}
    {below : Limit} → IsInside spelling b p l vs r q now below → HasParts spelling b p l vs r q now below
parts_of spelling {p = p} (IsInside.begun {size} {r} {due} {below} head begins level fits) = record {
  size = size;
  good = [];
  start = due;
  head = head;
  begins = begins;
  level = level;
  parts = refl;
  in_order = none due;
  due = refl;
  at = omega arith;
  fits = fits;
}
  where
    none : (w : Due) → AreInOrder spelling (keys_among w [])
    none (items n) = empty-order spelling
    none (keys n) = empty-order spelling
    none (values n) = empty-order spelling
parts_of spelling {b} {p} (IsInside.more {vs} {r} {s} {t} {q} {v} {due} {next} {below} inside item split e order) =
    let i = parts_of spelling inside in
    let g : List ℕ = i.good in
    let at = i.at in
    let len : length (g ++ s) ≡ length g + length s = length-append g s in
    let same : g ++ r ≡ (g ++ s) ++ t = ap (λ (c : List ℕ). g ++ c) split ∙ sym (append_assoc g s t) in
    record {
      size = i.size;
      good = g ++ s;
      start = i.start;
      head = i.head;
      begins = subst (λ c. BeginsContainer b i.size c i.start) same i.begins;
      level = i.level;
      parts = read-more spelling vs g s v (p + i.size) below i.parts
          (subst (λ z. IsReadAs spelling s z below v) at item);
      in_order = subst (AreInOrder spelling) (keys-from i.start due vs (vs ++ (v ∷ [])) i.due) order;
      due = due-more i.start vs v due next i.due e;
      at = omega (arith, at, len);
      fits = item.4;
    }

-- one part more
pub inside-more : (spelling b p l below vs v r s q u now next : _) → IsInside spelling b p l vs r q now below →
    ReadsItem spelling below r q v s u → next_due now ≡ Some next →
    AreInOrder spelling (keys_among now (vs ++ (v ∷ []))) → IsInside spelling b p l (vs ++ (v ∷ [])) s u next below
inside-more spelling b p l below vs v r s q u now next i item e order =
    subst (λ z. IsInside spelling b p l (vs ++ (v ∷ [])) s z next below) (sym item.at)
    (IsInside.more i item.read item.split e order)

-- items are due in arrays alone
items-stay : (m vs now : _) → due_after (items m) vs ≡ Some now → (n : Option ℕ) × (now ≡ items n)
items-stay m [] now h = (m, (let e : now ≡ items m = cc in e))
items-stay None (v ∷ vs) now h = items-stay None vs now h
items-stay (Some zero) (v ∷ vs) now h = absurd cc
items-stay (Some (suc m)) (v ∷ vs) now h = items-stay (Some m) vs now h

-- and keys in maps
abbrev IsItem : Due → Type 0
IsItem (items n) = Unit {0}
IsItem _ = ⊥

start-keys : (b : List ℕ) (k : ℕ) (r : List ℕ) (start : Due) (vs : List Tree) (now : Due) → ¬ IsItem now →
    BeginsContainer b k r start → due_after start vs ≡ Some now → (m : Option ℕ) × (start ≡ keys m)
start-keys b k r start vs now other (BeginsContainer.array c st) h =
    let e = items-stay (Some c) vs now h in absurd (other (subst IsItem (sym e.1) tt))
start-keys b k r start vs now other (BeginsContainer.open_array one e) h =
    let e = items-stay None vs now h in absurd (other (subst IsItem (sym e.1) tt))
start-keys b k r start vs now other (BeginsContainer.map c st) h = (Some c, refl)
start-keys b k r start vs now other (BeginsContainer.open_map one e) h = (None, refl)

-- in a deterministic spelling nothing waits for a break
no-break-due : (n : ℕ) (vs : List Tree) → due_after (keys (Some n)) vs ≡ Some (keys None) → ⊥
no-break-due n [] h = cc
no-break-due zero (k ∷ vs) h = cc
no-break-due (suc n) (k ∷ []) h = cc
no-break-due (suc n) (k ∷ (v ∷ vs)) h = no-break-due n vs h

pub never-open : (order b p l vs r q below : _) → HasParts (deterministic order) b p l vs r q (keys None) below → ⊥
never-open order b p l vs r q below i = by i.start i.begins i.due
  where
    by : (start : Due) → BeginsContainer b i.size (i.good ++ r) start → due_after start vs ≡ Some (keys None) → ⊥
    by start (BeginsContainer.array c st) h = let e = items-stay (Some c) vs (keys None) h in cc
    by start (BeginsContainer.open_array one e) h = let e = items-stay None vs (keys None) h in cc
    by start (BeginsContainer.map c st) h = no-break-due c vs h
    by start (BeginsContainer.open_map one e) h =
        let no : Some Open ≡ None = sym (fault-open order 5 (i.good ++ r) (omega arith) (omega arith)) ∙
        ap (spelling_fault (deterministic order)) (sym e) ∙ i.head.1 in
        cc

-- items and values do not change the order of keys
abbrev pub IsNoKey : Due → Type 0
IsNoKey (items n) = Unit {0}
IsNoKey (keys n) = ⊥
IsNoKey (values n) = Unit {0}

-- the keys so far are in order
pub order-now : (spelling : Spelling) {b : List ℕ} {p : ℕ} {l : Limit} {vs : List Tree} {r : List ℕ} {q : ℕ}
    {now : Due} {below : Limit} → HasParts spelling b p l vs r q now below → AreInOrder spelling (keys_among now vs)
order-now spelling {vs = vs} {now = now} i = subst (AreInOrder spelling) (sym (keys-from i.start now vs vs i.due))
    i.in_order

pub no-key-order : (spelling : Spelling) {b : List ℕ} {p : ℕ} {l : Limit} {vs : List Tree} {r : List ℕ} {q : ℕ}
    {now : Due} {below : Limit} → HasParts spelling b p l vs r q now below → (v : Tree) → IsNoKey now →
    AreInOrder spelling (keys_among now (vs ++ (v ∷ [])))
no-key-order spelling {now = items n} i v other = empty-order spelling
no-key-order spelling {now = keys n} i v other = absurd other
no-key-order spelling {b} {vs = vs} {r = r} {now = values n} i v other =
    let e = start-keys b i.size (i.good ++ r) i.start vs (values n) (λ h. h) i.begins i.due in
    subst (AreInOrder spelling)
    (sym (keys_in-value e.0 n vs v (subst (λ w. due_after w vs ≡ Some (values n)) e.1 i.due))) (order-now spelling i)

-- what is complete
complete-items : (n : ℕ) (vs : List Tree) (now : Due) (r s : List ℕ) (q u : ℕ) →
    due_after (items (Some n)) vs ≡ Some now → IsComplete now r q s u → (now ≡ items (Some 0)) × (r ≡ s) × (q ≡ u)
complete-items n [] now r s q u due done =
    let same : now ≡ items (Some n) = cc in
    let d = rw same at done in (same ∙ ap (λ k. items (Some k)) d.0, d.1, d.2)
complete-items zero (v ∷ vs) now r s q u due done = absurd cc
complete-items (suc n) (v ∷ vs) now r s q u due done = complete-items n vs now r s q u due done

complete-keys : (n : ℕ) (vs : List Tree) (now : Due) (r s : List ℕ) (q u : ℕ) →
    due_after (keys (Some n)) vs ≡ Some now → IsComplete now r q s u → (now ≡ keys (Some 0)) × (r ≡ s) × (q ≡ u)
complete-keys n [] now r s q u due done =
    let same : now ≡ keys (Some n) = cc in
    let d = rw same at done in (same ∙ ap (λ k. keys (Some k)) d.0, d.1, d.2)
complete-keys zero (v ∷ vs) now r s q u due done = absurd cc
complete-keys (suc n) (k ∷ []) now r s q u due done =
    let same : now ≡ values (Some n) = cc in absurd (rw same at done)
complete-keys (suc n) (k ∷ (v ∷ vs)) now r s q u due done = complete-keys n vs now r s q u due done

complete-open_items : (vs : List Tree) (now : Due) → due_after (items None) vs ≡ Some now → now ≡ items None
complete-open_items [] now due = cc
complete-open_items (v ∷ vs) now due = complete-open_items vs now due

complete-open_keys : (vs : List Tree) (now : Due) (r s : List ℕ) (q u : ℕ) →
    due_after (keys None) vs ≡ Some now → IsComplete now r q s u → now ≡ keys None
complete-open_keys [] now r s q u due done = cc
complete-open_keys (k ∷ []) now r s q u due done =
    let same : now ≡ values None = cc in absurd (rw same at done)
complete-open_keys (k ∷ (v ∷ vs)) now r s q u due done = complete-open_keys vs now r s q u due done

-- an array or map, with the item of its parts
definite-read : (spelling h g b p l i v r s k q u : _) → Spells (h ++ g) i → meaning i ≡ Some v →
    IsWithin l (nesting i) → IsSpelledSo spelling (h ++ g) v → length h ≡ k → b ≡ h ++ (g ++ r) → r ≡ s → q ≡ u →
    q ≡ p + k + length g → q ≤ greatest_offset → ReadsItem spelling l b p v s u
definite-read spelling h g b p l i v r s k q u spelled means nests so len split same here at fits =
    let both : length (h ++ g) ≡ length h + length g = length-append h g in
    record {
      taken = h ++ g;
      read = (i, spelled, means, nests, omega (arith, both, len, at, fits), so);
      split = split ∙ sym (append_assoc h g r) ∙ ap (λ (c : List ℕ). (h ++ g) ++ c) same;
      at = omega (arith, both, len, at, here);
    }

opened-read : (spelling m g b p l i v r s q u : _) → 2 ≤ m → m ≤ 5 → spelling_fault spelling b ≡ None →
    Spells (open_byte m ∷ (g ++ (break_byte ∷ []))) i → meaning i ≡ Some v → IsWithin l (nesting i) →
    b ≡ open_byte m ∷ (g ++ r) → r ≡ break_byte ∷ s → q + 1 ≡ u → q ≡ p + 1 + length g → u ≤ greatest_offset →
    ReadsItem spelling l b p v s u
opened-read spelling m g b p l i v r s q u low high fine spelled means nests split same here at fits =
    let x : ℕ = open_byte m in
    let both : length (g ++ (break_byte ∷ [])) ≡ length g + 1 = length-append g (break_byte ∷ []) in
    record {
      taken = x ∷ (g ++ (break_byte ∷ []));
      read = (
        i,
        spelled,
        means,
        nests,
        omega (arith, both, at, here, fits),
        so-open spelling b m (g ++ r) (x ∷ (g ++ (break_byte ∷ []))) v low high split fine,
      );
      split = split ∙ ap (λ (c : List ℕ). x ∷ (g ++ c)) same ∙
          ap (λ (c : List ℕ). x ∷ c) (sym (append_assoc g (break_byte ∷ []) s));
      at = omega (arith, both, at, here);
    }

-- an array or map that is complete
pub reads-container : (spelling b p l below vs r s q u now : _) → IsInside spelling b p l vs r q now below →
    IsComplete now r q s u → ReadsItem spelling l b p (container_of now vs) s u
reads-container spelling b p l below vs r s q u now inside done = by i.start i.begins i.due i.in_order
  where
    i : HasParts spelling b p l vs r q now below
    i = parts_of spelling inside

    g : List ℕ
    g = i.good

    at : q ≡ p + i.size + length i.good
    at = i.at

    by : (start : Due) → BeginsContainer b i.size (i.good ++ r) start → due_after start vs ≡ Some now →
        AreInOrder spelling (keys_among start vs) → ReadsItem spelling l b p (container_of now vs) s u
    by start (BeginsContainer.array n (h, is, len, split)) due rises =
        let c = complete-items n vs now r s q u due done in
        let w = items-read spelling vs g (p + i.size) below i.parts in
        let size : length vs ≡ n = counted-items vs n (due ∙ ap Some c.0) in
        let short = good-short spelling b 4 n i.size (g ++ r) (omega arith) (h, is, len, split) i.head.1 in
        rw c.0 (definite-read spelling h g b p l (item.array false w.0) (trees.array (trees_from vs)) r s i.size q u
        (g, w.1, (h, subst (IsHead h 4) (sym (w.4 ∙ size)) is, refl)) (ap (option_map trees.array) w.2)
        (raise l below _ i.level w.3)
        (so-array spelling h g (p + i.size) below vs (subst (IsShortIn spelling h 4) (sym size) short) i.parts)
        len split c.1 c.2 at i.fits)
    by start (BeginsContainer.map n (h, is, len, split)) due rises =
        let c = complete-keys n vs now r s q u due done in
        let e = counted-pairs vs n (due ∙ ap Some c.0) in
        let w = pairs-read spelling vs g (p + i.size) below e.0 i.parts in
        let size = e.1 in
        let short = good-short spelling b 5 n i.size (g ++ r) (omega arith) (h, is, len, split) i.head.1 in
        rw c.0 (definite-read spelling h g b p l (item.map false w.0) (trees.map (pairs_in vs)) r s i.size q u
        (g, w.1, (h, subst (IsHead h 5) (sym (w.4 ∙ size)) is, refl)) (ap (option_map trees.map) w.2)
        (raise l below _ i.level w.3)
        (so-map spelling h g (p + i.size) below vs e.0 (subst (IsShortIn spelling h 5) (sym size) short) i.parts rises)
        len split c.1 c.2 at i.fits)
    by start (BeginsContainer.open_array k split) due rises =
        let none = complete-open_items vs now due in
        let c : IsComplete (items None) r q s u = subst (λ z. IsComplete z r q s u) none done in
        let w = items-read spelling vs g (p + i.size) below i.parts in
        rw none (opened-read spelling 4 g b p l (item.array true w.0) (trees.array (trees_from vs)) r s q u
        (omega arith) (omega arith) i.head.1 (g, w.1, refl) (ap (option_map trees.array) w.2)
        (raise l below _ i.level w.3) split c.0 c.1 (omega (arith, at, k)) c.2)
    by start (BeginsContainer.open_map k split) due rises =
        let none = complete-open_keys vs now r s q u due done in
        let c : IsComplete (keys None) r q s u = subst (λ z. IsComplete z r q s u) none done in
        let w = pairs-read spelling vs g (p + i.size) below (open-pairs vs (due ∙ ap Some none)) i.parts in
        rw none (opened-read spelling 5 g b p l (item.map true w.0) (trees.map (pairs_in vs)) r s q u (omega arith)
        (omega arith) i.head.1 (g, w.1, refl) (ap (option_map trees.map) w.2) (raise l below _ i.level w.3) split c.0
        c.1 (omega (arith, at, k)) c.2)

-- ---- tags

-- a tag with its item
pub reads-tag : (spelling b p t l below r s q u v : _) → IsTagAt spelling b p t r q → (IsFoldingAt t r → ⊥) →
    IsOneLess l below → ReadsItem spelling below r q v s u → ReadsItem spelling l b p (trees.tag t v) s u
reads-tag spelling b p t l below r s q u v a never level i =
    let (h, is, len, split) = a.tag in
    let w : List ℕ = i.taken in
    let (j, spelled, means, nests, fits, so) = i.read in
    let none : folding_bytes t j ≡ None = folds-none t j w s r spelled i.split never in
    let both : length (h ++ w) ≡ length h + length w = length-append h w in
    let at = a.at in
    let end = i.at in
    record {
      taken = h ++ w;
      read = (
        item.tag t j,
        (h, w, is, spelled, refl),
        ap (λ o. tag_meaning t o (meaning j)) none ∙ ap (option_map (trees.tag t)) means,
        subst (λ o. IsWithin l (tag_nesting o (nesting j))) (sym none) (raise l below (nesting j) level nests),
        omega (arith, both, len, at, fits),
        so-tag spelling h w t v (good-short spelling b 6 t a.size r (omega arith) a.tag a.head.1) so,
      );
      split = split ∙ ap (λ (c : List ℕ). h ++ c) i.split ∙ sym (append_assoc h w s);
      at = omega (arith, both, len, at, end);
    }

-- what is read where a tag folds is a short byte string
pub folding-reads : (spelling : Spelling) (t : ℕ) (l : Limit) (r s : List ℕ) (q u : ℕ) (v : Tree) →
    ReadsItem spelling l r q v s u → IsFoldingAt t r → (y : List ℕ) × (v ≡ trees.bytes y) × (length y ≤ 16) × AreBytes y
folding-reads spelling t l r s q u v i f =
    let (j, spelled, means, nests, fits, so) = i.read in
    let w = folding-string t j i.taken s r spelled i.split f in
    let e : Some (trees.bytes w.0) ≡ Some v = sym (ap meaning w.1) ∙ means in
    let k : Spells i.taken (item.bytes false w.0) = subst (Spells i.taken) w.1 spelled in
    (w.0, (let f : v ≡ trees.bytes w.0 = cc in f), w.2, k.2)

-- a tag that folds, over a string whose bytes it takes
pub reads-folded : (spelling b p t l r s q u y v : _) → IsTagAt spelling b p t r q → IsFoldingAt t r →
    ReadsItem spelling l r q (trees.bytes y) s u → (IsUnwanted spelling y → ⊥) → bignum_meaning t y ≡ Some v →
    ReadsItem spelling l b p v s u
reads-folded spelling b p t l r s q u y v a f i wanted means =
    let (h, is, len, split) = a.tag in
    let w : List ℕ = i.taken in
    let (j, spelled, m, nests, fits, so) = i.read in
    let z = folding-string t j w s r spelled i.split f in
    let e : Some (trees.bytes z.0) ≡ Some (trees.bytes y) = sym (ap meaning z.1) ∙ m in
    let same : z.0 ≡ y = cc in
    let is-j : j ≡ item.bytes false y = z.1 ∙ ap (item.bytes false) same in
    let over : folding_bytes t j ≡ Some y = ap (folding_bytes t) is-j ∙
    folding-over t y f.0 (subst (λ (c : List ℕ). length c ≤ 16) same z.2) in
    let both : length (h ++ w) ≡ length h + length w = length-append h w in
    let at = a.at in
    let end = i.at in
    record {
      taken = h ++ w;
      read = (
        item.tag t j,
        (h, w, is, spelled, refl),
        ap (λ o. tag_meaning t o (meaning j)) over ∙ means,
        subst (λ o. IsWithin l (tag_nesting o (nesting j))) (sym over) (within-zero l),
        omega (arith, both, len, at, fits),
        so-folded spelling h w t y v (good-short spelling b 6 t a.size r (omega arith) a.tag a.head.1) so f.0 wanted
            means,
      );
      split = split ∙ ap (λ (c : List ℕ). h ++ c) i.split ∙ sym (append_assoc h w s);
      at = omega (arith, both, len, at, end);
    }
