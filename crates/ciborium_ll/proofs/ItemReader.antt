-- A reader of items over lists, for proofs alone: it finds each item that is spelled at the front.
use Rattle.std.proofs.Common.{◌≡◌, ℕ, zero, suc, ◌+◌, ◌-◌, ◌*◌, ◌<◌, ◌≤◌, cond, eqb, Bool, true, false, List, [], ◌∷◌}
use Rattle.std.proofs.Common.{◌++◌, length, take, drop, Option, Some, None, option_map, option_and_then, refl, sym, ap}
use Rattle.std.proofs.{Common.{◌∙◌, arith, inl, inr, append_assoc, length-append}, Math.Seq.take-append_seam}
use Rattle.std.{proofs.Math.Seq.drop-append_seam, specs.Prelude.IsUtf8}
use Rattle.ciborium_ll.proofs.FrontHeads.{Front, nothing, counted, opened, plain, raw, front, front_open, front-head}
use Rattle.ciborium_ll.{proofs.FrontHeads.{front-simple, head-length}, specs.{Bytes.AreBytes, Head.{IsHead, IsSimple}}}
use Rattle.ciborium_ll.specs.{Head.IsFloat, Item.{Item, unsigned, negative, bytes, text, array, map, tag, simple}}
use Rattle.ciborium_ll.specs.Item.{float, Items, no_items, item, Pairs, no_pairs, pair, items_count, pairs_count}
use Rattle.ciborium_ll.specs.Spells.{AreChunks, joined, IsString, Spells, SpellsItems, SpellsPairs}

abbrev pub Parse : Type 0 → Type 0
Parse A = List ℕ → Option (A × List ℕ)

abbrev pub found : {A : Type 0} → A → List ℕ → Option (A × List ℕ)
found a r = Some (a, r)

abbrev pub parse_map : {A B : Type 0} → (A → B) → Option (A × List ℕ) → Option (B × List ℕ)
parse_map f r = option_map (λ p. (f p.0, p.1)) r

-- ---- containers, over a reader p of items

abbrev ended : Parse Items
ended [] = None
ended (x ∷ bs) = Some (no_items, bs)

abbrev pairs_ended : Parse Pairs
pairs_ended [] = None
pairs_ended (x ∷ bs) = Some (no_pairs, bs)

abbrev item_then : Parse Items → Option (Item × List ℕ) → Option (Items × List ℕ)
item_then more r = option_and_then (λ q. parse_map (item q.0) (more q.1)) r

abbrev pair_then : Parse Item → Parse Pairs → Option (Item × List ℕ) → Option (Pairs × List ℕ)
pair_then p more r = option_and_then (λ q. option_and_then (λ s. parse_map (pair q.0 s.0) (more s.1)) (p q.1)) r

abbrev or_end : {A : Type 0} → Option (Item × List ℕ) → Option A → Option A → Option A
or_end None e r = e
or_end (Some q) e r = r

abbrev many : Parse Item → ℕ → Parse Items
many p zero bs = Some (no_items, bs)
many p (suc n) bs = item_then (many p n) (p bs)

abbrev until : Parse Item → ℕ → Parse Items
until p zero bs = None
until p (suc n) bs = or_end (p bs) (ended bs) (item_then (until p n) (p bs))

abbrev many_pairs : Parse Item → ℕ → Parse Pairs
many_pairs p zero bs = Some (no_pairs, bs)
many_pairs p (suc n) bs = pair_then p (many_pairs p n) (p bs)

abbrev until_pairs : Parse Item → ℕ → Parse Pairs
until_pairs p zero bs = None
until_pairs p (suc n) bs = or_end (p bs) (pairs_ended bs) (pair_then p (until_pairs p n) (p bs))

-- ---- strings

abbrev part_in : (List ℕ → Option (List ℕ × List ℕ)) → Front → Option (List ℕ × List ℕ)
part_in more nothing = None
part_in more (counted m n r) = parse_map (λ p. take n r ++ p) (more (drop n r))
part_in more (opened m r) = Some ([], r)
part_in more (plain n r) = None
part_in more (raw n r) = None

abbrev parts : ℕ → List ℕ → Option (List ℕ × List ℕ)
parts zero bs = None
parts (suc k) bs = part_in (parts k) (front bs)

-- ---- items

abbrev counted_item : Parse Item → ℕ → ℕ → Parse Item
counted_item p m n r = cond (eqb m 0) (Some (unsigned n, r)) (cond (eqb m 1) (Some (negative n, r))
    (cond (eqb m 2) (Some (bytes false (take n r), drop n r)) (cond (eqb m 3) (Some (text false (take n r), drop n r))
    (cond (eqb m 4) (parse_map (array false) (many p n r))
    (cond (eqb m 5) (parse_map (map false) (many_pairs p n r)) (parse_map (tag n) (p r)))))))

abbrev opened_item : Parse Item → ℕ → ℕ → Parse Item
opened_item p k m r = cond (eqb m 2) (parse_map (bytes true) (parts (length r) r))
    (cond (eqb m 3) (parse_map (text true) (parts (length r) r)) (cond (eqb m 4) (parse_map (array true) (until p k r))
    (cond (eqb m 5) (parse_map (map true) (until_pairs p k r)) None)))

abbrev item_at : Parse Item → ℕ → Front → Option (Item × List ℕ)
item_at p k nothing = None
item_at p k (counted m n r) = counted_item p m n r
item_at p k (opened m r) = opened_item p k m r
item_at p k (plain n r) = Some (simple n, r)
item_at p k (raw n r) = Some (float (take n r), drop n r)

-- its fuel bounds the nesting, and the parts of an open container
abbrev pub read : ℕ → Parse Item
read zero bs = None
read (suc d) bs = item_at (read d) d (front bs)

-- how much fuel an item needs
abbrev mutual
  pub weight : Item → ℕ
  weight (array o is) = suc (items_weight is)
  weight (map o ps) = suc (pairs_weight ps)
  weight (tag n i) = suc (weight i)
  weight u = 1

  pub items_weight : Items → ℕ
  items_weight no_items = 1
  items_weight (item i is) = suc (weight i + items_weight is)

  pub pairs_weight : Pairs → ℕ
  pairs_weight no_pairs = 1
  pairs_weight (pair k v ps) = suc (weight k + weight v + pairs_weight ps)

-- ---- what is spelled is read

read_is : (d : ℕ) (bs : List ℕ) → 0 < d → read d bs ≡ item_at (read (d - 1)) (d - 1) (front bs)
read_is zero bs h = let never : ⊥ = omega arith in absurd never
read_is (suc d) bs h = let e : d ≡ suc d - 1 = omega arith in ap (λ k. item_at (read k) k (front bs)) e

-- a head h stands before q
front-counted : (b h q x : List ℕ) (m n : ℕ) → m < 7 → IsHead h m n → b ≡ h ++ q → front (b ++ x) ≡ counted m n (q ++ x)
front-counted b h q x m n k s e = ap (λ (c : List ℕ). front (c ++ x)) e ∙ ap front (append_assoc h q x) ∙
    front-head h m n (q ++ x) k s

front-opened : (b q x : List ℕ) (m : ℕ) → b ≡ (m * 32 + 31) ∷ (q ++ (255 ∷ [])) →
    front (b ++ x) ≡ opened m (q ++ (255 ∷ x))
front-opened b q x m e = ap (λ (c : List ℕ). front (c ++ x)) e ∙
    ap (λ (c : List ℕ). front ((m * 32 + 31) ∷ c)) (append_assoc q (255 ∷ []) x) ∙ front_open m (q ++ (255 ∷ x))

read-break : (d : ℕ) (x : List ℕ) → 0 < d → read d (255 ∷ x) ≡ None
read-break d x h = read_is d (255 ∷ x) h ∙ ap (item_at (read (d - 1)) (d - 1)) (front_open 7 x)

taken : (c : List ℕ → Item) (p x : List ℕ) → found (c (take (length p) (p ++ x))) (drop (length p) (p ++ x)) ≡ found
    (c p) x
taken c p x = ap (λ (t : List ℕ). found (c t) (drop (length p) (p ++ x))) (take-append_seam p x) ∙
    ap (found (c p)) (drop-append_seam p x)

parts-again : (m : ℕ) (IsAllowed : List ℕ → Type 0) (ps : List (List ℕ)) (k : ℕ) (b x : List ℕ) → m < 7 → length b < k →
    AreChunks m IsAllowed b ps → parts k (b ++ (255 ∷ x)) ≡ found (joined ps) x
parts-again m IsAllowed [] (suc k) b x lt le s = ap (λ (c : List ℕ). part_in (parts k) (front (c ++ (255 ∷ x)))) s ∙
    ap (part_in (parts k)) (front_open 7 x)
parts-again m IsAllowed (p ∷ ps) (suc k) b x lt le s =
    let q = s.0 in
    let r = s.1 in
    let str = s.2 in
    let whole : b ≡ str.0 ++ (p ++ r) = s.4 ∙ ap (λ (c : List ℕ). c ++ r) str.3 ∙ append_assoc str.0 p r in
    let shorter : length r < k = omega (
      arith,
      head-length str.0 m (length p) str.1,
      ap length whole,
      length-append str.0 (p ++ r),
      length-append p r,
    ) in
    let at : front (b ++ (255 ∷ x)) ≡ counted m (length p) (p ++ (r ++ (255 ∷ x))) =
    front-counted b str.0 (p ++ r) (255 ∷ x) m (length p) lt str.1 whole ∙
    ap (counted m (length p)) (append_assoc p r (255 ∷ x)) in
    ap (part_in (parts k)) at ∙
    ap (λ (t : List ℕ). parse_map (λ z. take (length p) (p ++ (r ++ (255 ∷ x))) ++ z) (parts k t))
    (drop-append_seam p (r ++ (255 ∷ x))) ∙
    ap (λ (t : List ℕ). parse_map (λ z. t ++ z) (parts k (r ++ (255 ∷ x)))) (take-append_seam p (r ++ (255 ∷ x))) ∙
    ap (parse_map (λ z. p ++ z)) (parts-again m IsAllowed ps k r x lt shorter s.3)
parts-again m u v w b x lt le s = let never : ⊥ = omega arith in absurd never

string-again : (d : ℕ) (o : Bool) (p b x : List ℕ) → 0 < d → IsString o 2 AreBytes b p →
    read d (b ++ x) ≡ found (bytes o p) x
string-again d false p b x h s = read_is d (b ++ x) h ∙ ap (item_at (read (d - 1)) (d - 1))
    (front-counted b s.0 p x 2 (length p) (omega arith) s.1 s.3) ∙ taken (bytes false) p x
string-again d true p b x h s =
    let r = s.1 in
    let room : length r < length (r ++ (255 ∷ x)) = omega (arith, length-append r (255 ∷ x)) in
    read_is d (b ++ x) h ∙ ap (item_at (read (d - 1)) (d - 1)) (front-opened b r x 2 s.4) ∙
    ap (parse_map (bytes true)) (parts-again 2 AreBytes s.0 (length (r ++ (255 ∷ x))) r x (omega arith) room s.2) ∙
    ap (λ (t : List ℕ). found (bytes true t) x) (sym s.3)

text-again : (d : ℕ) (o : Bool) (p b x : List ℕ) → 0 < d → IsString o 3 IsUtf8 b p →
    read d (b ++ x) ≡ found (text o p) x
text-again d false p b x h s = read_is d (b ++ x) h ∙ ap (item_at (read (d - 1)) (d - 1))
    (front-counted b s.0 p x 3 (length p) (omega arith) s.1 s.3) ∙ taken (text false) p x
text-again d true p b x h s =
    let r = s.1 in
    let room : length r < length (r ++ (255 ∷ x)) = omega (arith, length-append r (255 ∷ x)) in
    read_is d (b ++ x) h ∙ ap (item_at (read (d - 1)) (d - 1)) (front-opened b r x 3 s.4) ∙
    ap (parse_map (text true)) (parts-again 3 IsUtf8 s.0 (length (r ++ (255 ∷ x))) r x (omega arith) room s.2) ∙
    ap (λ (t : List ℕ). found (text true t) x) (sym s.3)

simple-again : (d n : ℕ) (b x : List ℕ) → 0 < d → IsSimple b n → read d (b ++ x) ≡ found (simple n) x
simple-again d n b x h (inl s) =
    read_is d (b ++ x) h ∙ ap (λ (c : List ℕ). item_at (read (d - 1)) (d - 1) (front (c ++ x))) s.1 ∙
    ap (item_at (read (d - 1)) (d - 1)) (front-simple n x s.0)
simple-again d n b x h (inr s) =
    read_is d (b ++ x) h ∙ ap (λ (c : List ℕ). item_at (read (d - 1)) (d - 1) (front (c ++ x))) s.2

float_at : (d w x : ℕ) (r b y : List ℕ) → 0 < d → length r ≡ w → b ≡ x ∷ r → front (x ∷ (r ++ y)) ≡ raw w (r ++ y) →
    read d (b ++ y) ≡ found (float r) y
float_at d w x r b y h l e f = read_is d (b ++ y) h ∙
    ap (λ (c : List ℕ). item_at (read (d - 1)) (d - 1) (front (c ++ y))) e ∙ ap (item_at (read (d - 1)) (d - 1)) f ∙
    ap (λ (n : ℕ). found (float (take n (r ++ y))) (drop n (r ++ y))) (sym l) ∙ taken float r y

float-again : (d : ℕ) (r b x : List ℕ) → 0 < d → IsFloat b r → read d (b ++ x) ≡ found (float r) x
float-again d r b x h (inl s) = float_at d 2 249 r b x h s.0 s.1 refl
float-again d r b x h (inr (inl s)) = float_at d 4 250 r b x h s.0 s.1 refl
float-again d r b x h (inr (inr s)) = float_at d 8 251 r b x h s.0 s.1 refl

mutual
  pub read-again : (i : Item) (d : ℕ) (b x : List ℕ) → weight i ≤ d → Spells b i → read d (b ++ x) ≡ found i x
  read-again (unsigned n) d b x le s =
      read_is d (b ++ x) (omega arith) ∙ ap (item_at (read (d - 1)) (d - 1)) (front-head b 0 n x (omega arith) s)
  read-again (negative n) d b x le s =
      read_is d (b ++ x) (omega arith) ∙ ap (item_at (read (d - 1)) (d - 1)) (front-head b 1 n x (omega arith) s)
  read-again (bytes o p) d b x le s = string-again d o p b x (omega arith) s
  read-again (text o p) d b x le s = text-again d o p b x (omega arith) s
  read-again (array false is) d b x le s = read_is d (b ++ x) (omega arith) ∙
      ap (item_at (read (d - 1)) (d - 1)) (front-counted b s.2.0 s.0 x 4 (items_count is) (omega arith) s.2.1 s.2.2) ∙
      ap (parse_map (array false)) (many-again is (d - 1) s.0 x (omega arith) s.1)
  read-again (array true is) d b x le s =
      read_is d (b ++ x) (omega arith) ∙ ap (item_at (read (d - 1)) (d - 1)) (front-opened b s.0 x 4 s.2) ∙
      ap (parse_map (array true)) (until-again is (d - 1) (d - 1) s.0 x (omega arith) (omega arith) s.1)
  read-again (map false ps) d b x le s = read_is d (b ++ x) (omega arith) ∙
      ap (item_at (read (d - 1)) (d - 1)) (front-counted b s.2.0 s.0 x 5 (pairs_count ps) (omega arith) s.2.1 s.2.2) ∙
      ap (parse_map (map false)) (many_pairs-again ps (d - 1) s.0 x (omega arith) s.1)
  read-again (map true ps) d b x le s =
      read_is d (b ++ x) (omega arith) ∙ ap (item_at (read (d - 1)) (d - 1)) (front-opened b s.0 x 5 s.2) ∙
      ap (parse_map (map true)) (until_pairs-again ps (d - 1) (d - 1) s.0 x (omega arith) (omega arith) s.1)
  read-again (tag n i) d b x le s = read_is d (b ++ x) (omega arith) ∙
      ap (item_at (read (d - 1)) (d - 1)) (front-counted b s.0 s.1 x 6 n (omega arith) s.2 s.4) ∙
      ap (parse_map (tag n)) (read-again i (d - 1) s.1 x (omega arith) s.3)
  read-again (simple n) d b x le s = simple-again d n b x (omega arith) s
  read-again (float r) d b x le s = float-again d r b x (omega arith) s

  many-again : (is : Items) (d : ℕ) (b x : List ℕ) → items_weight is ≤ d → SpellsItems b is →
      many (read d) (items_count is) (b ++ x) ≡ found is x
  many-again no_items d b x le s = ap (λ (c : List ℕ). found no_items (c ++ x)) s
  many-again (item i is) d b x le s =
      ap (λ (c : List ℕ). item_then (many (read d) (items_count is)) (read d (c ++ x))) s.4 ∙
      ap (λ (c : List ℕ). item_then (many (read d) (items_count is)) (read d c)) (append_assoc s.0 s.1 x) ∙
      ap (item_then (many (read d) (items_count is))) (read-again i d s.0 (s.1 ++ x) (omega arith) s.2) ∙
      ap (parse_map (item i)) (many-again is d s.1 x (omega arith) s.3)

  until-again : (is : Items) (d k : ℕ) (b x : List ℕ) → items_weight is ≤ d → items_weight is ≤ k → SpellsItems b is →
      until (read d) k (b ++ (255 ∷ x)) ≡ found is x
  until-again no_items d (suc k) b x le lk s = ap (λ (c : List ℕ). until (read d) (suc k) (c ++ (255 ∷ x))) s ∙
      ap (λ r. or_end r (ended (255 ∷ x)) (item_then (until (read d) k) r)) (read-break d x (omega arith))
  until-again (item i is) d (suc k) b x le lk s =
      let y : List ℕ = 255 ∷ x in
      ap (λ (c : List ℕ). until (read d) (suc k) (c ++ y)) s.4 ∙
      ap (until (read d) (suc k)) (append_assoc s.0 s.1 y) ∙
      ap (λ r. or_end r (ended (s.0 ++ (s.1 ++ y))) (item_then (until (read d) k) r))
      (read-again i d s.0 (s.1 ++ y) (omega arith) s.2) ∙
      ap (parse_map (item i)) (until-again is d k s.1 x (omega arith) (omega arith) s.3)
  until-again u d v b x le lk s = let never : ⊥ = omega arith in absurd never

  many_pairs-again : (ps : Pairs) (d : ℕ) (b x : List ℕ) → pairs_weight ps ≤ d → SpellsPairs b ps →
      many_pairs (read d) (pairs_count ps) (b ++ x) ≡ found ps x
  many_pairs-again no_pairs d b x le s = ap (λ (c : List ℕ). found no_pairs (c ++ x)) s
  many_pairs-again (pair i j ps) d b x le s =
      let more = many_pairs (read d) (pairs_count ps) in
      ap (λ (c : List ℕ). pair_then (read d) more (read d (c ++ x))) s.6 ∙
      ap (λ (c : List ℕ). pair_then (read d) more (read d c))
      (append_assoc s.0 (s.1 ++ s.2) x ∙ ap (λ (c : List ℕ). s.0 ++ c) (append_assoc s.1 s.2 x)) ∙
      ap (pair_then (read d) more) (read-again i d s.0 (s.1 ++ (s.2 ++ x)) (omega arith) s.3) ∙
      ap (option_and_then (λ q. parse_map (pair i q.0) (more q.1))) (read-again j d s.1 (s.2 ++ x) (omega arith) s.4) ∙
      ap (parse_map (pair i j)) (many_pairs-again ps d s.2 x (omega arith) s.5)

  until_pairs-again : (ps : Pairs) (d k : ℕ) (b x : List ℕ) → pairs_weight ps ≤ d → pairs_weight ps ≤ k →
      SpellsPairs b ps → until_pairs (read d) k (b ++ (255 ∷ x)) ≡ found ps x
  until_pairs-again no_pairs d (suc k) b x le lk s =
      ap (λ (c : List ℕ). until_pairs (read d) (suc k) (c ++ (255 ∷ x))) s ∙
      ap (λ r. or_end r (pairs_ended (255 ∷ x)) (pair_then (read d) (until_pairs (read d) k) r))
      (read-break d x (omega arith))
  until_pairs-again (pair i j ps) d (suc k) b x le lk s =
      let y : List ℕ = 255 ∷ x in
      let more = until_pairs (read d) k in
      ap (λ (c : List ℕ). until_pairs (read d) (suc k) (c ++ y)) s.6 ∙
      ap (until_pairs (read d) (suc k)) (append_assoc s.0 (s.1 ++ s.2) y ∙
      ap (λ (c : List ℕ). s.0 ++ c) (append_assoc s.1 s.2 y)) ∙
      ap (λ r. or_end r (pairs_ended (s.0 ++ (s.1 ++ (s.2 ++ y)))) (pair_then (read d) more r))
      (read-again i d s.0 (s.1 ++ (s.2 ++ y)) (omega arith) s.3) ∙
      ap (option_and_then (λ q. parse_map (pair i q.0) (more q.1))) (read-again j d s.1 (s.2 ++ y) (omega arith) s.4) ∙
      ap (parse_map (pair i j)) (until_pairs-again ps d k s.2 x (omega arith) (omega arith) s.5)
  until_pairs-again u d v b x le lk s = let never : ⊥ = omega arith in absurd never
