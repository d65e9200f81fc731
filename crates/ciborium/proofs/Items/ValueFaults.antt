-- What refuses where an item stands is what the item refuses.
use Rattle.std.proofs.Common.{◌≡◌, ◌⊎◌, ℕ, ◌+◌, ◌*◌, ◌^◌, ◌<◌, ◌≤◌, cond, ◌/◌, ◌%◌, ltb, Bool, true, false, ◌&&◌, List}
use Rattle.std.proofs.Common.{[], ◌∷◌, ◌++◌, length, Option, Some, None, refl, sym, ap, ◌∙◌, subst, append_assoc, zero}
use Rattle.std.proofs.Common.{append-nil, length-append, arith, inl, inr, ltb-true, ltb-false, suc}
use Rattle.ciborium_ll.proofs.{UniqueSpelling.one_at_front}
use Rattle.ciborium_ll.specs.{Bytes.greatest_offset, Head.{IsHead, within, one_byte, two_bytes, four_bytes}}
use Rattle.ciborium_ll.specs.{Head.{eight_bytes, open_byte, break_byte}, Header.SpellsHeader, Item.{Item, Items, Pairs}}
use Rattle.ciborium_ll.specs.Item.{no_items, item, no_pairs, pair, unsigned, negative, bytes, text, array, tag, simple}
use Rattle.ciborium_ll.specs.{Item.{float, items_count, pairs_count}, Refusal.{Refusal, io, syntax, too_long, semantic}}
use Rattle.ciborium_ll.specs.Refusal.{recursion_limit_exceeded, HeadRefuses, IsUsable, HasHead, head_refusal}
use Rattle.ciborium_ll.specs.{Spells.{Spells, SpellsItems, SpellsPairs}, StringRefusal.{string_major, StringRefuses}}
use Rattle.ciborium_ll.specs.{StringRefusal.{ChunksRefuse, OpenStringRefuses}, declared.header.Header.Header}
use Rattle.ciborium_ll.specs.declared.strings.StringType.{StringType}
use Rattle.ciborium_value.proofs.GoodItems.{Bignums.large-none, Introduced.parts_of, Parts.{AreReadAs, due_after}}
use Rattle.ciborium_value.proofs.GoodItems.{Parts.due-first, Spelled.{folding-over, folding-string, folds-none}}
use Rattle.ciborium_value.{proofs.Sources.Sequences.{fault_map, fault_outside, fault_then}, specs.Given.Outcome}
use Rattle.ciborium_value.specs.Given.{Steps, gives, leveled, mapped, nests, of_meaning, outcome, outcome_map, refuses}
use Rattle.ciborium_value.specs.{Given.{given_items, given_tag, given_tree_pairs, given_value}, Meaning.folding_bytes}
use Rattle.ciborium_value.specs.{Meaning.{big_endian, meaning}, Nesting.{Limit, IsOneLess}, Refuses.Due}
use Rattle.ciborium_value.specs.Refuses.{items, keys, values, next_due, IsDue, BeginsContainer, IsTagAt}
use Rattle.ciborium_value.specs.{Refuses.Refuses, Sources.{Fault, of_kind, of_nesting, of_syntax, of_memory, of_device}}
use Rattle.ciborium_value.specs.{Sources.{of_end, of_length, IsFaultOf, IsOutsideFault}, Spelling.any, Tree.Tree}
use Rattle.ciborium_value.specs.{Tree.{Trees, TreePairs}, lemmas.GivenOutcomes.{pair_first, tree_first}}
use Rattle.ciborium.proofs.Items.{FrontReads.{head-passes, only-long}, ItemHeads.{header_of, first-head, first-payload}}
use Rattle.ciborium.proofs.Items.ItemHeads.{behind-head, behind-open}
use Rattle.ciborium.proofs.Items.{ItemHeads.{same-head, no-break-head, tag-front}, ValuesGiven.level-taken}
use Rattle.ciborium.proofs.{Items.ValuesGiven.value-gives, Payloads.SpelledStrings.{definite-never, content-long}}
use Rattle.ciborium.proofs.Payloads.{SpelledStrings.{content-only, string-spells}, StringPayloads.string-only}
use Rattle.ciborium.specs.inner.StringContents.{head_of}
use Rattle.ciborium_ll.specs.declared.header.Header.TheVariants as header
use Rattle.ciborium_ll.specs.Item as maps
use Rattle.ciborium_ll.specs.Refusal as refusal
use Rattle.ciborium_value.specs.Tree as trees
use Rattle.ciborium_ll.specs.declared.kind.Kind.TheVariants as kinds

not-break : (s r y : List ℕ) (i : Item) → Spells s i → s ++ r ≡ break_byte ∷ y → ⊥
not-break s r y i sp e = no-break-head i (same-head s r (break_byte ∷ []) y i header.Break sp refl e).0

-- the fault that a refusal is
abbrev pub fault_of : Refusal → Fault
fault_of io = of_end
fault_of (syntax p) = of_syntax
fault_of too_long = of_length
fault_of (semantic p k) = of_kind k
fault_of recursion_limit_exceeded = of_nesting

-- ---- refusals of the bytes that spell an item

long-faults : {A : Type 0} (end : ℕ) (e : Refusal) (o : Outcome A) → e ≡ too_long → greatest_offset < end →
    IsFaultOf end (fault_of e) o
long-faults end e o is long = subst (λ k. IsFaultOf end (fault_of k) o) (sym is) long

head-faults : {A : Type 0} (b : List ℕ) (p end : ℕ) (e : Refusal) (i : Item) (s z : List ℕ) (o : Outcome A) →
    HeadRefuses b p e → Spells s i → b ≡ s ++ z → p + length b ≤ end + length z → IsFaultOf end (fault_of e) o
head-faults b p end e i s z o h sp f fits =
    let (x, y, hd, g) = first-head s i sp in
    let there = first-payload s i sp in
    let more = length-append y z in
    let split : b ≡ x ++ (y ++ z) = f ∙ ap (λ (k : List ℕ). k ++ z) g ∙ append_assoc x y z in
    let front : HeadRefuses (x ++ (y ++ z)) p e = subst (λ (k : List ℕ). HeadRefuses k p e) split h in
    let is = only-long x (y ++ z) (header_of i) p e hd front in
    let past = head-passes x (y ++ z) (header_of i) p hd (subst (HeadRefuses (x ++ (y ++ z)) p) is front) in
    let size : length b ≡ length x + length (y ++ z) = ap length split ∙ length-append x (y ++ z) in
    long-faults end e o is (omega (arith, past, there, more, size, fits))

string-faults : {A : Type 0} (type : StringType) (b : List ℕ) (p end : ℕ) (e : Refusal) (i : Item) (s z : List ℕ)
    (o : Outcome A) → StringRefuses type b p e → Spells s i → b ≡ s ++ z → IsFaultOf end (fault_of e) o
string-faults type b p end e i s z o (n, k, r, (h, hd, len, g), w) sp f =
    let spelled : SpellsHeader h (head_of type (Some n)) = string-spells type n h hd in
    let (payload, is) = string-only type (Some n) i (same-head s z h r i (head_of type (Some n)) sp spelled
    (sym f ∙ g)).0 in
    absurd (definite-never type n p e r h s z payload spelled (subst (Spells s) is sp) (sym g ∙ f) w)

open-head : (type : StringType) → SpellsHeader (open_byte (string_major type) ∷ []) (head_of type None)
open-head StringType.Bytes = refl
open-head StringType.Text = refl

open-faults : {A : Type 0} (type : StringType) (b : List ℕ) (p end : ℕ) (e : Refusal) (i : Item) (s z : List ℕ)
    (o : Outcome A) → OpenStringRefuses type b p e → Spells s i → b ≡ s ++ z → p + length b ≤ end + length z →
    IsFaultOf end (fault_of e) o
open-faults type b p end e i s z o (r, g, w) sp f fits =
    let h : List ℕ = open_byte (string_major type) ∷ [] in
    let (payload, is) = string-only type None i (same-head s z h r i (head_of type None) sp (open-head type)
    (sym f ∙ g)).0 in
    let same = content-only type None p (p + 1) e r h s z payload (open-head type) (subst (Spells s) is sp)
    (sym g ∙ f) w in
    let long = content-long type None p (p + 1) r h s z payload (open-head type) (subst (Spells s) is sp)
    (sym g ∙ f) (subst (ChunksRefuse type r (p + 1)) same w) in
    let size : length b ≡ 1 + length r = (let k : length b ≡ suc (length r) = ap length g in omega (arith, k)) in
    long-faults end e o same (omega (arith, long, size, fits))

-- ---- scalars

head-first : (h : List ℕ) (m n : ℕ) → IsHead h m n → (a : ℕ) × (t : List ℕ) × (a < 28) × (h ≡ (m * 32 + a) ∷ t)
head-first h m n (within, lt, e) = (n, [], (let k : n < 24 = lt in omega (arith, k)), e)
head-first h m n (one_byte, lt, e) = (24, _, omega arith, e)
head-first h m n (two_bytes, lt, e) = (25, _, omega arith, e)
head-first h m n (four_bytes, lt, e) = (26, _, omega arith, e)
head-first h m n (eight_bytes, lt, e) = (27, _, omega arith, e)

same-first : (x y : ℕ) (b s t z : List ℕ) → x ∷ b ≡ s ++ z → s ≡ y ∷ t → x ≡ y
same-first x y b s t z e f = let g : x ∷ b ≡ y ∷ (t ++ z) = e ∙ ap (λ (k : List ℕ). k ++ z) f in cc

-- the first byte of a float is that of no other item
module _ {A : Type 0} (x : ℕ) (b s z : List ℕ) (e : x ∷ b ≡ s ++ z) (low : 249 ≤ x) where
  no-head : (m n : ℕ) (h c : List ℕ) → m < 7 → IsHead h m n → s ≡ h ++ c → A
  no-head m n h c major hd f =
      let (a, t, lt, g) = head-first h m n hd in
      let is : x ≡ m * 32 + a = same-first x (m * 32 + a) b s (t ++ c) z e (f ∙ ap (λ (k : List ℕ). k ++ c) g) in
      absurd (omega (arith, lt, is, low, major))

  no-first : (y : ℕ) (t : List ℕ) → y < 249 → s ≡ y ∷ t → A
  no-first y t lt f = let is = same-first x y b s t z e f in absurd (omega (arith, is, low, lt))

float-only : (x : ℕ) (b s z : List ℕ) (i : Item) → Spells s i → x ∷ b ≡ s ++ z → 249 ≤ x → x ≤ 251 → (raw : List ℕ) ×
    (i ≡ float raw)
float-only x b s z (unsigned n) sp e lo hi = no-head x b s z e lo 0 n s [] (omega arith) sp (sym (append-nil s))
float-only x b s z (negative n) sp e lo hi = no-head x b s z e lo 1 n s [] (omega arith) sp (sym (append-nil s))
float-only x b s z (bytes false p) (h, hd, ok, g) e lo hi = no-head x b s z e lo 2 (length p) h p (omega arith) hd g
float-only x b s z (bytes true p) (ps, r, are, j, g) e lo hi = no-first x b s z e lo 95 _ (omega arith) g
float-only x b s z (text false p) (h, hd, ok, g) e lo hi = no-head x b s z e lo 3 (length p) h p (omega arith) hd g
float-only x b s z (text true p) (ps, r, are, j, g) e lo hi = no-first x b s z e lo 127 _ (omega arith) g
float-only x b s z (array false is) (r, sps, (h, hd, g)) e lo hi =
    no-head x b s z e lo 4 (items_count is) h r (omega arith) hd g
float-only x b s z (array true is) (r, sps, g) e lo hi = no-first x b s z e lo 159 _ (omega arith) g
float-only x b s z (maps.map false ps) (r, sps, (h, hd, g)) e lo hi =
    no-head x b s z e lo 5 (pairs_count ps) h r (omega arith) hd g
float-only x b s z (maps.map true ps) (r, sps, g) e lo hi = no-first x b s z e lo 191 _ (omega arith) g
float-only x b s z (tag t j) (h, r, hd, sp, g) e lo hi = no-head x b s z e lo 6 t h r (omega arith) hd g
float-only x b s z (simple n) (inl (lt, g)) e lo hi = no-first x b s z e lo (224 + n) [] (omega (arith, lt)) g
float-only x b s z (simple n) (inr (a, c, g)) e lo hi = no-first x b s z e lo 248 (n ∷ []) (omega arith) g
float-only x b s z (float raw) sp e lo hi = (raw, refl)

simple-only : (i : Item) (n : ℕ) → header_of i ≡ header.Simple n → i ≡ simple n
simple-only (simple m) n e = let k : m ≡ n = cc in ap simple k
simple-only _ n e = cc

-- ---- containers

abbrev flat : Pairs → Items
flat no_pairs = no_items
flat (pair k v ps) = item k (item v (flat ps))

flat-spells : (ps : Pairs) (b : List ℕ) → SpellsPairs b ps → SpellsItems b (flat ps)
flat-spells no_pairs b h = h
flat-spells (pair k v ps) b h = (h.0, h.1 ++ h.2, h.3, (h.1, h.2, h.4, flat-spells ps h.2 h.5, refl), h.6)

-- the items of an array, or of a map its keys and values in order
abbrev IsContainer : Item → Items → Type 0
IsContainer (array o js) is = js ≡ is
IsContainer (maps.map o ps) is = flat ps ≡ is
IsContainer _ is = ⊥

-- so many are due, or as many as come before the break, and this ends them
abbrev IsEnd : Option ℕ → ℕ → List ℕ → Type 0
IsEnd (Some n) count end = (count ≡ n) × (end ≡ [])
IsEnd None count end = end ≡ break_byte ∷ []

-- these items are all that is due, and this ends them
abbrev IsAll : Due → Items → List ℕ → Type 0
IsAll (items n) is end = IsEnd n (items_count is) end
IsAll (keys n) is end = (ps : Pairs) × (flat ps ≡ is) × IsEnd n (pairs_count ps) end
IsAll (values n) is end = (v : Item) × (ps : Pairs) × (item v (flat ps) ≡ is) × IsEnd n (pairs_count ps) end

-- the container holds these items, and they are what is due
abbrev Holds : Item → Due → List ℕ → List ℕ → Type 0
Holds i w r z = (is : Items) × (inside : List ℕ) × (end : List ℕ) × SpellsItems inside is ×
    (r ≡ inside ++ (end ++ z)) × IsAll w is end × IsContainer i is

-- what is due behind such a head
abbrev IsEntering : Header → Due → Type 0
IsEntering (header.Array n) w = w ≡ items n
IsEntering (header.Map n) w = w ≡ keys n
IsEntering _ w = ⊥

holds-of : (i : Item) (w : Due) (x r s z : List ℕ) → Spells s i → SpellsHeader x (header_of i) → s ++ z ≡ x ++ r →
    IsEntering (header_of i) w → Holds i w r z
holds-of (array false js) w x r s z (c, k, (a, g, f)) hd e o =
    let h : Header = header.Array (Some (items_count js)) in
    let split = (behind-head s z x r a c h h g hd f e).1 in
    (js, c, [], k, split, subst (λ d. IsAll d js []) (sym o) (refl, refl), refl)
holds-of (array true js) w x r s z (c, k, f) hd e o =
    let split = behind-open s z x r c 4 (header.Array None) refl hd f e in
    (js, c, break_byte ∷ [], k, split, subst (λ d. IsAll d js (break_byte ∷ [])) (sym o) refl, refl)
holds-of (maps.map false ps) w x r s z (c, k, (a, g, f)) hd e o =
    let h : Header = header.Map (Some (pairs_count ps)) in
    let split = (behind-head s z x r a c h h g hd f e).1 in
    let all = subst (λ d. IsAll d (flat ps) []) (sym o) (ps, refl, (refl, refl)) in
    (flat ps, c, [], flat-spells ps c k, split, all, refl)
holds-of (maps.map true ps) w x r s z (c, k, f) hd e o =
    let split = behind-open s z x r c 5 (header.Map None) refl hd f e in
    let all = subst (λ d. IsAll d (flat ps) (break_byte ∷ [])) (sym o) (ps, refl, refl) in
    (flat ps, c, break_byte ∷ [], flat-spells ps c k, split, all, refl)
holds-of u w x r s z sp hd e o = absurd o

holds-by : (h : Header) (i : Item) (w : Due) (x r s z : List ℕ) → Spells s i → SpellsHeader x h → s ++ z ≡ x ++ r →
    IsEntering h w → Holds i w r z
holds-by h i w x r s z sp hd e o =
    let same = (same-head s z x r i h sp hd e).0 in
    holds-of i w x r s z sp (subst (SpellsHeader x) (sym same) hd) e (subst (λ k. IsEntering k w) (sym same) o)

enters-at : {b r : List ℕ} {k : ℕ} {w : Due} → BeginsContainer b k r w → (i : Item) (s z : List ℕ) → Spells s i →
    b ≡ s ++ z → Holds i w r z
enters-at {r = r} (BeginsContainer.array n (h, hd, len, g)) i s z sp f =
    holds-by (header.Array (Some n)) i (items (Some n)) h r s z sp hd (sym f ∙ g) refl
enters-at {r = r} (BeginsContainer.open_array e g) i s z sp f =
    holds-by (header.Array None) i (items None) (open_byte 4 ∷ []) r s z sp refl (sym f ∙ g) refl
enters-at {r = r} (BeginsContainer.map n (h, hd, len, g)) i s z sp f =
    holds-by (header.Map (Some n)) i (keys (Some n)) h r s z sp hd (sym f ∙ g) refl
enters-at {r = r} (BeginsContainer.open_map e g) i s z sp f =
    holds-by (header.Map None) i (keys None) (open_byte 5 ∷ []) r s z sp refl (sym f ∙ g) refl

rest-faults : (end : ℕ) (f : Fault) (o : Outcome Tree) (os : Outcome Trees) (v : Tree) → o ≡ gives v →
    IsFaultOf end f os → IsFaultOf end f (tree_first o os)
rest-faults end f o os v e b = subst (λ x. IsFaultOf end f (tree_first x os)) (sym e)
    (fault_map end f (trees.tree v) os b)

level-faults : {A : Type 0} (end : ℕ) (f : Fault) (l m : Limit) (s : Steps A) → IsOneLess l m →
    IsFaultOf end f (outcome m s) → IsFaultOf end f (outcome l (leveled s))
level-faults end f l m s one b = subst (IsFaultOf end f) (sym (level-taken l m s one)) b

kind-pair : (k : _) (x y : Outcome Tree) (r : Outcome Trees) (q : Outcome TreePairs) → (r ≡ refuses k → q ≡ refuses k) →
    tree_first x (tree_first y r) ≡ refuses k → pair_first x y q ≡ refuses k
kind-pair k (gives a) (gives v) (refuses j) q rec h = ap (outcome_map (trees.tree_pair a v))
    (rec (let e : j ≡ k = cc in ap refuses e))
kind-pair k (gives a) (refuses j) r q rec h = let e : j ≡ k = cc in ap refuses e
kind-pair k (refuses j) y r q rec h = let e : j ≡ k = cc in ap refuses e
kind-pair k u v w q rec h = cc

nest-pair : (x y : Outcome Tree) (r : Outcome Trees) (q : Outcome TreePairs) → (r ≡ nests → q ≡ nests) →
    tree_first x (tree_first y r) ≡ nests → pair_first x y q ≡ nests
nest-pair (gives a) (gives v) nests q rec h = ap (outcome_map (trees.tree_pair a v)) (rec refl)
nest-pair (gives a) nests r q rec h = refl
nest-pair nests y r q rec h = refl
nest-pair u v w q rec h = cc

flat-faults : (end : ℕ) (f : Fault) (l : Limit) (ps : Pairs) → IsFaultOf end f (outcome l (given_items (flat ps))) →
    IsFaultOf end f (outcome l (given_tree_pairs ps))
flat-faults end (of_kind k) l (pair x y ps) b = kind-pair k (outcome l (given_value x)) (outcome l (given_value y))
    (outcome l (given_items (flat ps))) (outcome l (given_tree_pairs ps)) (flat-faults end (of_kind k) l ps) b
flat-faults end of_nesting l (pair x y ps) b = nest-pair (outcome l (given_value x)) (outcome l (given_value y))
    (outcome l (given_items (flat ps))) (outcome l (given_tree_pairs ps)) (flat-faults end of_nesting l ps) b
flat-faults end of_syntax l ps b = b
flat-faults end of_memory l ps b = tt
flat-faults end of_device l ps b = tt
flat-faults end of_end l ps b = b
flat-faults end of_length l ps b = b
flat-faults end u l no_pairs b = cc

container-faults : (end : ℕ) (i : Item) (is : Items) (f : Fault) (l m : Limit) → IsContainer i is → IsOneLess l m →
    IsFaultOf end f (outcome m (given_items is)) → IsFaultOf end f (outcome l (given_value i))
container-faults end (array o js) is f l m h one b = level-faults end f l m
    (mapped trees.array (given_items js)) one (fault_map end f trees.array (outcome m (given_items js))
    (subst (λ ks. IsFaultOf end f (outcome m (given_items ks))) (sym h) b))
container-faults end (maps.map o ps) is f l m h one b =
    level-faults end f l m (mapped trees.map (given_tree_pairs ps)) one
    (fault_map end f trees.map (outcome m (given_tree_pairs ps))
    (flat-faults end f m ps (subst (λ ks. IsFaultOf end f (outcome m (given_items ks))) (sym h) b)))
container-faults end _ is f l m h one b = absurd h

container-nests : (i : Item) (is : Items) → IsContainer i is → outcome (Some 0) (given_value i) ≡ nests
container-nests (array o js) is h = refl
container-nests (maps.map o ps) is h = refl
container-nests _ is h = absurd h

-- behind the first of all the parts, the others are all
all-next : (w : Due) (i : Item) (is : Items) (end : List ℕ) → IsAll w (item i is) end → (n : Due) ×
    (next_due w ≡ Some n) × IsAll n is end
all-next (items None) i is end h = (items None, refl, h)
all-next (items (Some zero)) i is end (e, f) = let never : ⊥ = omega (arith, e) in absurd never
all-next (items (Some (suc n))) i is end (e, f) = (items (Some n), refl, (omega (arith, e), f))
all-next (keys n) i is end (no_pairs, e, f) = cc
all-next (keys None) i is end (pair k v ps, e, f) = (values None, refl, (v, ps, cc, f))
all-next (keys (Some zero)) i is end (pair k v ps, e, (f, g)) = let never : ⊥ = omega (arith, f) in absurd never
all-next (keys (Some (suc n))) i is end (pair k v ps, e, (f, g)) =
    (values (Some n), refl, (v, ps, cc, (omega (arith, f), g)))
all-next (values n) i is end (v, ps, e, f) = (keys n, refl, (ps, cc, f))

ended : (r end z : List ℕ) → r ≡ end ++ z → end ≡ break_byte ∷ [] → r ≡ break_byte ∷ z
ended r end z h g = h ∙ ap (λ (k : List ℕ). k ++ z) g

-- where the parts ended, none is due
none-due : (w : Due) (end r z : List ℕ) (p end-offset : ℕ) (f : Fault) → IsAll w no_items end → r ≡ end ++ z →
    IsDue w r p → (r ≡ break_byte ∷ z → (p < greatest_offset → ⊥) → IsOutsideFault end-offset f) →
    IsOutsideFault end-offset f
none-due (items (Some n)) end r z p o f (e, g) h due br = let never : ⊥ = omega (arith, e, due) in absurd never
none-due (items None) end r z p o f g h due br = let e = ended r end z h g in br e (λ lt. due lt (z, e))
none-due (keys (Some n)) end r z p o f (no_pairs, q, (e, g)) h due br = absurd (omega (arith, e, due))
none-due (keys None) end r z p o f (no_pairs, q, g) h due br =
    let e = ended r end z h g in br e (λ lt. due lt (z, e))
none-due u end r z p o f v h due br = cc

-- no item stands where the parts ended
none-more : (w n : Due) (i : Item) (s t end z : List ℕ) → IsAll w no_items end → next_due w ≡ Some n → Spells s i →
    s ++ t ≡ end ++ z → ⊥
none-more (items None) n i s t end z g next sp h = not-break s t z i sp (ended _ end z h g)
none-more (items (Some (suc m))) n i s t end z (e, g) next sp h = let never : ⊥ = omega (arith, e) in never
none-more (keys None) n i s t end z (no_pairs, e, g) next sp h = not-break s t z i sp (ended _ end z h g)
none-more (keys (Some (suc m))) n i s t end z (no_pairs, q, (e, g)) next sp h = omega (arith, e)
none-more u n i s t end z v next sp h = cc

-- behind good items the next one refuses, and so do all
items-faults : (o : ℕ) (vs : List Tree) (is : Items) (w now : Due) (c good r end z : List ℕ) (p : ℕ) (l : Limit)
    (f : Fault) → SpellsItems c is → AreReadAs any good p l vs → good ++ r ≡ c ++ (end ++ z) → IsAll w is end →
    due_after w vs ≡ Some now → IsDue now r (p + length good) →
    ((j : Item) (s y : List ℕ) → Spells s j → r ≡ s ++ y → length z ≤ length y →
    IsFaultOf o f (outcome l (given_value j))) →
    (r ≡ break_byte ∷ z → (p + length good < greatest_offset → ⊥) → IsOutsideFault o f) →
    IsFaultOf o f (outcome l (given_items is))
items-faults o [] no_items w now c good r end z p l f sp g e all next due rec br =
    let same : w ≡ now = cc in
    fault_outside o f (outcome l (given_items no_items)) (none-due w end r z (p + length good) o f all
    (ap (λ (k : List ℕ). k ++ r) (sym g) ∙ e ∙ ap (λ (k : List ℕ). k ++ (end ++ z)) sp)
    (subst (λ d. IsDue d r (p + length good)) (sym same) due) br)
items-faults o [] (item i is) w now c good r end z p l f (s, t, si, ts, ce) g e all next due rec br =
    let behind = length-append t (end ++ z) in
    let more = length-append end z in
    fault_then o f (outcome l (given_value i)) _
    (rec i s (t ++ (end ++ z)) si (ap (λ (k : List ℕ). k ++ r) (sym g) ∙ e ∙
    ap (λ (k : List ℕ). k ++ (end ++ z)) ce ∙ append_assoc s t (end ++ z)) (omega (arith, behind, more)))
items-faults o (v ∷ vs) no_items w now c good r end z p l f sp
    (s, t, (j, sj, means, nests-in, fits, so), ts, ge) e all next due rec br =
    absurd (none-more w (due-first w v vs now next).0 j s (t ++ r) end z all (due-first w v vs now next).1 sj
    (sym (append_assoc s t r) ∙ ap (λ (k : List ℕ). k ++ r) (sym ge) ∙ e ∙ ap (λ (k : List ℕ). k ++ (end ++ z)) sp))
items-faults o (v ∷ vs) (item i is) w now c good r end z p l f (s', t', si, ts', ce)
    (s, t, (j, sj, means, nests-in, fits, so), ts, ge) e all next due rec br =
    let one = one_at_front s s' (t ++ r) (t' ++ (end ++ z)) j i sj si
    (sym (append_assoc s t r) ∙ ap (λ (k : List ℕ). k ++ r) (sym ge) ∙ e ∙ ap (λ (k : List ℕ). k ++ (end ++ z)) ce ∙
    append_assoc s' t' (end ++ z)) in
    let (n, is-next, then) = due-first w v vs now next in
    let (m, also, rest) = all-next w i is end all in
    let same : n ≡ m = cc in
    let at : p + length good ≡ p + length s + length t = let size : length good ≡ length s + length t = ap length ge ∙
    length-append s t in omega (arith, size) in
    rest-faults o f (outcome l (given_value i)) (outcome l (given_items is)) v
    (ap (λ j. outcome l (given_value j)) (sym one.2) ∙ value-gives j l v means nests-in)
    (items-faults o vs is n now t' t r end z (p + length s) l f ts' ts one.1
    (subst (λ d. IsAll d is end) (sym same) rest) then (subst (IsDue now r) at due) rec
    (λ h past. br h (λ lt. past (subst (λ k. k < greatest_offset) at lt))))

-- ---- where no byte may be read

usable-or-not : {b : List ℕ} {p : ℕ} {l : Limit} {e : Refusal} → Refuses any b p l e → HeadRefuses b p e ⊎ IsUsable b p
usable-or-not (Refuses.no_head h) = inl h
usable-or-not (Refuses.bad_head type u bad) = inr u
usable-or-not (Refuses.string type u w) = inr u.0
usable-or-not (Refuses.open_string type u w) = inr u.0
usable-or-not (Refuses.float u lo hi) = inr u
usable-or-not (Refuses.simple s n r u si none g) = inr u
usable-or-not (Refuses.break u) = inr u
usable-or-not (Refuses.no_level k r w u o) = inr u.0
usable-or-not (Refuses.part vs r q w below i due sub) = let a = parts_of any i in inr a.head.0
usable-or-not (Refuses.key_order vs r s t key q w below i due read g bad) = absurd (bad tt)
usable-or-not (Refuses.tag_no_head t k r u st h) = inr u.0
usable-or-not (Refuses.folding t r q a fo sub) = inr a.head.0
usable-or-not (Refuses.too_large r s t payload q a fo read g large) = inr a.head.0
usable-or-not (Refuses.not_folded n r s t payload q a fo read g bad) = inr a.head.0
usable-or-not (Refuses.no_tag_level t r q a nf) = inr a.head.0
usable-or-not (Refuses.tagged t r q below a nf one sub) = inr a.head.0

at-end : (x : ℕ) (y : List ℕ) (p : ℕ) → (p < greatest_offset → ⊥) → head_refusal (x ∷ y) p ≡ Some too_long
at-end x y p past = by (ltb p greatest_offset) refl
  where
    by : (t : Bool) → ltb p greatest_offset ≡ t → cond t
        (cond (ltb (p + 1) greatest_offset && refusal.is_low_simple x y) (Some (syntax p))
        (refusal.initial_refusal (x / 32) (x % 32) y p)) (Some too_long) ≡ Some too_long
    by true e = absurd (past (ltb-true p greatest_offset e))
    by false e = refl

end-long : (r y : List ℕ) (x p end : ℕ) (l : Limit) (e : Refusal) → Refuses any r p l e → r ≡ x ∷ y →
    (p < greatest_offset → ⊥) → p + length r ≤ end + length y → IsOutsideFault end (fault_of e)
end-long r y x p end l e sub g past fits = by (usable-or-not sub)
  where
    late : head_refusal r p ≡ Some too_long
    late = ap (λ k. head_refusal k p) g ∙ at-end x y p past

    size : length r ≡ suc (length y)
    size = ap length g

    by : HeadRefuses r p e ⊎ IsUsable r p → IsOutsideFault end (fault_of e)
    by (inl h) = subst (λ k. IsOutsideFault end (fault_of k)) (sym (some-same e too_long (sym h ∙ late)))
        (further (ltb p greatest_offset) refl)
      where
        some-same : (a b : Refusal) → Some a ≡ Some b → a ≡ b
        some-same a b h = cc

        further : (t : Bool) → ltb p greatest_offset ≡ t → greatest_offset < end
        further true k = absurd (past (ltb-true p greatest_offset k))
        further false k = let over = ltb-false p greatest_offset k in omega (arith, over, size, fits)
    by (inr h) = let k : None ≡ Some too_long = sym h ∙ late in cc

-- ---- how long the bytes are behind a head

head-size : (b r : List ℕ) (m n k : ℕ) → HasHead b m n k r → length b ≡ k + length r
head-size b r m n k (h, hd, len, g) = let all = ap length g in let both = length-append h r in
    omega (arith, all, both, len)

entering-size : {b r : List ℕ} {k : ℕ} {w : Due} → BeginsContainer b k r w → length b ≡ k + length r
entering-size {b = b} {r = r} {k = k} (BeginsContainer.array n h) = head-size b r 4 n k h
entering-size {b = b} {r = r} {k = k} (BeginsContainer.open_array e g) = let size : length b ≡ suc (length r) =
    ap length g in omega (arith, size, e)
entering-size {b = b} {r = r} {k = k} (BeginsContainer.map n h) = head-size b r 5 n k h
entering-size {b = b} {r = r} {k = k} (BeginsContainer.open_map e g) = let size : length b ≡ suc (length r) =
    ap length g in omega (arith, size, e)

-- ---- tags

tag-faults : (end : ℕ) (t : ℕ) (i : Item) (f : Fault) (l m : Limit) → folding_bytes t i ≡ None → IsOneLess l m →
    IsFaultOf end f (outcome m (given_value i)) → IsFaultOf end f (outcome l (given_value (tag t i)))
tag-faults end t i f l m none one b = subst (λ o. IsFaultOf end f (outcome l (given_tag t o (given_value i))))
    (sym none) (level-faults end f l m (mapped (trees.tag t) (given_value i)) one
    (fault_map end f (trees.tag t) (outcome m (given_value i)) b))

-- the string of a tag that folds is there
given-outside : (end : ℕ) (f : Fault) (v : Tree) → IsFaultOf end f (gives v) → IsOutsideFault end f
given-outside end of_syntax v h = h
given-outside end of_memory v h = tt
given-outside end of_device v h = tt
given-outside end of_end v h = h
given-outside end of_length v h = h
given-outside end u v h = cc

large-refuses : (l : Limit) (y : List ℕ) → length y ≤ 16 → 2 ^ 127 ≤ big_endian y →
    outcome l (given_value (tag 3 (bytes false y))) ≡ refuses kinds.TooLarge
large-refuses l y small large = ap (λ o. outcome l (given_tag 3 o (given_value (bytes false y))))
    (folding-over 3 y refl small) ∙ ap (of_meaning kinds.TooLarge) (large-none y large)

-- ---- every refusal

-- what tag t of the bytes b encloses, which end at `end` as b does
record Enclosed (t : ℕ) (i : Item) (r z : List ℕ) (q end : ℕ) : Type 0 where
  within : Item
  spelling : List ℕ
  is : i ≡ tag t within
  spelled : Spells spelling within
  split : r ≡ spelling ++ z
  fits : q + length r ≤ end + length z

enclosed : {b : List ℕ} {p t : ℕ} {r : List ℕ} {q : ℕ} → IsTagAt any b p t r q → (i : Item) (s z : List ℕ) (end : ℕ) →
    Spells s i → b ≡ s ++ z → p + length b ≤ end + length z → Enclosed t i r z q end
enclosed {b} {p} {t} {r} {q} a i s z end sp f fits =
    let (x, hd, len, g) = a.tag in
    let (j, c, is, sj, h) = tag-front s z x r i t sp hd (sym f ∙ g) in
    let size = head-size b r 6 t a.size a.tag in
    let at = a.at in
    record {
      within = j;
      spelling = c;
      is = is;
      spelled = sj;
      split = h;
      fits = omega (arith, size, at, fits);
    }

pub value-faults : {b : List ℕ} {p : ℕ} {l : Limit} {e : Refusal} → Refuses any b p l e → (i : Item) (s z : List ℕ)
    (end : ℕ) → Spells s i → b ≡ s ++ z → p + length b ≤ end + length z →
    IsFaultOf end (fault_of e) (outcome l (given_value i))
value-faults {b} {p} {l} {e} (Refuses.no_head h) i s z end sp f fits =
    head-faults b p end e i s z (outcome l (given_value i)) h sp f fits
value-faults (Refuses.bad_head type u bad) i s z end sp f fits = cc
value-faults {b} {p} {l} {e} (Refuses.string type u w) i s z end sp f fits =
    string-faults type b p end e i s z (outcome l (given_value i)) w sp f
value-faults {b} {p} {l} {e} (Refuses.open_string type u w) i s z end sp f fits =
    open-faults type b p end e i s z (outcome l (given_value i)) w sp f fits
value-faults {l = l} (Refuses.float {x} {b = b} u lo hi) i s z end sp f fits =
    let (raw, is) = float-only x b s z i sp f lo hi in
    ap (λ j. outcome l (given_value j)) is
value-faults {l = l} (Refuses.simple t n r u si none g) i s z end sp f fits = ap (λ j. outcome l (given_value j))
    (simple-only i n (same-head s z t r i (header.Simple n) sp si (sym f ∙ g)).0) ∙ ap (of_meaning kinds.Simple) none
value-faults (Refuses.break {b = b} u) i s z end sp f fits = absurd (not-break s z b i sp (sym f))
value-faults (Refuses.no_level k r w u o) i s z end sp f fits =
    let (is, c, e, sps, g, all, holds) = enters-at o i s z sp f in container-nests i is holds
value-faults {b = b} {p = p} {l = l} {e = e} (Refuses.part vs r q w below in-it due sub) i s z end sp f fits =
    let a = parts_of any in-it in
    let (is, inside, ending, spelled, split, those, holds) = enters-at a.begins i s z sp f in
    let all = entering-size a.begins in
    let both = length-append a.good r in
    let at = a.at in
    let rest : q + length r ≤ end + length z = omega (arith, all, both, at, fits) in
    container-faults end i is (fault_of e) l below holds a.level
    (items-faults end vs is a.start w inside a.good r ending z (p + a.size) below (fault_of e)
    spelled a.parts split those a.due (subst (IsDue w r) at due)
    (λ j t y sj g less. value-faults sub j t y end sj g (omega (arith, rest, less)))
    (λ g past. end-long r z break_byte q end below e sub g (λ lt. past (subst (λ n. n < greatest_offset) at lt)) rest))
value-faults (Refuses.key_order vs r s t key q w below a due read g bad) i s' z end sp f fits = absurd (bad tt)
value-faults {b = b} {p = p} {l = l} {e = e} (Refuses.tag_no_head t k r u (x, hd, len, g) h) i s z end sp f fits =
    let (j, c, is, sj, q) = tag-front s z x r i t sp hd (sym f ∙ g) in
    let size = head-size b r 6 t k (x, hd, len, g) in
    head-faults r (p + k) end e j c z (outcome l (given_value i)) h sj q (omega (arith, size, fits))
value-faults {l = l} {e = e} (Refuses.folding t r q a fo sub) i s z end sp f fits =
    let w = enclosed a i s z end sp f fits in
    let (y, is, few) = folding-string t w.within w.spelling z r w.spelled w.split fo in
    fault_outside end (fault_of e) (outcome l (given_value i)) (given-outside end (fault_of e) (trees.bytes y)
    (subst (λ j. IsFaultOf end (fault_of e) (outcome l (given_value j))) is
    (value-faults sub w.within w.spelling z end w.spelled w.split w.fits)))
value-faults {l = l} (Refuses.too_large r s t payload q a fo (j, sj, means, nests-in, low, so) g large) i s' z end sp f
    fits =
    let w = enclosed a i s' z end sp f fits in
    let (y, is, few) = folding-string 3 w.within w.spelling z r w.spelled w.split fo in
    let one = one_at_front s w.spelling t z j w.within sj w.spelled (sym g ∙ w.split) in
    let says : Some (trees.bytes payload) ≡ Some (trees.bytes y) = sym means ∙ ap meaning (one.2 ∙ is) in
    let same : payload ≡ y = cc in
    ap (λ j. outcome l (given_value j)) (w.is ∙ ap (tag 3) is) ∙
    large-refuses l y few (subst (λ (k : List ℕ). 2 ^ 127 ≤ big_endian k) same large)
value-faults (Refuses.not_folded n r s t payload q a fo read g bad) i s' z end sp f fits = absurd bad
value-faults (Refuses.no_tag_level t r q a nf) i s z end sp f fits =
    let w = enclosed a i s z end sp f fits in
    ap (λ j. outcome (Some zero) (given_value j)) w.is ∙ ap (λ o. outcome (Some zero)
    (given_tag t o (given_value w.within)))
    (folds-none t w.within w.spelling z r w.spelled w.split nf)
value-faults {l = l} {e = e} (Refuses.tagged t r q below a nf one sub) i s z end sp f fits =
    let w = enclosed a i s z end sp f fits in
    subst (λ m. IsFaultOf end (fault_of e) (outcome l (given_value m))) (sym w.is)
    (tag-faults end t w.within (fault_of e) l below (folds-none t w.within w.spelling z r w.spelled w.split nf) one
    (value-faults sub w.within w.spelling z end w.spelled w.split w.fits))
