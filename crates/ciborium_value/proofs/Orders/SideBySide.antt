-- Two trees side by side: the first heads or payloads that differ decide as the encodings do, and trees that none tells
-- apart are one.
use Rattle.std.proofs.Common.{◌≡◌, ℕ, suc, ◌^◌, ◌<◌, ◌≤◌, List, [], ◌∷◌, ◌++◌, length, take, drop, map}
use Rattle.std.proofs.Common.{Bool, true, false, ℤ, pos, negsuc, ◌⊎◌, inl, inr, Vec, vec_len, String, string_bytes, Box}
use Rattle.std.proofs.Common.{Global, rules, refl, sym, ap, ◌∙◌, subst, lit<, arith, Ordering, Equal, nat_cmp}
use Rattle.std.proofs.{Common.{append_assoc, append-nil}, lemmas.Cmp.{tied_itself, nat_cmp_total, nat_list_cmp_total}}
use Rattle.std.{proofs.lemmas.List.{map-append, take_all}, specs.Cmp.Lexicographic.slice_cmp}
use Rattle.std.specs.{FinMap.{nat_cmp-IsAntisymmetric, slice_cmp-IsAntisymmetric}, Ordering.{is_ne, ordering_then}}
use Rattle.ciborium_ll.{proofs.HeadOrder.then_equal}
use Rattle.ciborium_value.proofs.Orders.Encodings.{encodings-around, pair_encodings-around}
use Rattle.ciborium_value.proofs.Orders.HeadsInOrder.{fronts_decide, heads_decide, one_length}
use Rattle.ciborium_value.proofs.Orders.TreeEncodings.{encoding-is, argument_of-Array, argument_of-Map}
use Rattle.ciborium_value.proofs.Trees.{Elements.{At, one_more}, Views.{tree_of-Integer, tree_of-Bytes, tree_of-Text}}
use Rattle.ciborium_value.{proofs.Trees.Views.{tree_of-Bool, tree_of-Null}, specs.Encoding.{encoding, items_of}}
use Rattle.ciborium_value.specs.{Encoding.{pairs_of, items_bytes, pairs_bytes}, Tree.Tree, ValueLists.pair_trees}
use Rattle.ciborium_value.specs.{View.{tree_of, trees_from, tree_pairs_from}, declared.tree.Value.{Value, the_lemmas}}
use Rattle.ciborium_value.specs.declared.tree.Value.{TheOpen.Value-F, TheViews.{out-Value, roll-Value}}
use Rattle.ciborium_value.specs.inner.{EncodedLists.{encodings, pair_encodings}, SideBySide.Decides}
use Rattle.ciborium_value.specs.inner.TreeHeads.{tree_major, argument_of, content_bytes, head_order}
use Rattle.ciborium_value.specs.Tree as trees
use Rattle.ciborium_value.specs.declared.tree.Value as value

-- ---- orders that decide

pub tied : (o : Ordering) (b : Bool) → b ≡ is_ne o → b ≡ false → o ≡ Equal
tied Equal b e f = refl
tied u b e f = absurd (let no : true ≡ false = sym e ∙ f in cc)

pub both_tied : (o p : Ordering) → ordering_then o p ≡ Equal → (o ≡ Equal) × (p ≡ Equal)
both_tied Equal p e = (refl, e)
both_tied u p e = absurd cc

-- a front that both have
behind_front : (a x y : List ℕ) → slice_cmp nat_cmp (a ++ x) (a ++ y) ≡ slice_cmp nat_cmp x y
behind_front [] x y = refl
behind_front (n ∷ a) x y = ap (λ o. ordering_then o (slice_cmp nat_cmp (a ++ x) (a ++ y))) (tied_itself nat_cmp_total n)
    ∙ behind_front a x y

-- ---- what follows two lists that differ

-- an order that decides leaves nothing to what follows
nothing_left : (o p q : Ordering) → is_ne o ≡ true → ordering_then o p ≡ ordering_then o q
nothing_left Equal p q ne = absurd cc
nothing_left u p q ne = refl

-- one list of bytes on both sides
pub same_decides : (a b : List ℕ) → a ≡ b → Decides Equal a b
same_decides a b e x y = rw e (behind_front b x y)

-- behind one front
pub behind_decides : (o : Ordering) (a b c d : List ℕ) → a ≡ b → Decides o c d → Decides o (a ++ c) (b ++ d)
behind_decides o a b c d e h x y = rw e (simp append_assoc (behind_front b (c ++ x) (d ++ y) ∙ h x y))

-- before any two lists, where it is not `Equal`
pub before_decides : (o : Ordering) (a c d e : List ℕ) → is_ne o ≡ true → Decides o a c → Decides o (a ++ d) (c ++ e)
before_decides o a c d e ne h x y = simp append_assoc
    (h (d ++ x) (e ++ y) ∙ nothing_left o (slice_cmp nat_cmp (d ++ x) (e ++ y)) (slice_cmp nat_cmp x y) ne)

-- two payloads of one length
pub payloads_decide : (a b : List ℕ) (o : Ordering) → length a ≡ length b → o ≡ slice_cmp nat_cmp a b → Decides o a b
payloads_decide a b o long e x y = fronts_decide a b x y (one_length a b long) (one_length b a (sym long)) ∙
    ap (λ p. ordering_then p (slice_cmp nat_cmp x y)) (sym e)

-- alone, without anything behind them, they compare so
pub decided_alone : (o : Ordering) (a b : List ℕ) → Decides o a b → o ≡ slice_cmp nat_cmp a b
decided_alone o a b h = sym (then_equal o) ∙
    sym (h [] []) ∙ ap (λ l. slice_cmp nat_cmp l (b ++ [])) (append-nil a) ∙ ap (slice_cmp nat_cmp a) (append-nil b)

-- the encodings of one tree
pub equal_where_same : (o : Ordering) (v w : Tree) → Decides o (encoding v) (encoding w) → v ≡ w → o ≡ Equal
equal_where_same o v w h e = decided_alone o (encoding v) (encoding w) h ∙
    ap (λ t. slice_cmp nat_cmp (encoding t) (encoding w)) e ∙ tied_itself nat_list_cmp_total (encoding w)

-- ---- heads

-- two trees by their heads, and then by what stands behind those
heads_first : (v w : Tree) (x y : List ℕ) → argument_of v < 2 ^ 64 → argument_of w < 2 ^ 64
    → slice_cmp nat_cmp (encoding v ++ x) (encoding w ++ y) ≡ ordering_then (head_order v w)
    (slice_cmp nat_cmp (content_bytes v ++ x) (content_bytes w ++ y))
heads_first v w x y h k = rw (encoding-is v, encoding-is w) (simp append_assoc (heads_decide (tree_major v)
    (tree_major w) (argument_of v) (argument_of w) (content_bytes v ++ x) (content_bytes w ++ y) h k))

pub different_heads : (v w : Tree) (o : Ordering) → argument_of v < 2 ^ 64 → argument_of w < 2 ^ 64 →
    o ≡ head_order v w → is_ne o ≡ true → Decides o (encoding v) (encoding w)
different_heads v w o h k e ne x y = heads_first v w x y h k ∙
    ap (λ p. ordering_then p (slice_cmp nat_cmp (content_bytes v ++ x) (content_bytes w ++ y))) (sym e) ∙
    nothing_left o (slice_cmp nat_cmp (content_bytes v ++ x) (content_bytes w ++ y)) (slice_cmp nat_cmp x y) ne

-- behind equal heads
pub contents_decide : (v w : Tree) (o p : Ordering) (b : Bool) (c d : List ℕ) → argument_of v < 2 ^ 64 →
    argument_of w < 2 ^ 64 → o ≡ head_order v w → b ≡ is_ne o → b ≡ false
    → content_bytes v ≡ c → content_bytes w ≡ d → Decides p c d → Decides p (encoding v) (encoding w)
contents_decide v w o p b c d h k e ne f is other decides x y = heads_first v w x y h k ∙
    ap (λ q. ordering_then q (slice_cmp nat_cmp (content_bytes v ++ x) (content_bytes w ++ y)))
    (sym e ∙ tied o b ne f) ∙ ap (λ l. slice_cmp nat_cmp (l ++ x) (content_bytes w ++ y)) is ∙
    ap (λ l. slice_cmp nat_cmp (c ++ x) (l ++ y)) other ∙ decides x y

-- equal heads have one major type and one argument
one_major : (v w : Tree) → head_order v w ≡ Equal → tree_major v ≡ tree_major w
one_major v w e = nat_cmp-IsAntisymmetric (tree_major v) (tree_major w)
    (both_tied (nat_cmp (tree_major v) (tree_major w)) (nat_cmp (argument_of v) (argument_of w)) e).0

one_argument : (v w : Tree) → head_order v w ≡ Equal → argument_of v ≡ argument_of w
one_argument v w e = nat_cmp-IsAntisymmetric (argument_of v) (argument_of w)
    (both_tied (nat_cmp (tree_major v) (tree_major w)) (nat_cmp (argument_of v) (argument_of w)) e).1

-- ---- values with nothing behind the head

abbrev IsAlone : Tree → Type 0
IsAlone v = (tree_major v < 2) ⊎ (6 < tree_major v)

integer_alone : (z : ℤ) → IsAlone (trees.integer z)
integer_alone (pos n) = inl (lit< tt)
integer_alone (negsuc n) = inl (lit< tt)

-- none of the variants with something behind the head
abbrev pub IsOther : Value → Type 0
IsOther w = ((v : Vec ℕ Global) → ¬ (w ≡ value.Bytes v)) ×
    ((s : String Global) → ¬ (w ≡ value.Text s)) × ((t : ℕ) (v : Box Value Global) → ¬ (w ≡ value.Tag t v)) ×
    ((v : Vec Value Global) → ¬ (w ≡ value.Array v)) × ((v : Vec (Value × Value) Global) → ¬ (w ≡ value.Map v))

level_alone : (y : Value-F Value) → IsOther (roll-Value y) → IsAlone (tree_of (roll-Value y))
unfolding roll-Value denote.Hole.Carrier.roll
level_alone (Value-F.Integer z) h = subst IsAlone (sym (tree_of-Integer z)) (integer_alone z)
level_alone (Value-F.Bool b) h = subst IsAlone (sym (tree_of-Bool b)) (inr (lit< tt))
level_alone Value-F.Null h = subst IsAlone (sym tree_of-Null) (inr (lit< tt))
level_alone (Value-F.Bytes v) h = absurd (h.0 v refl)
level_alone (Value-F.Text s) h = absurd (h.1 s refl)
level_alone (Value-F.Tag t v) h = absurd (h.2 t v refl)
level_alone (Value-F.Array v) h = absurd (h.3 v refl)
level_alone (Value-F.Map v) h = absurd (h.4 v refl)

other_alone : (w : Value) → IsOther w → IsAlone (tree_of w)
other_alone w h =
    let same : roll-Value (out-Value w) ≡ w = search (rules, the_lemmas) in
    subst (λ x. IsAlone (tree_of x)) same (level_alone (out-Value w) (subst IsOther (sym same) h))

-- trees with nothing behind one head are one
alone_same : (v w : Tree) → IsAlone v → tree_major v ≡ tree_major w → argument_of v ≡ argument_of w → v ≡ w
alone_same (trees.integer (pos n)) (trees.integer (pos k)) h m a = ap (λ z. trees.integer (pos z)) a
alone_same (trees.integer (negsuc n)) (trees.integer (negsuc k)) h m a = ap (λ z. trees.integer (negsuc z)) a
alone_same (trees.boolean false) (trees.boolean false) h m a = refl
alone_same (trees.boolean true) (trees.boolean true) h m a = refl
alone_same trees.null trees.null h m a = refl
alone_same (trees.boolean b) (trees.integer (pos n)) h m a = absurd (omega (arith, m))
alone_same trees.null (trees.integer (pos n)) h m a = absurd (omega (arith, m))
alone_same (trees.boolean true) trees.null h m a = absurd (omega (arith, a))
alone_same trees.null (trees.boolean true) h m a = absurd (omega (arith, a))
alone_same v w h m a = absurd (omega (arith, h, m, a))

-- equal heads, and nothing behind them
pub alone_tied : (w u : Value) (o : Ordering) (b : Bool) → o ≡ head_order (tree_of w) (tree_of u) → b ≡ is_ne o →
    b ≡ false → IsOther w → tree_of w ≡ tree_of u
alone_tied w u o b e ne f other =
    let tie = sym e ∙ tied o b ne f in
    alone_same (tree_of w) (tree_of u) (other_alone w other) (one_major (tree_of w) (tree_of u) tie)
    (one_argument (tree_of w) (tree_of u) tie)

-- ---- arrays and maps behind equal heads

pub as_many_items : (w u : Value) (v x : Vec Value Global) (o : Ordering) (b : Bool) → o ≡ head_order (tree_of w)
    (tree_of u) → b ≡ is_ne o → b ≡ false → w ≡ value.Array v → u ≡ value.Array x → vec_len v ≡ vec_len x
as_many_items w u v x o b e f g is other = argument_of-Array w v (vec_len v) is refl ∙
    one_argument (tree_of w) (tree_of u) (sym e ∙ tied o b f g) ∙ sym (argument_of-Array u x (vec_len x) other refl)

pub as_many_pairs : (w u : Value) (v x : Vec (Value × Value) Global) (o : Ordering) (b : Bool) →
    o ≡ head_order (tree_of w) (tree_of u) → b ≡ is_ne o → b ≡ false
    → w ≡ value.Map v → u ≡ value.Map x → vec_len v ≡ vec_len x
as_many_pairs w u v x o b e f g is other = argument_of-Map w v (vec_len v) is refl ∙
    one_argument (tree_of w) (tree_of u) (sym e ∙ tied o b f g) ∙ sym (argument_of-Map u x (vec_len x) other refl)

-- payloads behind equal heads

pub payloads_as_long : (w u : Value) (o : Ordering) (b : Bool) (x y : List ℕ) → o ≡ head_order (tree_of w) (tree_of u) →
    b ≡ is_ne o → b ≡ false
    → argument_of (tree_of w) ≡ length x → argument_of (tree_of u) ≡ length y → length x ≡ length y
payloads_as_long w u o b x y e ne f is other = sym is ∙ one_argument (tree_of w) (tree_of u) (sym e ∙ tied o b ne f) ∙
    other

pub same_payload-Bytes : (w u : Value) (v x : Vec ℕ Global) → w ≡ value.Bytes v → u ≡ value.Bytes x →
    slice_cmp nat_cmp v.items x.items ≡ Equal → tree_of w ≡ tree_of u
same_payload-Bytes w u v x is other e =
    ap tree_of is ∙ tree_of-Bytes v ∙ ap trees.bytes (slice_cmp-IsAntisymmetric nat_cmp-IsAntisymmetric v.items x.items
    e) ∙ sym (ap tree_of other ∙ tree_of-Bytes x)

pub same_payload-Text : (w u : Value) (s z : String Global) → w ≡ value.Text s → u ≡ value.Text z →
    slice_cmp nat_cmp (string_bytes s) (string_bytes z) ≡ Equal → tree_of w ≡ tree_of u
same_payload-Text w u s z is other e =
    ap tree_of is ∙ tree_of-Text s ∙ ap trees.text (slice_cmp-IsAntisymmetric nat_cmp-IsAntisymmetric (string_bytes s)
    (string_bytes z) e) ∙ sym (ap tree_of other ∙ tree_of-Text z)

-- ---- along lists

-- one more value that is the same
pub items_same : {i : ℕ} {vs ws : List Value} {v w : Value} → At i vs v → At i ws w →
    map tree_of (take i vs) ≡ map tree_of (take i ws) → tree_of v ≡ tree_of w →
    map tree_of (take (suc i) vs) ≡ map tree_of (take (suc i) ws)
items_same a b before same = rw (one_more a, one_more b) (simp map-append (cc (before, same)))

-- behind values that are the same, two that differ decide
pub items_differ : {i : ℕ} {vs ws : List Value} {v w : Value} (o : Ordering) → At i vs v → At i ws w →
    map tree_of (take i vs) ≡ map tree_of (take i ws) → is_ne o ≡ true →
    Decides o (encoding (tree_of v)) (encoding (tree_of w)) → Decides o (encodings vs) (encodings ws)
items_differ {i} {vs} {ws} {v} {w} o a b before ne decides =
    let whole = encodings-around a in
    let other = encodings-around b in
    rw (whole, other) (behind_decides o _ _ _ _ (ap (λ ts. items_bytes (items_of (trees_from ts))) before)
    (before_decides o (encoding (tree_of v)) (encoding (tree_of w)) (encodings (drop (suc i) vs))
    (encodings (drop (suc i) ws)) ne decides))

-- one more pair that is the same
pub pairs_same : {i : ℕ} {ps qs : List (Value × Value)} {p q : Value × Value} → At i ps p → At i qs q →
    map pair_trees (take i ps) ≡ map pair_trees (take i qs) → tree_of p.0 ≡ tree_of q.0 → tree_of p.1 ≡ tree_of q.1 →
    map pair_trees (take (suc i) ps) ≡ map pair_trees (take (suc i) qs)
pairs_same a b before keys values = rw (one_more a, one_more b) (simp map-append (cc (before, keys, values)))

-- behind pairs that are the same, two keys that differ decide
pub keys_differ : {i : ℕ} {ps qs : List (Value × Value)} {p q : Value × Value} (o : Ordering) → At i ps p → At i qs q →
    map pair_trees (take i ps) ≡ map pair_trees (take i qs) → is_ne o ≡ true →
    Decides o (encoding (tree_of p.0)) (encoding (tree_of q.0)) → Decides o (pair_encodings ps) (pair_encodings qs)
keys_differ {i} {ps} {qs} {p} {q} o a b before ne decides =
    let whole = pair_encodings-around a in
    let other = pair_encodings-around b in
    rw (whole, other) (behind_decides o _ _ _ _ (ap (λ ts. pairs_bytes (pairs_of (tree_pairs_from ts))) before)
    (before_decides o (encoding (tree_of p.0)) (encoding (tree_of q.0))
    (encoding (tree_of p.1) ++ pair_encodings (drop (suc i) ps))
    (encoding (tree_of q.1) ++ pair_encodings (drop (suc i) qs)) ne decides))

-- or two values behind keys that are the same
pub values_differ : {i : ℕ} {ps qs : List (Value × Value)} {p q : Value × Value} (o : Ordering) → At i ps p →
    At i qs q → map pair_trees (take i ps) ≡ map pair_trees (take i qs) → tree_of p.0 ≡ tree_of q.0 → is_ne o ≡ true →
    Decides o (encoding (tree_of p.1)) (encoding (tree_of q.1)) → Decides o (pair_encodings ps) (pair_encodings qs)
values_differ {i} {ps} {qs} {p} {q} o a b before keys ne decides =
    let whole = pair_encodings-around a in
    let other = pair_encodings-around b in
    rw (whole, other) (behind_decides o _ _ _ _ (ap (λ ts. pairs_bytes (pairs_of (tree_pairs_from ts))) before)
    (behind_decides o _ _ _ _ (ap encoding keys) (before_decides o (encoding (tree_of p.1)) (encoding (tree_of q.1))
    (pair_encodings (drop (suc i) ps)) (pair_encodings (drop (suc i) qs)) ne decides)))

-- ---- lists that are the same up to beyond their ends

pub items_all : (i : ℕ) (vs ws : List Value) → length vs ≤ i → length ws ≤ i →
    map tree_of (take i vs) ≡ map tree_of (take i ws) → encodings vs ≡ encodings ws
items_all i vs ws beyond other same = ap (λ ts. items_bytes (items_of (trees_from ts)))
    (sym (ap (map tree_of) (take_all i vs beyond)) ∙ same ∙ ap (map tree_of) (take_all i ws other))

pub pairs_all : (i : ℕ) (ps qs : List (Value × Value)) → length ps ≤ i → length qs ≤ i →
    map pair_trees (take i ps) ≡ map pair_trees (take i qs) → pair_encodings ps ≡ pair_encodings qs
pairs_all i ps qs beyond other same = ap (λ ts. pairs_bytes (pairs_of (tree_pairs_from ts)))
    (sym (ap (map pair_trees) (take_all i ps beyond)) ∙ same ∙ ap (map pair_trees) (take_all i qs other))
