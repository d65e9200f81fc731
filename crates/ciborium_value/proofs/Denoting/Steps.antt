-- What each token makes of what is unfinished and due.
use Rattle.std.proofs.Common.{◌≡◌, ◌≢◌, ℕ, zero, suc, ◌+◌, ◌<◌, Bool, true, false, List, [], ◌∷◌, ◌++◌, length, Some}
use Rattle.std.proofs.Common.{◌⊎◌, inl, inr, refl, sym, ap, ◌∙◌, subst, arith}
use Rattle.ciborium_value.specs.Denotes.{BeginsTree, BeginsItems, BeginsPairs, IsSeparated, IsToken, alone, listed}
use Rattle.ciborium_value.specs.{Denotes.{mapped, no_item, no_pair, pair, tagged}, Tokens.{behind_blanks, token_at}}
use Rattle.ciborium_value.specs.Tokens.{Token, leaf, begin_tag, end_tag, begin_array, end_array, begin_map, end_map}
use Rattle.ciborium_value.specs.{Tokens.{colon, comma}, Tree.{Tree, Trees, TreePairs}}
use Rattle.ciborium_value.specs.View.{trees_from, tree_pairs_from}
use Rattle.ciborium_value.specs.inner.ReadTokens.{Around, Complete, Completes, Leads, array_part, behind, in_array}
use Rattle.ciborium_value.specs.inner.ReadTokens.{in_keys, in_tag, in_values, item, map_part, enters, pairs_before}
use Rattle.ciborium_value.specs.inner.ReadTokens.{trees_before}
use Rattle.ciborium_value.specs.Denotes as denotes
use Rattle.ciborium_value.specs.Tree as trees

-- ---- trees in a row

trees-behind : (ws : List Tree) (w : Tree) (vs : Trees) →
    trees_before (ws ++ w ∷ []) vs ≡ trees_before ws (trees.tree w vs)
trees-behind [] w vs = refl
trees-behind (x ∷ ws) w vs = ap (trees.tree x) (trees-behind ws w vs)

pairs-behind : (qs : List (Tree × Tree)) (q : Tree × Tree) (ps : TreePairs) →
    pairs_before (qs ++ q ∷ []) ps ≡ pairs_before qs (trees.tree_pair q.0 q.1 ps)
pairs-behind [] q ps = refl
pairs-behind (x ∷ qs) q ps = ap (trees.tree_pair x.0 x.1) (pairs-behind qs q ps)

trees-whole : (ws : List Tree) → trees_before ws trees.no_trees ≡ trees_from ws
trees-whole [] = refl
trees-whole (w ∷ ws) = ap (trees.tree w) (trees-whole ws)

pairs-whole : (qs : List (Tree × Tree)) → pairs_before qs trees.no_tree_pairs ≡ tree_pairs_from qs
pairs-whole [] = refl
pairs-whole (q ∷ qs) = ap (trees.tree_pair q.0 q.1) (pairs-whole qs)

-- ---- a text begins with one token at most

pub one-token : (t : List ℕ) (k l : Token) (r s : List ℕ) → IsToken t k r → IsToken t l s → (k ≡ l) × (r ≡ s)
one-token t k l r s (x, b, e) (y, c, f) =
    let same : x ≡ y = cc (b, c) in
    let pair : (k, r) ≡ (l, s) = cc (e, f, ap token_at same) in (
      ap (λ (p : Token × List ℕ). p.0) pair,
      ap (λ (p : Token × List ℕ). p.1) pair,
    )

pub no-token : (t : List ℕ) (k : Token) (r : List ℕ) → behind_blanks t ≡ Some [] → IsToken t k r → ⊥
no-token t k r b (s, c, e) = let nil : s ≡ [] = cc (b, c) in absurd (cc (e, ap token_at nil))

-- ---- what begins with this token within l levels, and is followed by z

abbrev pub Begun : Token → ℕ → List ℕ → Tree → List ℕ → Type 0
Begun (leaf v) l r w z = (w ≡ v) × (z ≡ r)
Begun (begin_tag n) l r w z = (m : ℕ) × (l ≡ suc m) × (u : Tree) × (s : List ℕ) × (w ≡ trees.tag n u) ×
    BeginsTree m r u s × IsToken s end_tag z
Begun begin_array l r w z = (m : ℕ) × (l ≡ suc m) × (vs : Trees) × (w ≡ trees.array vs) × BeginsItems m false r vs z
Begun begin_map l r w z = (m : ℕ) × (l ≡ suc m) × (ps : TreePairs) × (w ≡ trees.map ps) × BeginsPairs m false r ps z
Begun _ l r w z = ⊥

pub begun : (k : Token) (l : ℕ) (t r z : List ℕ) (w : Tree) → IsToken t k r → BeginsTree l t w z → Begun k l r w z
begun k l t r z w at (alone _ v _ _ is) =
    let (e, f) = one-token t k (leaf v) r z at is in subst (λ h. Begun h l r v z) (sym e) (refl, sym f)
begun k l t r z w at (tagged m n v _ s u _ is d end) =
    let (e, f) = one-token t k (begin_tag n) r s at is in
    subst (λ h. Begun h (suc m) r (trees.tag n v) z) (sym e)
    (m, refl, v, u, refl, subst (λ x. BeginsTree m x v u) (sym f) d, end)
begun k l t r z w at (listed m vs _ s _ is b) =
    let (e, f) = one-token t k begin_array r s at is in
    subst (λ h. Begun h (suc m) r (trees.array vs) z) (sym e)
    (m, refl, vs, refl, subst (λ x. BeginsItems m false x vs z) (sym f) b)
begun k l t r z w at (mapped m ps _ s _ is b) =
    let (e, f) = one-token t k begin_map r s at is in
    subst (λ h. Begun h (suc m) r (trees.map ps) z) (sym e)
    (m, refl, ps, refl, subst (λ x. BeginsPairs m false x ps z) (sym f) b)

pub items-end : (l : ℕ) (due : Bool) (t r z : List ℕ) (vs : Trees) → IsToken t end_array r → BeginsItems l due t vs z →
    (vs ≡ trees.no_trees) × (z ≡ r)
items-end l due t r z vs at (no_item _ _ _ _ is) = (refl, sym (one-token t end_array end_array r z at is).1)
items-end l false t r z vs at (denotes.item _ _ v us _ s u _ e d m) =
    absurd (begun end_array l s r u v (subst (λ x. IsToken x end_array r) (sym e) at) d)
items-end l true t r z vs at (denotes.item _ _ v us _ s u _ is d m) =
    absurd (cc (one-token t end_array comma r s at is).0)

-- an item that its row begins with, and the others
abbrev Row : ℕ → List ℕ → Trees → List ℕ → Type 0
Row l t vs z = (v : Tree) × (us : Trees) × (u : List ℕ) × (vs ≡ trees.tree v us) × BeginsTree l t v u ×
    BeginsItems l true u us z

item-first : (l : ℕ) (k : Token) (t r z : List ℕ) (vs : Trees) → k ≢ end_array → IsToken t k r →
    BeginsItems l false t vs z → Row l t vs z
item-first l k t r z vs other at (no_item _ _ _ _ is) = absurd (other (one-token t k end_array r z at is).0)
item-first l k t r z vs other at (denotes.item _ _ v us _ s u _ e d m) =
    (v, us, u, refl, subst (λ x. BeginsTree l x v u) e d, m)

pub item-comma : (l : ℕ) (t r z : List ℕ) (vs : Trees) → IsToken t comma r → BeginsItems l true t vs z → Row l r vs z
item-comma l t r z vs at (no_item _ _ _ _ is) = absurd (cc (one-token t comma end_array r z at is).0)
item-comma l t r z vs at (denotes.item _ _ v us _ s u _ is d m) =
    (v, us, u, refl, subst (λ x. BeginsTree l x v u) (sym (one-token t comma comma r s at is).1) d, m)

pub other-behind-item : (l : ℕ) (k : Token) (t r z : List ℕ) (vs : Trees) → k ≢ end_array → k ≢ comma → IsToken t k r →
    BeginsItems l true t vs z → ⊥
other-behind-item l k t r z vs f g at (no_item _ _ _ _ is) = f (one-token t k end_array r z at is).0
other-behind-item l k t r z vs f g at (denotes.item _ _ v us _ s u _ is d m) = g (one-token t k comma r s at is).0

pub pairs-end : (l : ℕ) (due : Bool) (t r z : List ℕ) (ps : TreePairs) → IsToken t end_map r →
    BeginsPairs l due t ps z → (ps ≡ trees.no_tree_pairs) × (z ≡ r)
pairs-end l due t r z ps at (no_pair _ _ _ _ is) = (refl, sym (one-token t end_map end_map r z at is).1)
pairs-end l false t r z ps at (pair _ _ k v qs _ s u w x _ e d is f m) =
    absurd (begun end_map l s r u k (subst (λ x. IsToken x end_map r) (sym e) at) d)
pairs-end l true t r z ps at (pair _ _ k v qs _ s u w x _ sep d is f m) =
    absurd (cc (one-token t end_map comma r s at sep).0)

-- a pair that its row begins with, and the others
abbrev PairRow : ℕ → List ℕ → TreePairs → List ℕ → Type 0
PairRow l t ps z = (k : Tree) × (v : Tree) × (qs : TreePairs) × (u : List ℕ) × (w : List ℕ) × (x : List ℕ) ×
    (ps ≡ trees.tree_pair k v qs) × BeginsTree l t k u × IsToken u colon w × BeginsTree l w v x ×
    BeginsPairs l true x qs z

pair-first : (l : ℕ) (h : Token) (t r z : List ℕ) (ps : TreePairs) → h ≢ end_map → IsToken t h r →
    BeginsPairs l false t ps z → PairRow l t ps z
pair-first l h t r z ps other at (no_pair _ _ _ _ is) = absurd (other (one-token t h end_map r z at is).0)
pair-first l h t r z ps other at (pair _ _ k v qs _ s u w x _ e d is f m) =
    (k, v, qs, u, w, x, refl, subst (λ y. BeginsTree l y k u) e d, is, f, m)

pub pair-comma : (l : ℕ) (t r z : List ℕ) (ps : TreePairs) → IsToken t comma r → BeginsPairs l true t ps z →
    PairRow l r ps z
pair-comma l t r z ps at (no_pair _ _ _ _ is) = absurd (cc (one-token t comma end_map r z at is).0)
pair-comma l t r z ps at (pair _ _ k v qs _ s u w x _ sep d is f m) =
    (k, v, qs, u, w, x, refl, subst (λ y. BeginsTree l y k u) (sym (one-token t comma comma r s at sep).1) d, is, f, m)

pub other-behind-value : (l : ℕ) (h : Token) (t r z : List ℕ) (ps : TreePairs) → h ≢ end_map → h ≢ comma →
    IsToken t h r → BeginsPairs l true t ps z → ⊥
other-behind-value l h t r z ps f g at (no_pair _ _ _ _ is) = f (one-token t h end_map r z at is).0
other-behind-value l h t r z ps f g at (pair _ _ k v qs _ s u w x _ sep d is y m) = g (one-token t h comma r s at sep).0

-- the same tree behind the same text, where as many levels may be unfinished
moved : (levels : List Around) (x : Tree) {m n : ℕ} {v w : Tree} {r s : List ℕ} → m ≡ n → v ≡ w → r ≡ s →
    Complete m levels v r x → Complete n levels w s x
moved levels x {n = n} {v = v} {w = w} {r = r} {s = s} g e f c = subst (λ y. Complete n levels w y x) f
    (subst (λ y. Complete n levels y r x) e (subst (λ y. Complete y levels v r x) g c))

-- where there is room for a level more
room : (l m n : ℕ) → l ≡ m + n → n < l → (k : ℕ) × (m ≡ suc k)
room l zero n e h = absurd (omega (arith, e, h))
room l (suc k) n e h = (k, refl)

-- ---- where an item is due

pub leads-leaf : (levels : List Around) (v : Tree) → Leads levels item (leaf v) levels (behind v)
leads-leaf levels v = record {
  on = λ l t r x at (m, i, w, z, d, c). let (e, f) = begun (leaf v) m t r z w at d in (m, i, moved levels x refl e f c);
  back = λ l t r x _ at (m, i, c). (m, i, v, r, alone m v t r at, c);
}

pub leads-tag : (levels : List Around) (n : ℕ) → Leads levels item (begin_tag n) (in_tag n ∷ levels) item
leads-tag levels n = record {
  on = λ l t r x at (m, i, w, z, d, c). let (k, j, u, s, e, f, end) = begun (begin_tag n) m t r z w at d in
      (k, omega (arith, i, j), u, s, f, (z, end, moved levels x j e refl c));
  back = λ l t r x _ at (m, i, u, s, f, (z, end, c)).
      (suc m, omega (arith, i), trees.tag n u, z, tagged m n u t r s z at f end, c);
}

pub leads-array : (levels : List Around) → Leads levels item begin_array levels array_part
leads-array levels = record {
  on = λ l t r x at (m, i, w, z, d, c). let (k, j, vs, e, b) = begun begin_array m t r z w at d in
      (k, omega (arith, i, j), vs, z, b, moved levels x j e refl c);
  back = λ l t r x _ at (m, i, vs, z, b, c). (suc m, i, trees.array vs, z, listed m vs t r z at b, c);
}

pub leads-map : (levels : List Around) → Leads levels item begin_map levels map_part
leads-map levels = record {
  on = λ l t r x at (m, i, w, z, d, c). let (k, j, ps, e, b) = begun begin_map m t r z w at d in
      (k, omega (arith, i, j), ps, z, b, moved levels x j e refl c);
  back = λ l t r x _ at (m, i, ps, z, b, c). (suc m, i, trees.map ps, z, mapped m ps t r z at b, c);
}

-- ---- where the first part of an array is due

pub leads-no-item : (levels : List Around) →
    Leads levels array_part end_array levels (behind (trees.array trees.no_trees))
leads-no-item levels = record {
  on = λ l t r x at (m, i, vs, z, b, c).
      let (e, f) = items-end m false t r z vs at b in (suc m, i, moved levels x refl (ap trees.array e) f c);
  back = λ l t r x h at (m, i, c). let (k, j) = room l m (length levels) i h in
      (k, omega (arith, i, j), trees.no_trees, r, no_item k false t r at, moved levels x j refl refl c);
}

-- another token begins the first item
pub first-item : (l : ℕ) (levels : List Around) (k : Token) (t r : List ℕ) (x : Tree) → k ≢ end_array → IsToken t k r →
    Completes l levels array_part t x → Completes l (in_array [] ∷ levels) item t x
first-item l levels k t r x other at (m, i, vs, z, b, c) =
    let (v, us, u, e, d, more) = item-first m k t r z vs other at b in
    (m, omega (arith, i), v, u, d, (us, z, more, moved levels x refl (ap trees.array e) refl c))

pub first_leads : (levels more : List Around) (k : Token) (next : _) → k ≢ end_array →
    Leads (in_array [] ∷ levels) item k more next → Leads levels array_part k more next
first_leads levels more k next other leads = record {
  on = λ l t r x at h. leads.on l t r x at (first-item l levels k t r x other at h);
  back = λ l t r x h at c. let (m, i, v, u, d, (us, z, b, more)) = leads.back l t r x h at c in
      (m, omega (arith, i), trees.tree v us, z, denotes.item m false v us t t u z refl d b, more);
}

-- ---- where the first part of a map is due

pub leads-no-pair : (levels : List Around) →
    Leads levels map_part end_map levels (behind (trees.map trees.no_tree_pairs))
leads-no-pair levels = record {
  on = λ l t r x at (m, i, ps, z, b, c).
      let (e, f) = pairs-end m false t r z ps at b in (suc m, i, moved levels x refl (ap trees.map e) f c);
  back = λ l t r x h at (m, i, c). let (k, j) = room l m (length levels) i h in
      (k, omega (arith, i, j), trees.no_tree_pairs, r, no_pair k false t r at, moved levels x j refl refl c);
}

pub first-key : (l : ℕ) (levels : List Around) (k : Token) (t r : List ℕ) (x : Tree) → k ≢ end_map → IsToken t k r →
    Completes l levels map_part t x → Completes l (in_keys [] ∷ levels) item t x
first-key l levels k t r x other at (m, i, ps, z, b, c) =
    let (a, v, qs, u, w, y, e, d, is, f, more) = pair-first m k t r z ps other at b in
    (m, omega (arith, i), a, u, d, (v, w, y, qs, z, is, f, more, moved levels x refl (ap trees.map e) refl c))

pub key_leads : (levels more : List Around) (k : Token) (next : _) → k ≢ end_map →
    Leads (in_keys [] ∷ levels) item k more next → Leads levels map_part k more next
key_leads levels more k next other leads = record {
  on = λ l t r x at h. leads.on l t r x at (first-key l levels k t r x other at h);
  back = λ l t r x h at c.
      let (m, i, a, u, d, (v, w, y, qs, z, is, f, b, more)) = leads.back l t r x h at c in (
        m,
        omega (arith, i),
        trees.tree_pair a v qs,
        z,
        pair m false a v qs t t u w y z refl d is f b,
        more,
      );
}

-- ---- behind an item

pub leads-comma : (levels : List Around) (ws : List Tree) (w : Tree) →
    Leads (in_array ws ∷ levels) (behind w) comma (in_array (ws ++ w ∷ []) ∷ levels) item
leads-comma levels ws w = record {
  on = λ l t r x at (m, i, (vs, z, b, c)). let (v, us, u, e, d, more) = item-comma m t r z vs at b in
      let whole = ap (λ y. trees.array (trees_before ws (trees.tree w y))) e ∙ ap trees.array (sym (trees-behind ws w
      (trees.tree v us))) in (m, i, v, u, d, (us, z, more, moved levels x refl whole refl c));
  back = λ l t r x _ at (m, i, v, u, d, (us, z, b, c)).
      let whole = moved levels x refl (ap trees.array (trees-behind ws w (trees.tree v us))) refl c in
      (m, i, (trees.tree v us, z, denotes.item m true v us t r u z at d b, whole));
}

pub leads-end : (levels : List Around) (ws : List Tree) (w : Tree) →
    Leads (in_array ws ∷ levels) (behind w) end_array levels (behind (trees.array (trees_from (ws ++ w ∷ []))))
leads-end levels ws w = record {
  on = λ l t r x at (m, i, (vs, z, b, c)). let (e, f) = items-end m true t r z vs at b in (
    suc m,
    omega (arith, i),
    moved levels x refl (ap (λ y. trees.array (trees_before ws (trees.tree w y))) e ∙ whole) f c,
  );
  back = λ l t r x h at (m, i, c). let (k, j) = room l m (length levels) i h in
      (k, omega (arith, i, j), (trees.no_trees, r, no_item k true t r at, moved levels x j (sym whole) refl c));
}
  where
    whole : trees.array (trees_before ws (trees.tree w trees.no_trees)) ≡ trees.array (trees_from (ws ++ w ∷ []))
    whole = ap trees.array (sym (trees-behind ws w trees.no_trees) ∙ trees-whole (ws ++ w ∷ []))

pub leads-value : (levels : List Around) (qs : List (Tree × Tree)) (w : Tree) →
    Leads (in_keys qs ∷ levels) (behind w) colon (in_values qs w ∷ levels) item
leads-value levels qs w = record {
  on = λ l t r x at (m, i, (y, s, u, ps, z, is, d, b, c)).
      (m, i, y, u, subst (λ q. BeginsTree m q y u) (sym (one-token t colon colon r s at is).1) d, (ps, z, b, c));
  back = λ l t r x _ at (m, i, y, u, d, (ps, z, b, c)). (m, i, (y, r, u, ps, z, at, d, b, c));
}

pub leads-next-key : (levels : List Around) (qs : List (Tree × Tree)) (k w : Tree) →
    Leads (in_values qs k ∷ levels) (behind w) comma (in_keys (qs ++ (k, w) ∷ []) ∷ levels) item
leads-next-key levels qs k w = record {
  on = λ l t r x at (m, i, (ps, z, b, c)). let (a, v, us, u, s, y, e, d, is, f, more) = pair-comma m t r z ps at b in
      let whole = ap (λ b. trees.map (pairs_before qs (trees.tree_pair k w b))) e ∙ ap trees.map (sym (pairs-behind qs
      (k, w) (trees.tree_pair a v us))) in
      (m, i, a, u, d, (v, s, y, us, z, is, f, more, moved levels x refl whole refl c));
  back = λ l t r x _ at (m, i, a, u, d, (v, s, y, us, z, is, f, b, c)).
      let whole = moved levels x refl (ap trees.map (pairs-behind qs (k, w) (trees.tree_pair a v us))) refl c in
      (m, i, (trees.tree_pair a v us, z, pair m true a v us t r u s y z at d is f b, whole));
}

pub leads-map-end : (levels : List Around) (qs : List (Tree × Tree)) (k w : Tree) →
    Leads (in_values qs k ∷ levels) (behind w) end_map levels (behind (trees.map (tree_pairs_from (qs ++ (k, w) ∷ []))))
leads-map-end levels qs k w = record {
  on = λ l t r x at (m, i, (ps, z, b, c)). let (e, f) = pairs-end m true t r z ps at b in (
    suc m,
    omega (arith, i),
    moved levels x refl (ap (λ y. trees.map (pairs_before qs (trees.tree_pair k w y))) e ∙ whole) f c,
  );
  back = λ l t r x h at (m, i, c). let (n, j) = room l m (length levels) i h in
      (n, omega (arith, i, j), (trees.no_tree_pairs, r, no_pair n true t r at, moved levels x j (sym whole) refl c));
}
  where
    whole : trees.map (pairs_before qs (trees.tree_pair k w trees.no_tree_pairs)) ≡
        trees.map (tree_pairs_from (qs ++ (k, w) ∷ []))
    whole = ap trees.map (sym (pairs-behind qs (k, w) trees.no_tree_pairs) ∙ pairs-whole (qs ++ (k, w) ∷ []))

pub leads-tag-end : (levels : List Around) (n : ℕ) (w : Tree) →
    Leads (in_tag n ∷ levels) (behind w) end_tag levels (behind (trees.tag n w))
leads-tag-end levels n w = record {
  on = λ l t r x at (m, i, (z, is, c)).
      (suc m, omega (arith, i), moved levels x refl refl (sym (one-token t end_tag end_tag r z at is).1) c);
  back = λ l t r x h at (m, i, c). let (k, j) = room l m (length levels) i h in
      (k, omega (arith, i, j), (r, at, moved levels x j refl refl c));
}

-- ---- what stands at the front: a token, or the end where an item has ended in no level

-- a token stands at the front
abbrev HasToken : List ℕ → Type 0
HasToken t = (k : Token) × (r : List ℕ) × IsToken t k r

begins-token : (l : ℕ) (t r : List ℕ) (v : Tree) → BeginsTree l t v r → HasToken t
begins-token l t r v (alone _ _ _ _ is) = (leaf v, r, is)
begins-token l t r v (tagged _ n _ _ s _ _ is d end) = (begin_tag n, s, is)
begins-token l t r v (listed _ _ _ s _ is m) = (begin_array, s, is)
begins-token l t r v (mapped _ _ _ s _ is m) = (begin_map, s, is)

separated-token : (l : ℕ) (due : Bool) (t s r : List ℕ) (v : Tree) → IsSeparated due t s → BeginsTree l s v r →
    HasToken t
separated-token l false t s r v e d = begins-token l t r v (subst (λ x. BeginsTree l x v r) e d)
separated-token l true t s r v is d = (comma, s, is)

items-token : (l : ℕ) (due : Bool) (t r : List ℕ) (vs : Trees) → BeginsItems l due t vs r → HasToken t
items-token l due t r vs (no_item _ _ _ _ is) = (end_array, r, is)
items-token l due t r vs (denotes.item _ _ v us _ s u _ sep d m) = separated-token l due t s u v sep d

pairs-token : (l : ℕ) (due : Bool) (t r : List ℕ) (ps : TreePairs) → BeginsPairs l due t ps r → HasToken t
pairs-token l due t r ps (no_pair _ _ _ _ is) = (end_map, r, is)
pairs-token l due t r ps (pair _ _ k v qs _ s u w x _ sep d is f m) = separated-token l due t s u k sep d

pub front : (l : ℕ) (levels : List Around) (due : _) (t : List ℕ) (x : Tree) → Completes l levels due t x →
    ((behind_blanks t ≡ Some []) × (levels ≡ []) × (w : Tree) × (due ≡ behind w)) ⊎ HasToken t
front l levels item t x (m, i, w, r, d, c) = inr (begins-token m t r w d)
front l levels array_part t x (m, i, vs, r, b, c) = inr (items-token m false t r vs b)
front l levels map_part t x (m, i, ps, r, b, c) = inr (pairs-token m false t r ps b)
front l [] (behind w) t x (m, i, (none, e)) = inl (none, refl, w, refl)
front l (in_array ws ∷ levels) (behind w) t x (m, i, (vs, r, b, c)) = inr (items-token m true t r vs b)
front l (in_keys qs ∷ levels) (behind w) t x (m, i, (v, s, u, ps, r, is, d, b, c)) = inr (colon, s, is)
front l (in_values qs k ∷ levels) (behind w) t x (m, i, (ps, r, b, c)) = inr (pairs-token m true t r ps b)
front l (in_tag n ∷ levels) (behind w) t x (m, i, (r, is, c)) = inr (end_tag, r, is)

-- where the text ends, an item has ended in no level
pub ends : (l : ℕ) (levels : List Around) (due : _) (t : List ℕ) (x : Tree) → behind_blanks t ≡ Some [] →
    Completes l levels due t x → levels ≡ []
ends l levels due t x none c = elim (front l levels due t x c)
    [ inl h ↦ h.1 | inr h ↦ absurd (no-token t h.0 h.1 none h.2) ]

-- ---- a token that enters a level finds room for it

pub enters-deeper : (l : ℕ) (levels : List Around) (k : Token) (t r : List ℕ) (x : Tree) → enters k ≡ true →
    IsToken t k r → Completes l levels item t x → length levels < l
enters-deeper l levels k t r x o at (m, i, w, z, d, c) = of k o (begun k m t r z w at d)
  where
    of : (k : Token) → enters k ≡ true → Begun k m r w z → length levels < l
    of (begin_tag n) o b = let j = b.1 in omega (arith, i, j)
    of begin_array o b = let j = b.1 in omega (arith, i, j)
    of begin_map o b = let j = b.1 in omega (arith, i, j)
    of _ o b = absurd (cc o)
